-- The last line feed lies in the range, if any does.
use Rattle.std.proofs.Common.{◌≡◌, ◌≤◌, ◌∙◌, ap, arith, length, sym, vec_len}
use Rattle.std.proofs.lemmas.Bool.Decides.{nat_tests}
use Rattle.counted_io.proofs.Taking.{feed_before, feed_within}
use Rattle.counted_io.proofs.line_reader.LineReader.has_line.Goals as goal

pub returns : goal.returns
returns c =
    let len : length c.self.inside.buffer.items ≡ vec_len c.self.inside.buffer = ap length (sym c.as_slice-octets.ensures.value) ∙ c.as_slice-octets.ensures.len in
    let bound : c.self.inside.end ≤ length c.self.inside.buffer.items = rw len c.self.invariant.1 in (
      λ before. feed_within _ _ _ _ _ (sym c.self.view_is) bound c.self.invariant.3 (grind (arith, nat_tests, before)),
      λ found. feed_before _ _ _ _ _ (sym c.self.view_is) bound c.self.invariant.3 found,
    )
