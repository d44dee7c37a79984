-- A text without the front at its start does not begin with it.
use Rattle.std.proofs.Common.{length, take, ap, ◌∙◌, sym}
use Rattle.std.proofs.Math.Seq.{take-append_seam}
use Rattle.std.proofs.lemmas.Bool.{true≢false}
use Rattle.std.proofs.lemmas.Slice.Eq.{bytes_eq-Decides}
use Rattle.line_text.proofs.octets.strip.Goals as goal

pub returns-else-eq : goal.returns-else-eq
returns-else-eq c = λ behind is.
    let front = c.args.front.now in
    let same = c.split_at.ensures.front ∙ ap (take (length front)) is ∙ take-append_seam front behind in
    true≢false (sym ((bytes_eq-Decides c.split_at.result.0.now front).1 same) ∙ sym c.eq.ensures ∙ c.if-eq.false)
