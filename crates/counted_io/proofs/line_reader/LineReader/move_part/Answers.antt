-- The line gets exactly what leaves the buffer.
use Rattle.std.proofs.Common.{rules, arith, sym, ap, ◌∙◌, ◌≡◌, ◌<◌, ◌≤◌, ◌-◌, ◌++◌, length, take, take-append-drop, length-append}
use Rattle.std.proofs.lemmas.Grind.{common_steps}
use Rattle.std.proofs.lemmas.List.{length-take, length-take-le}
use Rattle.std.specs.Prelude.{slice_index}
use Rattle.counted_io.specs.Lines.{without_end}
use Rattle.counted_io.proofs.Taking.{long_without_end, line_taken}
use Rattle.counted_io.proofs.line_reader.LineReader.move_part.Goals as goal

pub returns-then-saturating_sub-limit-clause-moves :
    goal.returns-then-saturating_sub-limit-clause-moves
returns-then-saturating_sub-limit-clause-moves c =
    let part = take c.part_len-count.result c.args.self.now in
    let within : c.part_len-count.result ≤ length c.args.self.now = search rules in
    let long : c.args.limit < length (c.args.line.now.items ++ part) - 1 =
    omega (arith, length-append c.args.line.now.items part, length-take-le c.part_len-count.result c.args.self.now within) in
    record {
      part = part;
      no_line_feed = rw c.pending.ensures.value at c.part_len-count.ensures.no_line_feed;
      within = omega (arith, c.part_len-count.ensures.within, c.pending.ensures.len, length-take c.part_len-count.result c.args.self.now);
      taken = sym (take-append-drop c.part_len-count.result c.args.self.now) ∙ ap (λ l. part ++ l) (sym c.skip.ensures);
      too_long = long_without_end c.args.end c.args.limit (c.args.line.now.items ++ part) long;
    }

pub returns-then-len-limit-clause-moves : goal.returns-then-len-limit-clause-moves
returns-then-len-limit-clause-moves c =
    let part = take c.part_len-count.result c.args.self.now in
    let grown : c.extend_from_slice.new.self.items ≡ c.args.line.now.items ++ part = grind (arith, common_steps) in
    let cut : c.drop_end.new.line.items ≡ without_end c.args.end (c.args.line.now.items ++ part) = c.drop_end.ensures ∙ ap (without_end c.args.end) grown in
    record {
      part = part;
      no_line_feed = rw c.pending.ensures.value at c.part_len-count.ensures.no_line_feed;
      within = omega (arith, c.part_len-count.ensures.within, c.pending.ensures.len, length-take c.part_len-count.result c.args.self.now);
      taken = sym (take-append-drop c.part_len-count.result c.args.self.now) ∙ ap (λ l. part ++ l) (sym c.skip-2.ensures);
      too_long = omega (arith, ap length cut);
    }

pub returns-clause-moves : goal.returns-clause-moves
returns-clause-moves c =
    let part = take c.part_len-count.result c.args.self.now in
    let grown : c.extend_from_slice.new.self.items ≡ c.args.line.now.items ++ part = grind (arith, common_steps) in
    let follows : c.part_len-count.result < length c.args.self.now = search rules in
    let feed : slice_index c.args.self.now c.part_len-count.result ≡ 10 = search rules in
    record {
      part = part;
      no_line_feed = rw c.pending.ensures.value at c.part_len-count.ensures.no_line_feed;
      taken = line_taken _ _ _ _ follows feed c.skip-2.ensures c.skip-3.ensures;
      added_is = c.drop_end.ensures ∙ ap (without_end c.args.end) grown;
      fits = search rules;
    }
