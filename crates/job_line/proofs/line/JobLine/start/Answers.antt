-- The rule holds of a new line.
-- Used by `JobLine::start`.
use Rattle.std.proofs.Common.{◌≡◌, ◌≤◌, ◌∙◌, [], subst, sym, arith}
use Rattle.atomic_table.specs.Table.{opening}
use Rattle.job_line.specs.Rule.{Holds, first_hand}
use Rattle.job_line.specs.Sums.{jobs_in}
use Rattle.job_line.proofs.Plays.{opens}
use Rattle.job_line.proofs.line.JobLine.start.Goals as goal

pub of_words-requires : goal.of_words-requires
of_words-requires c =
    let counts = c.in_ok-counts.counts.items in
    let is : counts ≡ c.args.counts.now = (c.in_ok-counts.ensures {u = tt}).items_if_clones_equal (λ x y same. same) in
    let words = c.as_slice-2.ensures.value ∙ (c.in_ok-words.ensures {u = tt}).items_if_clones_equal (λ y same. same) in
    let limit : jobs_in counts ≤ 4096 = subst (λ counts. jobs_in counts ≤ 4096) (sym is) c.requires in
    subst (λ words. Holds counts (opening words [] (first_hand counts))) (sym words) (opens counts c.max.result limit (omega (arith, c.len.ensures, c.max.ensures, c.in_ok-counts.counts.ok)))
