-- The places are put in order.
use Rattle.std.proofs.Common.{rules, of_calls, ℕ, false, length, ap, ◌∙◌}
use Rattle.std.specs.Ordering.{is_lt}
use Rattle.std.proofs.lemmas.Fn.{always_returns_same}
use Rattle.std.proofs.lemmas.List.Sorted.{ranks_by}
use Rattle.robots_verdict.specs.Search.{compare_others, groups_at}
use Rattle.robots_verdict.proofs.OtherHits.{others_total}
use Rattle.robots_verdict.proofs.Placing.{still_places}
use Rattle.robots_verdict.proofs.others.Others.of.Goals as goal

pub returns : goal.returns
returns c =
    let rows = c.args.rows.now.rows in
    record {
      are = still_places rows false c.args.places.items c.sort_unstable_by.new.self.items (length rows) c.requires c.sort_unstable_by.ensures.permutation;
      rise = c.sort_unstable_by.ensures.sorted (λ one other. is_lt (compare_others rows one other)) (ranks_by (others_total rows) (λ (n : ℕ). n))
          (always_returns_same _ _ _ (λ a r f k. search (rules, of_calls)));
      groups_are = c.in_ok-groups.ensures ∙ ap (groups_at rows) c.as_slice.ensures.value;
    }
