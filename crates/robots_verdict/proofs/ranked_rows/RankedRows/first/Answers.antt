-- One more group, or the last one again.
use Rattle.std.proofs.Common.{◌≡◌, ◌⊎◌, ◌+◌, ℕ, suc, List, ◌∷◌, [], ◌++◌, get_or, take, ap, sym, subst, ◌∙◌, arith}
use Rattle.std.specs.Prelude.{Contains, IfSome, Option}
use Rattle.std.proofs.Math.Seq.{take-suc}
use Rattle.std.proofs.lemmas.List.Elements.{Contains-push}
use Rattle.robots_verdict.specs.Index.{FindsLeast, IsHit}
use Rattle.robots_verdict.specs.Search.{IsFound, IsHitIn}
use Rattle.robots_verdict.proofs.Joining.{one_group_more, same_group_again, still_tried, tried_before}
use Rattle.robots_verdict.proofs.ranked_rows.RankedRows.first.Goals.{then-ne, else-ne}
use Rattle.robots_verdict.proofs.ranked_rows.RankedRows.first.Goals as goal

pub loop-group-preserved : goal.loop-group-preserved
loop-group-preserved c =
    let rows = c.args.rows.now.rows in
    let groups = c.args.groups.now in
    let path = c.args.path.now in
    let count = c.loop-group.group-index in
    let group = get_or groups count 0 in
    let next : count + 1 ≡ suc count = omega arith in
    let more : take (count + 1) groups ≡ take count groups ++ group ∷ [] = ap (λ (n : ℕ). take n groups) next ∙ take-suc groups count 0 c.loop-group-test.true in
    let has : Contains (take (count + 1) groups) group = subst (λ (gs : List ℕ). Contains gs group) (sym more) (Contains-push (take count groups) group) in
    elim c.if-ne.branch [
      | then-ne w ↦ record {
        stays = w.path-is ∙ w.first_of-found.ensures.stays ∙ c.loop-group.invariant.stays;
        least = subst (FindsLeast (IsHit rows (take (count + 1) groups) path)) (sym w.found-is)
            (one_group_more rows (take count groups) group (take (count + 1) groups) path c.loop-group.found w.first_of-found.result more c.loop-group.invariant.least (subst (λ them. FindsLeast (λ place. IsFound c.loop-group.found place ⊎ IsHitIn rows group them place) w.first_of-found.result) c.loop-group.invariant.stays w.first_of-found.ensures.finds));
        tried = subst (λ (last : Option ℕ). IfSome last (Contains (take (count + 1) groups))) (sym w.last-is) has;
      }
      | else-ne w ↦ record {
        stays = w.path-is ∙ c.loop-group.invariant.stays;
        least = subst (FindsLeast (IsHit rows (take (count + 1) groups) path)) (sym w.found-is)
            (same_group_again rows (take count groups) group (take (count + 1) groups) path c.loop-group.found more (tried_before c.loop-group.last group (take count groups) c.loop-group.invariant.tried (sym c.ne.ensures ∙ w.if-ne.false)) c.loop-group.invariant.least);
        tried = subst (λ (last : Option ℕ). IfSome last (Contains (take (count + 1) groups))) (sym w.last-is)
            (still_tried c.loop-group.last (take count groups) group (take (count + 1) groups) more c.loop-group.invariant.tried);
      }
    ]
