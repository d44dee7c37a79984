-- The first match, if nothing stronger was found before.
use Rattle.std.proofs.Common.{◌≡◌, List, ℕ, sym, ◌∙◌, subst}
use Rattle.std.proofs.lemmas.Bool.{true≢false}
use Rattle.path_pattern.specs.Matches.{Matches}
use Rattle.robots_verdict.specs.Placed.{Placed}
use Rattle.robots_verdict.specs.Search.{IsOtherIndex}
use Rattle.robots_verdict.proofs.OtherHits.{at_end, at_hit, at_other_group, at_weaker, groups_rise}
use Rattle.robots_verdict.proofs.others.Others.least.Goals as goal
use Rattle.robots_verdict.proofs.others.Others.least.Goals.{then-groups-index-via-then-groups-index, then-groups-index-via-else-groups-index+then-is_above}

same_index : (rows : List Placed) (places places' groups groups' : List ℕ) → places ≡ places' → groups ≡ groups' → IsOtherIndex rows places' groups' → IsOtherIndex rows places groups
same_index rows places places' groups groups' one other index =
    subst (λ (l : List ℕ). IsOtherIndex rows l groups) (sym one) (subst (IsOtherIndex rows places') (sym other) index)

pub count_below-start-requires : goal.count_below-start-requires
count_below-start-requires c =
    let places = c.as_slice-places.result.now in
    let groups = c.as_slice-groups.result.now in
    let index = same_index c.args.rows.now.rows places _ groups _ c.as_slice-places.ensures.value c.as_slice-groups.ensures.value c.requires in
    groups_rise c.args.rows.now.rows places groups index.rise index.groups_are

pub returns-then-groups-index : goal.returns-then-groups-index
returns-then-groups-index c =
    let rows = c.args.rows.now.rows in
    let places = c.as_slice-places.result.now in
    let groups = c.as_slice-groups.result.now in
    let index = same_index rows places _ groups _ c.as_slice-places.ensures.value c.as_slice-groups.ensures.value c.requires in
    let at = c.loop-index.index in
    record {
      finds = elim c.then-groups-index.branch [
        | then-groups-index-via-then-groups-index w ↦ at_other_group rows places groups index c.args.group c.args.path.now c.count_below-start.result c.count_below-start.ensures c.args.found at
            c.loop-index.auto.index c.loop-index.invariant.1 c.loop-index-test.true w.if-groups-index.true
        | then-groups-index-via-else-groups-index+then-is_above w ↦ at_weaker rows places groups index c.args.group c.args.path.now c.count_below-start.result c.count_below-start.ensures c.args.found at
            c.loop-index.auto.index c.loop-index.invariant.1 c.loop-index-test.true (w.is_above.ensures.0 w.if-is_above.true)
      ];
      stays = c.loop-index.invariant.0;
    }

pub returns-then-matches : goal.returns-then-matches
returns-then-matches c =
    let rows = c.args.rows.now.rows in
    let places = c.as_slice-places.result.now in
    let groups = c.as_slice-groups.result.now in
    let index = same_index rows places _ groups _ c.as_slice-places.ensures.value c.as_slice-groups.ensures.value c.requires in
    record {
      finds = at_hit rows places groups index c.args.group c.args.path.now c.count_below-start.result c.count_below-start.ensures c.args.found c.loop-index.index
          c.loop-index.auto.index c.loop-index.invariant.1 c.loop-index-test.true c.if-groups-index.false
          (λ above. true≢false (sym (c.is_above.ensures.1 above) ∙ c.if-is_above.false))
          (subst (λ (form : List ℕ). Matches form c.args.path.now) c.form.ensures (subst (Matches c.form.result.now) c.loop-index.invariant.0 (c.matches.ensures.tells.0 c.if-matches.true)));
      stays = c.matches.ensures.stays ∙ c.loop-index.invariant.0;
    }

pub returns : goal.returns
returns c =
    let rows = c.args.rows.now.rows in
    let places = c.as_slice-places.result.now in
    let groups = c.as_slice-groups.result.now in
    let index = same_index rows places _ groups _ c.as_slice-places.ensures.value c.as_slice-groups.ensures.value c.requires in
    record {
      finds = at_end rows places groups index c.args.group c.args.path.now c.count_below-start.result c.count_below-start.ensures c.args.found c.loop-index.index
          c.loop-index.auto.index c.loop-index.invariant.1 c.loop-index-test.false;
      stays = c.loop-index.invariant.0;
    }
