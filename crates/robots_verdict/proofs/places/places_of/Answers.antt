-- Each place goes to one of the lists.
use Rattle.std.proofs.Common.{◌+◌, List, ℕ, true, false, sym, ap, ◌∙◌, subst}
use Rattle.std.proofs.lemmas.Bool.{true≢false}
use Rattle.robots_verdict.specs.Search.{ArePlaces, is_plain_pattern}
use Rattle.robots_verdict.proofs.Placing.{passed, pushed}
use Rattle.robots_verdict.proofs.places.places_of.Goals as goal
use Rattle.robots_verdict.proofs.places.places_of.Goals.{then-is_plain_pattern+in_ok-push, else-is_plain_pattern+in_ok-push-2}

pub loop-place-preserved : goal.loop-place-preserved
loop-place-preserved c =
    let rows = c.args.rows.now.rows in
    let place = c.loop-place.place in
    let plain = c.loop-place.plain.items in
    let others = c.loop-place.others.items in
    let test = sym (c.is_plain_pattern.ensures ∙ ap is_plain_pattern c.form.ensures) in
    elim c.if-is_plain_pattern.branch [
      | then-is_plain_pattern+in_ok-push w ↦ (
          let is = test ∙ w.if-is_plain_pattern.true in (
            subst (λ (places : List ℕ). ArePlaces rows true places (place + 1)) (sym w.in_ok-push.ensures.items ∙ sym (ap (λ places. places.items) w.plain-is))
                (pushed rows true plain place c.loop-place.invariant.0 is),
            subst (λ (places : List ℕ). ArePlaces rows false places (place + 1)) (sym (ap (λ places. places.items) w.others-is))
                (passed rows false others place c.loop-place.invariant.1 (λ not. true≢false (sym is ∙ not))),
          )
          )
      | else-is_plain_pattern+in_ok-push-2 w ↦ (
          let is = test ∙ w.if-is_plain_pattern.false in (
            subst (λ (places : List ℕ). ArePlaces rows true places (place + 1)) (sym (ap (λ places. places.items) w.plain-is))
                (passed rows true plain place c.loop-place.invariant.0 (λ not. true≢false (sym not ∙ is))),
            subst (λ (places : List ℕ). ArePlaces rows false places (place + 1)) (sym w.in_ok-push-2.ensures.items ∙ sym (ap (λ places. places.items) w.others-is))
                (pushed rows false others place c.loop-place.invariant.1 is),
          )
          )
    ]
