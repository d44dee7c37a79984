-- The last plain key that is a prefix of the group and the path is the strongest plain row's.
use Rattle.std.proofs.Common.{◌≡◌, ◌<◌, List, ℕ, get_or, sym, ap, ◌∙◌, subst, arith, length}
use Rattle.std.specs.Prelude.{Some, slice_index}
use Rattle.std.proofs.lemmas.List.{get_or_default}
use Rattle.robots_verdict.specs.Index.{FindsLeast}
use Rattle.robots_verdict.specs.Search.{IsPlainHit, IsPlainIndex}
use Rattle.robots_verdict.proofs.PlainHits.{last_hits, none_behind, none_hits}
use Rattle.robots_verdict.proofs.plain.Plain.least.Goals as goal

pub last_begun-requires-clause-behind : goal.last_begun-requires-clause-behind
last_begun-requires-clause-behind c =
    let rows = c.args.rows.now.rows in
    let index = subst (λ (places : List ℕ). IsPlainIndex rows places c.args.self.now.parents) (sym c.as_slice-places.ensures.value) c.requires.index in
    none_behind rows c.as_slice-places.result.now index.rise c.args.group c.args.path.now c.count_to-count.result c.count_to-count.ensures

pub returns-in_err-last : goal.returns-in_err-last
returns-in_err-last c =
    let rows = c.args.rows.now.rows in
    let index = subst (λ (places : List ℕ). IsPlainIndex rows places c.args.self.now.parents) (sym c.as_slice-places.ensures.value) c.requires.index in
    subst (FindsLeast (IsPlainHit rows c.args.group c.args.path.now)) (sym c.from_residual.ensures)
    (none_hits rows c.as_slice-places.result.now index.rise c.args.group c.args.path.now c.count_to-count.result c.count_to-count.ensures index.each c.in_err-last.ensures)

pub returns : goal.returns
returns c =
    let rows = c.args.rows.now.rows in
    let places = c.as_slice-places.result.now in
    let last = c.in_ok-last.last in
    let index = subst (λ (l : List ℕ). IsPlainIndex rows l c.args.self.now.parents) (sym c.as_slice-places.ensures.value) c.requires.index in
    let found = last_hits rows places index.rise c.args.group c.args.path.now c.count_to-count.result c.count_to-count.ensures index.each index.are c.requires.falling last c.in_ok-last.ensures in
    let within : last < length places = omega (arith, c.in_ok-last.ensures.0, c.count_to-count.ensures.fits) in
    let is : slice_index places last ≡ c.index.result.now =
    get_or_default places last 0 c.index.result.now within ∙ ap (λ (l : List ℕ). get_or l last c.index.result.now) c.as_slice-places.ensures.value ∙ sym c.index.ensures in
    subst (λ (place : ℕ). FindsLeast (IsPlainHit rows c.args.group c.args.path.now) (Some place)) is found
