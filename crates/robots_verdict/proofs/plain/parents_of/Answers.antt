-- The next key's parent is its last prefix before it, and no index exceeds the limit.
use Rattle.std.proofs.Common.{◌≡◌, ◌∷◌, ◌+◌, ◌<◌, ◌≤◌, ◌++◌, false, List, ℕ, All, sym, subst, arith}
use Rattle.std.specs.Prelude.{Option, Some, None, IfSome}
use Rattle.std.specs.Ordering.{is_lt, nat_cmp}
use Rattle.std.specs.Cmp.Lexicographic.{slice_cmp}
use Rattle.std.proofs.lemmas.List.{append-nil}
use Rattle.std.proofs.lemmas.List.Elements.{All-push}
use Rattle.robots_text.specs.Lines.{text_limit}
use Rattle.robots_verdict.specs.Parents.{listed}
use Rattle.robots_verdict.specs.Placed.{Placed}
use Rattle.robots_verdict.specs.Search.{AreParents, IsLastBegun, key_at}
use Rattle.robots_verdict.proofs.Chains.{keys_rise, parents_pushed}
use Rattle.robots_verdict.proofs.plain.parents_of.Goals as goal

pub last_begun-parent-requires-clause-behind : goal.last_begun-parent-requires-clause-behind
last_begun-parent-requires-clause-behind c =
    let rows = c.args.rows.now.rows in
    let places = c.args.places.now in
    let count = c.loop-index.index in
    let text : key_at rows places count ≡ c.group-group.result ∷ c.form.result.now = λ i. sym c.group-group.ensures i ∷ sym c.form.ensures i in
    subst (λ (text : List ℕ). (index : ℕ) → index < count → is_lt (slice_cmp nat_cmp text (key_at rows places index)) ≡ false) text
    (λ index less. keys_rise rows places c.requires.rise index count (omega (arith, less)) c.loop-index-test.true)

within_limit : (rows : List Placed) (places : List ℕ) (count : ℕ) (text : List ℕ) (last : Option ℕ) → IsLastBegun rows places count text last → count ≤ text_limit →
    IfSome last (λ index. index < text_limit)
within_limit rows places count text None is few = tt
within_limit rows places count text (Some last) is few = omega (arith, is.0, few)

pub push-requires-clause-parent : goal.push-requires-clause-parent
push-requires-clause-parent c =
    within_limit c.args.rows.now.rows c.args.places.now c.loop-index.index (c.group-group.result ∷ c.form.result.now) c.last_begun-parent.result c.last_begun-parent.ensures
    (omega (arith, c.loop-index-test.true, c.requires.few))

all_below : (children : List (ℕ × ℕ)) (count : ℕ) (parent : Option ℕ) → All (λ child. child.0 < count) children → All (λ child. child.0 < count + 1) (children ++ listed count parent)
all_below children count None behind = subst (All (λ child. child.0 < count + 1)) (sym (append-nil children)) (λ k d less. let low = behind k d less in omega (arith, low))
all_below children count (Some parent) behind = All-push (λ child. child.0 < count + 1) children (count, parent) (λ k d less. let low = behind k d less in omega (arith, low)) (omega arith)

pub loop-index-preserved : goal.loop-index-preserved
loop-index-preserved c =
    let rows = c.args.rows.now.rows in
    let places = c.args.places.now in
    let count = c.loop-index.index in
    let parents = c.loop-index.parents in
    let parent : Option ℕ = c.last_begun-parent.result in
    let text : c.group-group.result ∷ c.form.result.now ≡ key_at rows places count = λ i. c.group-group.ensures i ∷ c.form.ensures i in
    let found = subst (λ (text : List ℕ). IsLastBegun rows places count text c.last_begun-parent.result) text c.last_begun-parent.ensures in (
      subst (All (λ child. child.0 < count + 1)) (sym c.in_ok-push.ensures) (all_below parents count parent c.loop-index.invariant.0),
      subst (λ (all : List (ℕ × ℕ)). AreParents rows places all (count + 1)) (sym c.in_ok-push.ensures)
          (parents_pushed rows places parents count parent c.loop-index.invariant.0 c.loop-index.invariant.1 found),
    )
