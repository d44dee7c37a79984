-- The pairs leave the literal's lanes; the lowest left at the end is its first place.
use Rattle.std.proofs.Common.{◌≡◌, ◌+◌, ◌-◌, ◌<◌, ◌⊎◌, inl, inr, ⊎_elim, List, ℕ, length, min, sym, ◌∙◌, arith}
use Rattle.std.proofs.lemmas.Bool.{cases_lt, true≢false}
use Rattle.path_pattern.proofs.BlockLemmas.{first_in_block, left_at_first, left_by_next, nowhere_in_block, some_marked}
use Rattle.path_pattern.proofs.blocks.found_in_block.Goals as goal

pub loop-seen-init : goal.loop-seen-init
loop-seen-init c = (
  left_at_first c.args.path.now c.args.literal.now c.args.start _ _ _ c.requires.telling.0 c.requires.telling.1 c.two_left-left.ensures,
  λ none. true≢false (sym (c.is_none.ensures.1 none) ∙ c.if-is_none.false),
)

pub returns-then-is_none : goal.returns-then-is_none
returns-then-is_none c =
    let left = left_at_first c.args.path.now c.args.literal.now c.args.start _ _ _ c.requires.telling.0 c.requires.telling.1 c.two_left-left.ensures in
    nowhere_in_block c.args.path.now c.args.literal.now _ c.args.start 0 left (c.is_none.ensures.0 c.if-is_none.true)

within : (literal : List ℕ) (pair seen : ℕ) → 1 < length literal → pair ≡ min seen (length literal - 2) → pair + 1 < length literal
within literal pair seen two is = omega arith

which : (literal : List ℕ) (pair seen : ℕ) → 1 < length literal → pair ≡ min seen (length literal - 2) → (pair ≡ seen) ⊎ (pair + 2 ≡ length literal)
which literal pair seen two is = ⊎_elim (λ below. inl (omega arith)) (λ from. inr (omega arith)) (cases_lt seen (length literal - 2))

pub loop-seen-preserved : goal.loop-seen-preserved
loop-seen-preserved c =
    let literal = c.args.literal.now in
    let seen = c.loop-seen.seen in
    let is = c.min-pair.ensures in (
      left_by_next c.args.path.now literal c.args.start seen c.min-pair.result c.loop-seen.left _ (within literal _ seen c.requires.two is) (omega arith) (which literal _ seen c.requires.two is) c.two_left-next.ensures c.loop-seen.invariant.0,
      λ none. true≢false (sym (c.is_none-in-loop-seen.ensures.1 none) ∙ c.if-is_none-2.false),
    )

pub returns-then-is_none-2 : goal.returns-then-is_none-2
returns-then-is_none-2 c =
    let literal = c.args.literal.now in
    let seen = c.loop-seen.seen in
    let is = c.min-pair.ensures in
    let left = left_by_next c.args.path.now literal c.args.start seen c.min-pair.result c.loop-seen.left _ (within literal _ seen c.requires.two is) (omega arith) (which literal _ seen c.requires.two is) c.two_left-next.ensures c.loop-seen.invariant.0 in
    (nowhere_in_block c.args.path.now literal _ c.args.start (seen + 2) left (c.is_none-in-loop-seen.ensures.0 c.if-is_none-2.true), (c.telling_of-first.ensures, c.requires.telling.0))

pub lowest-requires : goal.lowest-requires
lowest-requires c = some_marked c.loop-seen.left _ c.loop-seen.invariant.1 c.top_bits.ensures

pub returns : goal.returns
returns c =
    let low = c.lowest.ensures in
    first_in_block c.args.path.now c.args.literal.now c.loop-seen.left c.args.start c.loop-seen.seen _ c.lowest.result c.requires.room (omega arith) c.loop-seen.invariant.0 c.top_bits.ensures low.bound low.set low.below
