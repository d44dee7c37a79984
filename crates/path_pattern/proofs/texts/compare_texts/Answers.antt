-- The numbers decide unless they are equal; then the rest decides.
use Rattle.std.proofs.Common.{◌≡◌, drop, sym, ap, ◌∙◌, subst}
use Rattle.std.specs.declared.cmp.Ordering.{Ordering}
use Rattle.std.specs.Ordering.{nat_cmp, ordering_then}
use Rattle.std.specs.Cmp.Lexicographic.{slice_cmp}
use Rattle.path_pattern.specs.Texts.{AreOctets, spelled_number}
use Rattle.path_pattern.proofs.Spelling.{by_numbers, equal_first, rest_octets, rest_of, unequal_first}
use Rattle.path_pattern.proofs.texts.compare_texts.Goals as goal

pub returns-then-is_ne : goal.returns-then-is_ne
returns-then-is_ne c =
    let left = c.loop.left.now in
    let right = c.loop.right.now in
    let order = c.cmp-order.result in
    let rest = slice_cmp nat_cmp (drop 8 left) (drop 8 right) in
    let is : order ≡ nat_cmp (spelled_number 8 0 left) (spelled_number 8 0 right) = c.cmp-order.ensures ∙ (λ i. nat_cmp (c.front.ensures i) (c.front-in-loop.ensures i)) in
    sym (unequal_first order rest (sym c.is_ne.ensures ∙ c.if-is_ne.true)) ∙ ap (λ (o : Ordering). ordering_then o rest) is
    ∙ sym (by_numbers 8 0 left right c.if-left-lt8.false c.if-right-lt8.false c.loop.invariant.1 c.loop.invariant.2) ∙ c.loop.invariant.0

pub loop-preserved : goal.loop-preserved
loop-preserved c =
    let left = c.loop.left.now in
    let right = c.loop.right.now in
    let order = c.cmp-order.result in
    let rest = slice_cmp nat_cmp (drop 8 left) (drop 8 right) in
    let is : order ≡ nat_cmp (spelled_number 8 0 left) (spelled_number 8 0 right) = c.cmp-order.ensures ∙ (λ i. nat_cmp (c.front.ensures i) (c.front-in-loop.ensures i)) in (
      (λ i. slice_cmp nat_cmp (rest_of 8 left i) (rest_of 8 right i))
          ∙ sym (equal_first order rest (sym c.is_ne.ensures ∙ c.if-is_ne.false)) ∙ ap (λ (o : Ordering). ordering_then o rest) is
          ∙ sym (by_numbers 8 0 left right c.if-left-lt8.false c.if-right-lt8.false c.loop.invariant.1 c.loop.invariant.2) ∙ c.loop.invariant.0,
      subst AreOctets (sym (rest_of 8 left)) (rest_octets 8 left c.loop.invariant.1),
      subst AreOctets (sym (rest_of 8 right)) (rest_octets 8 right c.loop.invariant.2),
    )
