-- A mask is 0 exactly if it has no bits.
use Rattle.std.proofs.Common.{ap, arith, ⊎_elim}
use Rattle.std.specs.Int.{bit_at}
use Rattle.std.proofs.lemmas.Nat.Bits.{bit_at-zero}
use Rattle.std.proofs.lemmas.Bool.{cases_lt, eq-eqb, eqb-true}
use Rattle.path_pattern.proofs.BlockLemmas.{no_bit}
use Rattle.path_pattern.proofs.blocks.is_none.Goals as goal

pub returns : goal.returns
returns c = (
  λ none k.
      let clear = ap (λ m. bit_at m k) (eqb-true _ _ none) in
      ⊎_elim (λ low. low) (λ high. absurd (omega (arith, bit_at-zero k, clear, (c.top_bits.ensures k).1 high))) (cases_lt _ 128),
  λ low. eq-eqb _ _ (no_bit _ (omega (arith, c.top_bits.type_inv)) (λ k set. omega (arith, low k, (c.top_bits.ensures k).0 set))),
)
