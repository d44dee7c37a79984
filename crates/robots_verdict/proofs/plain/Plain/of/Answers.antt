-- The strongest places are sorted, and each gets its parent.
use Rattle.std.proofs.Common.{List, ℕ, length, sym, ap, subst, arith}
use Rattle.robots_verdict.specs.Search.{AreParents, IsPlainOrder}
use Rattle.robots_verdict.proofs.plain.Plain.of.Goals as goal

pub parents_of-requires-clause-rise : goal.parents_of-requires-clause-rise
parents_of-requires-clause-rise c = subst (IsPlainOrder c.args.rows.now.rows) (sym c.as_slice.ensures.value) c.in_ok-places.ensures.rise

pub parents_of-requires-clause-few : goal.parents_of-requires-clause-few
parents_of-requires-clause-few c =
    let few = c.in_ok-places.ensures.strongest.few in
    omega (arith, ap length c.as_slice.ensures.value, few, c.requires.plain.few, c.requires.few)

pub returns : goal.returns
returns c =
    let rows = c.args.rows.now.rows in
    let value = c.as_slice.ensures.value in
    let plain = c.requires.plain in
    let strongest = c.in_ok-places.ensures.strongest in
    record {
      few = let few = strongest.few in omega (arith, few, c.requires.plain.few, c.requires.few);
      are = λ place stands. (plain.are place).0 (strongest.are place stands);
      each = λ place within is. strongest.each place ((plain.are place).1 (within, is));
      rise = c.in_ok-places.ensures.rise;
      parents_are = subst (λ (l : List ℕ). AreParents rows l c.in_ok-parents.parents (length l)) value c.in_ok-parents.ensures;
    }
