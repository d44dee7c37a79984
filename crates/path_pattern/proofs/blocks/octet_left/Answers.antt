-- The comparison of the octets from the place on keeps a lane, or makes it 0.
use Rattle.std.proofs.Common.{cond, eqb, get_or, replicate, take, drop, sym, ap, ◌∙◌, subst, w8}
use Rattle.std.proofs.lemmas.Simd.{get_or-chunk, length-chunk, tops_compared}
use Rattle.std.specs.Simd.Lanes.{sel_l}
use Rattle.path_pattern.specs.Blocks.{HasLanes}
use Rattle.path_pattern.proofs.BlockLemmas.{HasLanes-select}
use Rattle.path_pattern.proofs.blocks.octet_left.Goals as goal

pub returns : goal.returns
returns c =
    let path = c.args.path.now in
    let place = c.args.place in
    let octet = c.args.octet in
    let lanes = c.args.lanes in
    let here = take 64 (drop place path) in
    let chosen = HasLanes-select eqb here lanes octet 0 (length-chunk place 64 path c.requires) c.fits-lanes.0 in
    let found = subst (λ ms. HasLanes (sel_l ms lanes (replicate 64 0)) (λ k. cond (eqb (get_or here k 0) octet) (get_or lanes k 0) 0)) (sym (tops_compared w8 eqb here (replicate 64 octet))) chosen in
    record {
      long = found.long;
      each = λ k l. found.each k l ∙ ap (λ o. cond (eqb o octet) (get_or lanes k 0) 0) (get_or-chunk place 64 path k 0 l);
    }
