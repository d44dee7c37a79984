-- The places in front are the pieces.
use Rattle.std.proofs.Common.{◌≡◌, ℕ, List, ◌++◌, flat_map, length, take, ap, ◌∙◌, arith}
use Rattle.std.proofs.lemmas.Grind.{common_steps}
use Rattle.line_text.specs.Pieces.{piece_text}
use Rattle.line_text.proofs.pieces.Pieces.of.Goals as goal

places_in_front : {X : Type 0} (xs ys : List X) (n : ℕ) → length xs ≡ n → take n (xs ++ ys) ≡ xs
places_in_front xs ys n is = grind (arith, common_steps, is)

pub returns : goal.returns
returns c =
    ap (flat_map piece_text)
    (places_in_front c.copy_from_slice.new.self _ (length c.args.pieces.now) (ap length c.copy_from_slice.ensures.after) ∙ c.copy_from_slice.ensures.after)
