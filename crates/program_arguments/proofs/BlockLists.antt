-- Lists of texts and of the blocks that they write.
-- Used by the proof of `blocks_in`.
use Rattle.std.proofs.Common.{◌<◌, ◌+◌, List, [], ◌∷◌, ◌++◌, ℕ, length, map, take, get_or, subst, sym}
use Rattle.std.proofs.lemmas.List.{map_more}
use Rattle.http_client.specs.Blocks.{IsBlockText}
use Rattle.http_client.specs.declared.address_block.AddressBlock.{AddressBlock}
use Rattle.program_arguments.specs.Blocks.{AreBlocks}

-- a further text and its block
pub add_block :
    (texts : List (List ℕ)) (blocks : List AddressBlock) (text : List ℕ) (block : AddressBlock)
    → AreBlocks texts blocks → IsBlockText text block → AreBlocks (texts ++ text ∷ []) (blocks ++ block ∷ [])
add_block [] [] text block are is = (is, tt)
add_block [] (b ∷ blocks) text block are is = absurd are
add_block (t ∷ texts) [] text block are is = absurd are
add_block (t ∷ texts) (b ∷ blocks) text block are is = (are.0, add_block texts blocks text block are.1 is)

-- the same of the first elements of a list, each seen as a text
pub add_next :
    {X : Type 0} (seen : X → List ℕ) (xs : List X) (i : ℕ) (d : X) (blocks : List AddressBlock) (block : AddressBlock)
    → i < length xs → AreBlocks (map seen (take i xs)) blocks → IsBlockText (seen (get_or xs i d)) block
    → AreBlocks (map seen (take (i + 1) xs)) (blocks ++ block ∷ [])
add_next seen xs i d blocks block within are is =
    subst (λ texts. AreBlocks texts (blocks ++ block ∷ [])) (sym (map_more seen xs i d within))
    (add_block (map seen (take i xs)) blocks (seen (get_or xs i d)) block are is)
