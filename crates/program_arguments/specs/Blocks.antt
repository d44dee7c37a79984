-- The blocks of addresses that are never connected to, by an option that may be there again and again.
-- Cited by `fetching`; docs/crawlgate.1.md has the option.
use Rattle.std.specs.Prelude.{List, [], ◌∷◌, ℕ, Option, None, Some, codes}
use Rattle.clap.specs.Words.{matched_of, raw_values}
use Rattle.clap.specs.declared.parser.matches.Found.{Found}
use Rattle.clap.specs.declared.parser.matches.MatchedArg.{MatchedArg}
use Rattle.http_client.specs.Blocks.{IsBlockText}
use Rattle.http_client.specs.declared.address_block.AddressBlock.{AddressBlock}

-- each text writes the block at its place
abbrev pub AreBlocks : List (List ℕ) → List AddressBlock → Type 0
AreBlocks [] [] = Unit {0}
AreBlocks [] (block ∷ blocks) = ⊥
AreBlocks (text ∷ texts) [] = ⊥
AreBlocks (text ∷ texts) (block ∷ blocks) = IsBlockText text block × AreBlocks texts blocks

-- the option's values; none without it
abbrev pub values_of : Option MatchedArg → List (List ℕ)
values_of None = []
values_of (Some matched) = raw_values matched

-- the blocks are those that the option's values write, in order
abbrev pub AreBlocksOf : Found → List AddressBlock → Type 0
AreBlocksOf words blocks = AreBlocks (values_of (matched_of words (codes "not-to"))) blocks
