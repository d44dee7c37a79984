-- The text of each fault.
-- Cited by `Display`.
use Rattle.std.specs.Prelude.{ℕ, List, codes}
use Rattle.robots_text.specs.declared.token.TokenFault.{TokenFault}
use Rattle.robots_text.specs.declared.token.TokenFault.TheVariants.{BadToken, NoMemory}

-- why octets are no token
abbrev pub token_fault_text : TokenFault → List ℕ
token_fault_text BadToken = codes "a product token has 1 to 64 letters, - and _"
token_fault_text NoMemory = codes "no memory for the product token"
