-- An entry's fields: numbers below 2 to the 64, and tokens, URLs, authorities and bodies that read
-- as themselves.
-- RFC 9309, sections 2.2.1 and 2.5.
use Rattle.std.specs.Prelude.{◌≡◌, ◌<◌, ◌≤◌, ◌^◌, ℕ, All, List, Some, length}
use Rattle.path_normal.specs.Authority.{IsAuthority}
use Rattle.path_normal.specs.PageUrl.{IsPage}
use Rattle.permit_book.specs.declared.out.Fetch.{Fetch}
use Rattle.robots_text.specs.Lines.{kept, text_limit}
use Rattle.robots_text.specs.Token.{token_of}
use Rattle.robots_verdict.specs.declared.said.Said.{Said}
use Rattle.robots_verdict.specs.declared.said.Said.TheVariants as says
use Rattle.authority_cache.specs.Lives.{greatest_life, life_of}
use Rattle.gate_history.specs.declared.entry.Entry.{Entry}
use Rattle.gate_history.specs.declared.entry.Entry.TheVariants.{Begun, Arrived, Granted, AskDenied, Started, StartDenied, Returned, Finished, Swept}
use Rattle.gate_history.specs.declared.outcome.Cause.{Cause}
use Rattle.gate_history.specs.declared.outcome.Cause.TheVariants as causes
use Rattle.gate_history.specs.declared.outcome.Reason.{Reason}
use Rattle.gate_history.specs.declared.outcome.Reason.TheVariants as reasons
use Rattle.history_text.specs.declared.version.Version.{Version}
use Rattle.history_text.specs.declared.version.Version.TheVariants.{One, Two}

-- a moment, turn, permit's number, line or count
abbrev pub IsNumber : ℕ → Type 0
IsNumber n = n < 2 ^ 64

-- the token and the URL of a fetch
pub record IsFetch (fetch : Fetch) : Type 0 where
  pub token : token_of fetch.token ≡ Some fetch.token
  pub url : IsPage fetch.url

-- the octets kept of a body
pub record IsBody (text : List ℕ) : Type 0 where
  pub own : kept text ≡ text
  pub few : length text ≤ text_limit
  pub octets : All (λ octet. octet < 256) text

-- what an answer says
abbrev pub IsSaid : Said → Type 0
IsSaid (says.Rules text) = IsBody text
IsSaid (says.Open _) = Unit {0}
IsSaid (says.Closed _) = Unit {0}

-- a line that allows has a number
abbrev pub IsReason : Reason → Type 0
IsReason (reasons.Line line) = IsNumber line
IsReason _ = Unit {0}

-- a line that denies has a number
abbrev pub IsCause : Cause → Type 0
IsCause (causes.Line line) = IsNumber line
IsCause _ = Unit {0}

-- an entry's fields, without a lifetime
abbrev pub HasFields : Entry → Type 0
HasFields (Begun moment authority turn) = IsNumber moment × IsAuthority authority × IsNumber turn
HasFields (Arrived life moment authority turn says) =
    IsNumber moment × IsAuthority authority × IsNumber turn × IsSaid says
HasFields (Granted moment number fetch) = IsNumber moment × IsNumber number × IsFetch fetch
HasFields (AskDenied moment fetch cause) = IsNumber moment × IsFetch fetch × IsCause cause
HasFields (Started moment number reason) = IsNumber moment × IsNumber number × IsReason reason
HasFields (StartDenied moment number cause) = IsNumber moment × IsNumber number × IsCause cause
HasFields (Returned number) = IsNumber number
HasFields (Finished number) = IsNumber number
HasFields (Swept moment count) = IsNumber moment × IsNumber count

-- an answer's lifetime: the greatest in version 1, any allowed one in version 2
abbrev pub IsLife : Version → Said → ℕ → Type 0
IsLife One says life = life ≡ greatest_life
IsLife Two says life = life_of says life ≡ life

-- an arrival's lifetime fits the version
abbrev pub HasLife : Version → Entry → Type 0
HasLife version (Arrived life _ _ _ says) = IsLife version says life
HasLife version _ = Unit {0}

-- an entry that the version can spell
pub record IsEntry (version : Version) (e : Entry) : Type 0 where
  pub fields : HasFields e
  pub life : HasLife version e
