-- An argument as a number, token, URL or authority, with some capacity.
-- Cited by `arguments` and `calls`.
use Rattle.std.specs.Prelude.{ℕ, List, None, Result, Ok, Err, ok_or}
use Rattle.robots_text.specs.Token.{token_of}
use Rattle.path_normal.specs.Authority.{authority_among}
use Rattle.path_normal.specs.PageUrl.{page_url_among}
use Rattle.path_normal.specs.Capacity.{Capacity, unless_refused}
use Rattle.path_normal.specs.declared.schemes.Schemes.{Schemes}
use Rattle.robots_text.specs.declared.token.TokenFault.{TokenFault}
use Rattle.robots_text.specs.declared.token.TokenFault.TheVariants as tokens
use Rattle.path_normal.specs.declared.fault.AuthorityFault.{AuthorityFault}
use Rattle.path_normal.specs.declared.fault.AuthorityFault.TheVariants as authorities
use Rattle.path_normal.specs.declared.fault.UrlFault.{UrlFault}
use Rattle.path_normal.specs.declared.fault.UrlFault.TheVariants as urls
use Rattle.command_lines.specs.declared.fault.LineFault.{LineFault}
use Rattle.command_lines.specs.declared.fault.LineFault.TheVariants as faults
use Rattle.line_text.specs.Number.{number_of}

-- the value is read on; a fault stays
abbrev pub read_on : {A B : Type 0}
    → Result A LineFault → (A → Result B LineFault) → Result B LineFault
read_on (Ok value) next = next value
read_on (Err fault) next = Err fault

-- why a word is no token
abbrev pub token_fault : TokenFault → LineFault
token_fault tokens.BadToken = faults.Token
token_fault tokens.NoMemory = faults.Memory

-- why a word is no authority
abbrev pub fault_of_authority : AuthorityFault → LineFault
fault_of_authority authorities.BadAuthority = faults.Authority
fault_of_authority authorities.NoMemory = faults.Memory

-- why a word is no page URL
abbrev pub url_fault : UrlFault → LineFault
url_fault urls.TooLong = faults.LongUrl
url_fault urls.BadUrl = faults.BadUrl
url_fault urls.NotHttp = faults.NotHttp
url_fault urls.HasUser = faults.HasUser
url_fault urls.NoMemory = faults.Memory

-- the text, or the line's fault
abbrev pub or_fault : {F : Type 0} → (F → LineFault) → Result (List ℕ) F → Result (List ℕ) LineFault
or_fault fault_of (Ok text) = Ok text
or_fault fault_of (Err fault) = Err (fault_of fault)

-- the number of a word
abbrev pub number_word : List ℕ → Result ℕ LineFault
number_word word = ok_or (number_of word) faults.Number

-- a word's token, which takes memory
abbrev pub token_word : List ℕ → Capacity → Result (List ℕ) LineFault
token_word word capacity =
    read_on (ok_or (token_of word) faults.Token) (λ token. unless_refused faults.Memory (Ok token) capacity)

-- a word's authority in these schemes
abbrev pub authority_word : Schemes → List ℕ → Capacity → Result (List ℕ) LineFault
authority_word schemes word capacity = or_fault fault_of_authority (authority_among schemes word capacity)

-- a word's page URL in these schemes
abbrev pub page_word : Schemes → List ℕ → Capacity → Result (List ℕ) LineFault
page_word schemes word capacity = or_fault url_fault (page_url_among schemes None word capacity)
