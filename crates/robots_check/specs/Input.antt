-- An input with a robots text and then lines of URLs, and where the text ends.
-- docs/FORMATS.md says it in words.
use Rattle.std.specs.Prelude.{◌≡◌, ◌⊎◌, ◌≤◌, ◌<◌, ◌+◌, ℕ, Bool, true, ◌||◌, List, [], ◌∷◌, ◌++◌, length, take, codes}
use Rattle.counted_io.specs.Lines.{HasNoLineFeed, IsPart, carriage_return, line_feed, without_cr}
use Rattle.robots_text.specs.Lines.{kept}
use Rattle.robots_text.specs.Words.{is_same_word}
use Rattle.robots_check.specs.Targets.{begins_https, begins_path}

-- the octets begin with `http:`, in any case
abbrev pub begins_http : List ℕ → Bool
begins_http octets = is_same_word (take 5 octets) (codes "http:")

-- a line of a URL begins here
abbrev pub begins_url : List ℕ → Bool
begins_url octets = begins_path octets || (begins_http octets || begins_https octets)

-- an empty line: LF, or CR LF
abbrev pub IsEmptyLine : List ℕ → Type 0
IsEmptyLine line = (line ≡ line_feed ∷ []) ⊎ (line ≡ carriage_return ∷ line_feed ∷ [])

-- these octets end a line
abbrev pub EndsLine : List ℕ → Type 0
EndsLine octets = (octets ≡ []) ⊎ ((before : List ℕ) × (octets ≡ before ++ line_feed ∷ []))

-- the text is an empty line and what follows it
abbrev pub FollowsEmpty : List ℕ → List ℕ → Type 0
FollowsEmpty text rest = (empty : List ℕ) × IsEmptyLine empty × (text ≡ empty ++ rest)

-- an empty line, and then lines of which the first is of a URL
pub record UrlsFollow (text lines : List ℕ) : Type 0 where
  pub follow : FollowsEmpty text lines
  pub begins : begins_url lines ≡ true

-- the input is a front that ends a line, and then an empty line with lines of URLs
pub record UrlsBehind (input front lines : List ℕ) : Type 0 where
  pub left : List ℕ
  pub split : input ≡ front ++ left
  pub ends : EndsLine front
  pub follow : UrlsFollow left lines

-- the front is the shortest such
pub record UrlsFirst (input front lines : List ℕ) : Type 0 where
  pub behind : UrlsBehind input front lines
  pub first : (other more : List ℕ) → UrlsBehind input other more → length front ≤ length other

-- the input has no such front: all of it is a robots text
pub record UrlsNowhere (input front lines : List ℕ) : Type 0 where
  pub all : front ≡ input
  pub none : lines ≡ []
  pub nowhere : (other more : List ℕ) → UrlsBehind input other more → ⊥

-- a robots text, and the lines of URLs after the first empty line that one follows
abbrev pub IsSplit : List ℕ → List ℕ → List ℕ → Type 0
IsSplit input front lines = UrlsFirst input front lines ⊎ UrlsNowhere input front lines

-- a line of a URL, LF, and a rest; a CR before the LF is dropped
pub record TakesUrlLine (text url rest : List ℕ) : Type 0 where
  pub raw : List ℕ
  pub no_line_feed : HasNoLineFeed raw
  pub split : text ≡ raw ++ line_feed ∷ rest
  pub url_is : url ≡ without_cr raw

-- the line of a last URL, with no end
pub record TakesLastUrl (text url rest : List ℕ) : Type 0 where
  pub some : 0 < length text
  pub no_line_feed : HasNoLineFeed text
  pub url_is : url ≡ text
  pub none : rest ≡ []

-- a line of a URL, and a rest
abbrev pub TakesUrl : List ℕ → List ℕ → List ℕ → Type 0
TakesUrl text url rest = TakesUrlLine text url rest ⊎ TakesLastUrl text url rest

-- these are the URLs of the lines
abbrev pub AreUrlLines : List ℕ → List (List ℕ) → Type 0
AreUrlLines lines [] = lines ≡ []
AreUrlLines lines (url ∷ urls) = (rest : List ℕ) × TakesUrl lines url rest × AreUrlLines rest urls

-- the octets of the first line: up to and with the first LF, or all
pub record IsLineLen (text : List ℕ) (len : ℕ) : Type 0 where
  pub before : ℕ
  pub part : IsPart text before
  pub with_end : before < length text → len ≡ before + 1
  pub without_end : length text ≤ before → len ≡ before

-- the input has this text and these URLs
pub record HasUrls (input text : List ℕ) (urls : List (List ℕ)) : Type 0 where
  pub front : List ℕ
  pub lines : List ℕ
  pub split : IsSplit input front lines
  pub text_is : text ≡ kept front
  pub urls_are : AreUrlLines lines urls
