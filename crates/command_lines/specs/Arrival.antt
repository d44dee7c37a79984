-- The words after an ARRIVE line's turn, two for each reply, and the answer that the replies decide.
-- RFC 9309, section 2.3.1; docs/FORMATS.md has the words.
-- Cited by `reply_words` and `arrival`.
use Rattle.std.specs.Prelude.{◌≡◌, ◌≢◌, ◌==◌, ◌⊎◌, ℕ, Bool, true, false, List, [], ◌∷◌, ◌++◌, Option, Some, None, Result, Ok, Err, codes, is_none, length, nat_lt, string_bytes, if◌then◌else◌}
use Rattle.std.specs.Int.{is_in_range}
use Rattle.std.specs.List.{after_first, before_first, position_or_len}
use Rattle.std.specs.Option.{option_and_then, option_map}
use Rattle.std.specs.Path.{slash}
use Rattle.std.specs.Str.{bytes_eq}
use Rattle.percent_encoding.specs.Percent.{percent_decode}
use Rattle.path_normal.specs.declared.schemes.Schemes.{Schemes}
use Rattle.path_normal.specs.declared.schemes.Schemes.TheVariants.{Http}
use Rattle.authority_cache.specs.Lives.{Timed}
use Rattle.robots_verdict.specs.declared.said.Said.{Said}
use Rattle.robots_fetch.specs.declared.reply.RobotsReply.{RobotsReply}
use Rattle.robots_fetch.specs.declared.reply.RobotsReply.TheVariants as replies
use Rattle.robots_fetch.specs.declared.status.StatusClass.{StatusClass}
use Rattle.robots_fetch.specs.declared.status.StatusClass.TheVariants as classes
use Rattle.robots_fetch.specs.Statuses.{class_of}
use Rattle.robots_fetch.specs.Walk.{AnswerOfAmong}
use Rattle.line_text.specs.Number.{number_of}
use Rattle.command_lines.specs.declared.fault.LineFault.{LineFault}
use Rattle.command_lines.specs.declared.fault.LineFault.TheVariants as faults
use Rattle.command_lines.specs.declared.reply_words.ReplyHead.{ReplyHead}
use Rattle.command_lines.specs.declared.reply_words.ReplyHead.TheVariants as heads

-- a word's status: three digits, 100 to 999
abbrev pub status_written : List ℕ → Option ℕ
status_written word =
    if length word == 3
    then option_and_then (λ code. if is_in_range 100 999 code then Some code else None) (number_of word)
    else None

-- the class of responses whose body has rules
abbrev pub has_rules : StatusClass → Bool
has_rules classes.Successful = true
has_rules _ = false

-- the second word is a text: rules, or a Location
abbrev pub has_text : StatusClass → Bool
has_text classes.Successful = true
has_text classes.Redirect = true
has_text _ = false

-- a status and its rules' seconds, as `200/60`
abbrev pub lasting_of : List ℕ → List ℕ → Option ReplyHead
lasting_of status life =
    option_and_then (λ code. if has_rules (class_of code)
    then option_map (λ seconds. heads.Status code (Some seconds)) (number_of life) else None) (status_written status)

-- the octet is `/`
abbrev pub is_slash : ℕ → Bool
is_slash octet = octet == slash

-- a `/` is in the word
abbrev pub has_slash : List ℕ → Bool
has_slash word = nat_lt (position_or_len is_slash word) (length word)

-- a status alone
abbrev pub plain_of : List ℕ → Option ReplyHead
plain_of word = option_map (λ code. heads.Status code None) (status_written word)

-- a response by its word: the status, and any lifetime after a `/`
abbrev pub response_written : List ℕ → Option ReplyHead
response_written word =
    if has_slash word then lasting_of (before_first is_slash word) (after_first is_slash word) else plain_of word

-- the meaning of a reply's first word
abbrev pub head_written : List ℕ → Option ReplyHead
head_written word =
    if bytes_eq word (codes "NET") then Some heads.Network
    else (if bytes_eq word (codes "CODING") then Some heads.Coding else response_written word)

-- the word means no text
abbrev pub is_none_word : List ℕ → Bool
is_none_word word = bytes_eq word (codes "-")

-- the reply may have this second word
abbrev pub may_have : ReplyHead → List ℕ → Bool
may_have (heads.Status code max_age) word = if has_text (class_of code) then true else is_none_word word
may_have heads.Coding word = is_none_word word
may_have heads.Network word = is_none_word word

-- the fault of a reply's two words
abbrev pub reply_fault : Option ReplyHead → List ℕ → Option LineFault
reply_fault None second = Some faults.Status
reply_fault (Some head) second = if may_have head second then None else Some faults.Replies

-- the first of two faults
abbrev pub or_later : Option LineFault → Option LineFault → Option LineFault
or_later (Some fault) later = Some fault
or_later None later = later

-- the replies' first fault, from left to right
abbrev pub replies_fault : List (List ℕ) → Option LineFault
replies_fault [] = None
replies_fault (first ∷ []) = if is_none (head_written first) then Some faults.Status else Some faults.Replies
replies_fault (first ∷ second ∷ later) = or_later (reply_fault (head_written first) second) (replies_fault later)

-- the words, or their first fault
abbrev pub unless_fault : Option LineFault → List (List ℕ) → Result (List (List ℕ)) LineFault
unless_fault (Some fault) words = Err fault
unless_fault None words = Ok words

-- the replies' words, all read before the walk
abbrev pub reply_words_of : List (List ℕ) → Result (List (List ℕ)) LineFault
reply_words_of words = unless_fault (replies_fault words) words

-- the second word as a Location
abbrev pub location_written : StatusClass → List ℕ → Option (List ℕ)
location_written classes.Redirect word = if is_none_word word then None else Some word
location_written _ word = None

-- the second word as a body
abbrev pub body_written : StatusClass → List ℕ → List ℕ
body_written classes.Successful word = if is_none_word word then [] else percent_decode word
body_written _ word = []

-- the reply has this head and this second word
abbrev pub HasWords : ReplyHead → List ℕ → RobotsReply → Type 0
HasWords (heads.Status code max_age) word (replies.Status own location body age) =
    (own ≡ code) × (age ≡ max_age) × (option_map string_bytes location ≡ location_written (class_of code) word)
    × (body.items ≡ body_written (class_of code) word)
HasWords heads.Coding word replies.CodingFault = Unit {0}
HasWords heads.Network word replies.NetworkFault = Unit {0}
HasWords _ word _ = ⊥

-- the reply of two words
abbrev pub IsReply : List ℕ → List ℕ → RobotsReply → Type 0
IsReply first second reply = (head : ReplyHead) × ((head_written first ≡ Some head) × HasWords head second reply)

-- the replies of the words
abbrev pub AreReplies : List (List ℕ) → List RobotsReply → Type 0
AreReplies [] [] = Unit {0}
AreReplies (first ∷ second ∷ later) (reply ∷ replies) = IsReply first second reply × AreReplies later replies
AreReplies _ _ = ⊥

-- the next reply's words are taken, if any
abbrev pub TakesReply : List (List ℕ) → Option RobotsReply → List (List ℕ) → Type 0
TakesReply old None new = (old ≡ []) × (new ≡ [])
TakesReply old (Some reply) new =
    (first : List ℕ) × ((second : List ℕ) × ((old ≡ first ∷ second ∷ new) × IsReply first second reply))

-- the replies decide an answer with this lifetime for the authority, in these schemes
abbrev pub IsDecided : Schemes → List ℕ → List (List ℕ) → Said → ℕ → Type 0
IsDecided schemes authority words says life =
    (replies : List RobotsReply) × (AreReplies words replies × AnswerOfAmong schemes authority replies says life)

-- the replies end before they decide
abbrev pub EndsBefore : Schemes → List ℕ → List (List ℕ) → Type 0
EndsBefore schemes authority words =
    (replies : List RobotsReply) × (AreReplies words replies
    × ((says : Said) (life : ℕ) → AnswerOfAmong schemes authority replies says life → ⊥))

-- the first replies decide, but more words follow
pub record GoesOnAfter (schemes : Schemes) (authority : List ℕ) (words : List (List ℕ)) : Type 0 where
  pub read : List (List ℕ)
  pub rest : List (List ℕ)
  pub says : Said
  pub life : ℕ
  pub all : words ≡ read ++ rest
  pub more : rest ≢ []
  pub decided : IsDecided schemes authority read says life

-- the answer and lifetime by the words for the authority, in these schemes, or why there is none
abbrev pub BringsAmong : Schemes → List ℕ → List (List ℕ) → Result Timed LineFault → Type 0
BringsAmong schemes authority words (Ok brought) = IsDecided schemes authority words brought.says brought.life
BringsAmong schemes authority words (Err faults.Replies) =
    EndsBefore schemes authority words ⊎ GoesOnAfter schemes authority words
BringsAmong schemes authority words (Err faults.Memory) = Unit {0}
BringsAmong schemes authority words (Err _) = ⊥

-- the answer and lifetime by the words for `http`, or why there is none
abbrev pub Brings : List ℕ → List (List ℕ) → Result Timed LineFault → Type 0
Brings = BringsAmong Http
