-- What contracts see of the cache: what each authority's answer says, and its turn in
-- flight. RFC 9309, sections 2.3.1 and 2.4.
use Rattle.std.specs.Prelude.{◌≡◌, ℕ, ◌+◌, ◌==◌, Bool, false, ◌||◌, nat_lt, List, [], ◌∷◌, Option, Some, None, is_some, unwrap_or, if◌then◌else◌, length, filter}
use Rattle.std.specs.Map.{lookup}
use Rattle.std.specs.Option.{option_map, option_map_or}
use Rattle.std.specs.Str.{bytes_eq}
use Rattle.robots_verdict.specs.Answer.{said}
use Rattle.robots_verdict.specs.declared.said.Said.{Said}
use Rattle.authority_cache.specs.declared.site.Flight.{Flight}
use Rattle.authority_cache.specs.declared.site.Site.{Site}
use Rattle.authority_cache.specs.declared.site.CachedAnswer.{CachedAnswer}

-- an answer: the turn that brought it, when that began, its lifetime, what it says
pub record Answered : Type 0 where
  pub turn : ℕ
  pub begun : ℕ
  pub life : ℕ
  pub says : Said

-- what is known of an authority
pub record State : Type 0 where
  pub standing : Option Answered
  pub in_flight : Option Flight

-- the cache as its callers see it
pub record Known : Type 0 where
  pub limit : ℕ
  pub sites : List (List ℕ × State)

-- a kept answer, by what it says
abbrev pub said_cached : CachedAnswer → Answered
said_cached s = record { turn = s.turn; begun = s.begun; life = s.life; says = said s.answer }

-- what is known, by what the answer says
abbrev pub said_site : Site → State
said_site site = record { standing = option_map said_cached site.standing; in_flight = site.in_flight }

-- nothing is known of an authority
abbrev pub nothing_known : State
nothing_known = record { standing = None; in_flight = None }

-- no authority is there twice
abbrev pub AreApart : List (List ℕ × State) → Type 0
AreApart [] = Unit {0}
AreApart (e ∷ sites) = (lookup (bytes_eq e.0) sites ≡ None) × AreApart sites

-- no authority is known twice
abbrev pub IsApart : Known → Type 0
IsApart k = AreApart k.sites

-- what is known of the authority
abbrev pub site_of : Known → List ℕ → State
site_of k authority = unwrap_or (lookup (bytes_eq authority) k.sites) nothing_known

-- a turn is in flight
abbrev pub is_flying : State → Bool
is_flying site = is_some site.in_flight

-- an answer or a turn in flight is there
abbrev pub is_known : State → Bool
is_known site = is_some site.standing || is_some site.in_flight

-- the turn of this number is in flight
abbrev pub has_turn : ℕ → State → Bool
has_turn turn site = option_map_or (λ flight. flight.turn == turn) site.in_flight false

-- the answer is older than its lifetime at this moment
abbrev pub is_past : ℕ → Answered → Bool
is_past moment s = nat_lt (s.begun + s.life) moment

-- an answer is there, older than its lifetime
abbrev pub has_past : ℕ → State → Bool
has_past moment site = option_map_or (is_past moment) site.standing false

-- the turn is in flight now
abbrev pub with_flight : Flight → State → State
with_flight flight site = record { standing = site.standing; in_flight = Some flight }

-- the answer replaces the turn, from whose begin its age counts
abbrev pub arrived : ℕ → Said → ℕ → State → State
arrived turn says life site = record {
  standing =
      option_map (λ flight. record { turn = turn; begun = flight.begun; life = life; says = says }) site.in_flight;
  in_flight = None;
}

-- an answer older than its lifetime is gone
abbrev pub swept : ℕ → State → State
swept moment site = record {
  standing = if has_past moment site then None else site.standing;
  in_flight = site.in_flight;
}

-- how many authorities have a state that passes the test
abbrev pub count_of : (State → Bool) → Known → ℕ
count_of test k = length (filter (λ e. test e.1) k.sites)

-- how many authorities are known
abbrev pub known_count : Known → ℕ
known_count k = count_of is_known k

-- how many turns are in flight
abbrev pub flight_count : Known → ℕ
flight_count k = count_of is_flying k

-- how many answers are older than their lifetimes
abbrev pub past_count : ℕ → Known → ℕ
past_count moment k = count_of (has_past moment) k
