-- The base that a history leads to, and histories that say the same.
-- Such a base may replace a history's entries.
use Rattle.std.specs.Prelude.{◌≡◌, ℕ, Bool, true, List, length, filter}
use Rattle.permit_book.specs.Outstanding.{is_numbered, listed_for}
use Rattle.authority_cache.specs.Lists.{is_answer_for, is_turn_of}
use Rattle.gate_history.specs.Base.{Base}
use Rattle.gate_history.specs.Grants.{is_covered, is_in}
use Rattle.gate_history.specs.History.{History, begins, entry_count, now, started_count}
use Rattle.gate_history.specs.Standing.{has_turn, in_flight, is_fetching, is_known, known_count, past_count, standing, standing_of}
use Rattle.gate_history.specs.Outstanding.{grants, greatest_in, is_running, is_unspent, running, stands, unspent, was_granted}

-- what the history left open, and its numbers
abbrev pub base_after : History → Base
base_after h = record {
  standing = standing h;
  in_flight = in_flight h;
  unspent = unspent h;
  running = running h;
  grants = grants h;
  begins = begins h;
  moment = now h;
  entries = entry_count h;
  started = started_count h;
}

-- two lists have the same of each key, and as many of each test
pub record SaySame {K X : Type 0} (is_of : K → X → Bool) (xs ys : List X) : Type 0 where
  pub each : (key : K) → filter (is_of key) xs ≡ filter (is_of key) ys
  pub counts : (test : X → Bool) → length (filter test xs) ≡ length (filter test ys)

-- the lists of both histories say the same, and the numbers are equal
pub record SaysAs (g h : History) : Type 0 where
  pub answers : SaySame is_answer_for (standing g) (standing h)
  pub turns : SaySame is_turn_of (in_flight g) (in_flight h)
  pub permits : SaySame is_numbered (unspent g) (unspent h)
  pub runs : SaySame is_numbered (running g) (running h)
  pub slots : SaySame is_in (grants g) (grants h)
  pub greatest : (slot : ℕ) → greatest_in g slot ≡ greatest_in h slot
  pub granted : (number : ℕ) → was_granted h number ≡ true → was_granted g number ≡ true
  pub begun : begins g ≡ begins h
  pub moment : now g ≡ now h
  pub entries : entry_count g ≡ entry_count h
  pub started : started_count g ≡ started_count h

-- all questions on the lists of two histories have equal answers
pub record AnswersAlike (g h : History) : Type 0 where
  pub standing_of : (authority : List ℕ) → standing_of g authority ≡ standing_of h authority
  pub past_count : (moment : ℕ) → past_count g moment ≡ past_count h moment
  pub has_turn : (authority : List ℕ) (turn : ℕ) → has_turn g authority turn ≡ has_turn h authority turn
  pub is_fetching : (authority : List ℕ) → is_fetching g authority ≡ is_fetching h authority
  pub is_known : (authority : List ℕ) → is_known g authority ≡ is_known h authority
  pub known_count : known_count g ≡ known_count h
  pub flights : length (in_flight g) ≡ length (in_flight h)
  pub stands : (number : ℕ) (token url : List ℕ) → stands g number token url ≡ stands h number token url
  pub is_unspent : (number : ℕ) → is_unspent g number ≡ is_unspent h number
  pub is_running : (number : ℕ) → is_running g number ≡ is_running h number
  pub permits : length (unspent g) ≡ length (unspent h)
  pub runs : length (running g) ≡ length (running h)
  pub unspent_for : (authority : List ℕ) → listed_for (unspent g) authority ≡ listed_for (unspent h) authority
  pub running_for : (authority : List ℕ) → listed_for (running g) authority ≡ listed_for (running h) authority
  pub is_covered : (number : ℕ) → is_covered (grants g) number ≡ is_covered (grants h) number
