-- Laws of histories, some of legal ones only.
-- The contracts of `laws.rt`.
use Rattle.std.specs.Prelude.{◌≡◌, ◌↔◌, ℕ, ◌+◌, ◌<◌, ◌≤◌, true, false, List, [], ◌∷◌, ◌++◌, Some, Result, length, map, filter}
use Rattle.std.specs.Str.{bytes_eq}
use Rattle.permit_book.specs.Numbers.{slot_of, generation_of}
use Rattle.permit_book.specs.declared.granted_permit.GrantedPermit.{GrantedPermit}
use Rattle.permit_book.specs.Outstanding.{IsNextBy, is_numbered}
use Rattle.authority_cache.specs.Calls.{one_if}
use Rattle.authority_cache.specs.declared.standing_answer.StandingAnswer.{StandingAnswer}
use Rattle.authority_cache.specs.declared.turn.Turn.{Turn}
use Rattle.authority_cache.specs.Lists.{has_number, is_answer_for, is_turn_of, lacks_answer}
use Rattle.authority_cache.specs.Lives.{greatest_life, least_life}
use Rattle.gate_history.specs.declared.entry.Entry.{Entry}
use Rattle.gate_history.specs.declared.entry.Entry.TheVariants.{Begun, Arrived, Granted, AskDenied, Started, StartDenied, Returned, Finished, Swept}
use Rattle.gate_history.specs.declared.outcome.Cause.{Cause}
use Rattle.gate_history.specs.declared.outcome.Reason.{Reason}
use Rattle.gate_history.specs.Base.{ArePermits, AreTurns, Base, IsBase}
use Rattle.gate_history.specs.declared.base.SlotGrant.{SlotGrant}
use Rattle.gate_history.specs.Grants.{is_covered, is_in}
use Rattle.gate_history.specs.History.{History, from, ◌▸◌, begins, entry_count, followed_by, now, started_count}
use Rattle.gate_history.specs.Outstanding.{grants, greatest_in, running, unspent, was_granted}
use Rattle.gate_history.specs.Standing.{has_turn, in_flight, is_known, known_count, standing, standing_of}
use Rattle.gate_history.specs.Cause.{Decides}
use Rattle.gate_history.specs.Legal.{AllRise, IsLegal, MayFollow}
use Rattle.gate_history.specs.LeftOpen.{answers_opened, closes_answer, closes_permit, closes_run, closes_turn, left_open, permits_opened, runs_opened, turns_opened}
use Rattle.gate_history.specs.Order.{Reorders}
use Rattle.gate_history.specs.Seal.{AnswersAlike, SaySame, SaysAs, base_after}

-- a history with one more entry at its end
abbrev pub OneMore : Type 0
OneMore = (h : History) (later : List Entry) (e : Entry) → followed_by h (later ++ e ∷ []) ≡ followed_by h later ▸ e

-- after these entries, each list has its earlier elements and what they open, without what a later one closes
pub record IsLeftOpen (h : History) (later : List Entry) : Type 0 where
  pub turns : in_flight (followed_by h later) ≡ left_open in_flight turns_opened closes_turn h later
  pub answers : standing (followed_by h later) ≡ left_open standing answers_opened closes_answer h later
  pub permits : unspent (followed_by h later) ≡ left_open unspent permits_opened closes_permit h later
  pub runs : running (followed_by h later) ≡ left_open running runs_opened closes_run h later

-- the lists have what was opened and no later entry closes
abbrev pub NoLaterEntryCloses : Type 0
NoLaterEntryCloses = (h : History) (later : List Entry) → IsLeftOpen h later

-- a legal history leads to a base
abbrev pub LeadsToBase : Type 0
LeadsToBase = (h : History) → IsLegal h → IsBase (base_after h)

-- the base after a history says what the history does
abbrev pub SealSaysAlike : Type 0
SealSaysAlike = (h : History) → SaysAs (from (base_after h)) h

-- whatever says what a legal history does is a base
abbrev pub SaysBase : Type 0
SaysBase = (b : Base) (h : History) → IsLegal h → SaysAs (from b) h → IsBase b

-- lists with the same elements of each key say the same
pub record KeysSayAlike : Type 0 where
  pub answers : (xs ys : List StandingAnswer)
      → ((authority : List ℕ) → filter (is_answer_for authority) xs ≡ filter (is_answer_for authority) ys)
      → SaySame is_answer_for xs ys
  pub turns : (xs ys : List Turn)
      → ((authority : List ℕ) → filter (is_turn_of authority) xs ≡ filter (is_turn_of authority) ys)
      → SaySame is_turn_of xs ys
  pub permits : (xs ys : List GrantedPermit)
      → ((number : ℕ) → filter (is_numbered number) xs ≡ filter (is_numbered number) ys) → SaySame is_numbered xs ys
  pub grants : (xs ys : List SlotGrant) → ((slot : ℕ) → filter (is_in slot) xs ≡ filter (is_in slot) ys)
      → SaySame is_in xs ys

-- a base in another order says the same
abbrev pub ReorderingSaysAlike : Type 0
ReorderingSaysAlike = (given made : Base) → IsBase given → Reorders given made → SaysAs (from made) (from given)

-- histories that say the same still do after any entries
abbrev pub GoOnAlike : Type 0
GoOnAlike = (g h : History) (later : List Entry) → SaysAs g h → SaysAs (followed_by g later) (followed_by h later)

-- histories that say the same answer alike
abbrev pub SayingAnswersAlike : Type 0
SayingAnswersAlike = (g h : History) → SaysAs g h → AnswersAlike g h

-- they decide each fetch alike
abbrev pub DecideAlike : Type 0
DecideAlike =
    (g h : History) (token url : List ℕ) (moment : ℕ) (outcome : Result Reason Cause) → SaysAs g h
    → Decides g token url moment outcome ↔ Decides h token url moment outcome

-- entries legal after the one are legal after the other, which granted no more numbers
abbrev pub LegalBehind : Type 0
LegalBehind = (g h : History) (later : List Entry) → SaysAs g h → IsLegal h → IsLegal (followed_by g later)
    → IsLegal (followed_by h later)

-- the converse, if each grant's generation is above all earlier ones of its slot
abbrev pub LegalAhead : Type 0
LegalAhead =
    (g h : History) (later : List Entry) → SaysAs g h → IsLegal g → AllRise h later → IsLegal (followed_by h later)
    → IsLegal (followed_by g later)

-- the grants of its slot cover a granted number
abbrev pub GrantedIsCovered : Type 0
GrantedIsCovered = (h : History) (number : ℕ) → was_granted h number ≡ true → is_covered (grants h) number ≡ true

-- a number with a generation above its slot's greatest is new and not covered
abbrev pub AboveIsNew : Type 0
AboveIsNew =
    (h : History) (number : ℕ) → greatest_in h (slot_of number) < generation_of number
    → (is_covered (grants h) number ≡ false) × (was_granted h number ≡ false)

-- the next number, by permits and greatest generations, is new
abbrev pub NextIsNew : Type 0
NextIsNew =
    (h : History) (slots first number : ℕ) → 0 < first
    → IsNextBy slots first (unspent h) (running h) (greatest_in h) number
    → (is_covered (grants h) number ≡ false) × (was_granted h number ≡ false)

-- in a legal history no permit or turn occurs twice; an authority has at most one turn in flight and one answer, and
-- a turn in flight is the only one of its number and authority
pub record StandsOnce (h : History) : Type 0 where
  pub permits : ArePermits (unspent h) (running h) (grants h)
  pub turns : AreTurns (standing h) (in_flight h) (begins h) (now h)
  pub own_turn : (authority : List ℕ) (turn : ℕ) → has_turn h authority turn ≡ true
      → filter (has_number turn) (in_flight h) ≡ filter (is_turn_of authority) (in_flight h)

-- nothing occurs twice in a legal history
abbrev pub EachStandsOnce : Type 0
EachStandsOnce = (h : History) → IsLegal h → StandsOnce h

-- in a legal history an answer's life is from 60 seconds to 24 hours
abbrev pub LivesAreBounded : Type 0
LivesAreBounded =
    (h : History) (authority : List ℕ) (s : StandingAnswer) → IsLegal h → standing_of h authority ≡ Some s
    → (least_life ≤ s.life) × (s.life ≤ greatest_life)

-- a fetch is decided in one way
abbrev pub DecidesOnce : Type 0
DecidesOnce =
    (h : History) (token url : List ℕ) (moment : ℕ) (one other : Result Reason Cause)
    → Decides h token url moment one → Decides h token url moment other → one ≡ other

-- these are the known authorities, each once
abbrev pub AreKnown : History → List (List ℕ) → Type 0
AreKnown h names = (authority : List ℕ) → length (filter (bytes_eq authority) names) ≡ one_if (is_known h authority)

-- the authorities of answers, and of turns in flight without an answer
abbrev pub known_names : History → List (List ℕ)
known_names h =
    map (λ s. s.authority) (standing h) ++ map (λ t. t.authority) (filter (lacks_answer (standing h)) (in_flight h))

-- in a legal history `known_names` are the known authorities
abbrev pub NamesAreKnown : Type 0
NamesAreKnown = (h : History) → IsLegal h → AreKnown h (known_names h)

-- each list of the known authorities of a legal history has the counted length
abbrev pub KnownAreCounted : Type 0
KnownAreCounted = (h : History) (names : List (List ℕ)) → IsLegal h → AreKnown h names → length names ≡ known_count h

-- what one more entry changes: starts; unspent permits more and less; running ones more and less; turns in flight
-- more and less
pub record Counts (h : History) (e : Entry)
    (started permits permits_less runs runs_less turns turns_less : ℕ) : Type 0 where
  pub entries_are : entry_count (h ▸ e) ≡ entry_count h + 1
  pub started_are : started_count (h ▸ e) ≡ started_count h + started
  pub unspent_are : length (unspent (h ▸ e)) + permits_less ≡ length (unspent h) + permits
  pub running_are : length (running (h ▸ e)) + runs_less ≡ length (running h) + runs
  pub flights_are : length (in_flight (h ▸ e)) + turns_less ≡ length (in_flight h) + turns

-- what each kind of entry adds to and takes from the counts
abbrev pub CountsOf : History → Entry → Type 0
CountsOf h (Begun moment authority turn) = Counts h (Begun moment authority turn) 0 0 0 0 0 1 0
CountsOf h (Arrived life moment authority turn says) = Counts h (Arrived life moment authority turn says) 0 0 0 0 0 0 1
CountsOf h (Granted moment number fetch) = Counts h (Granted moment number fetch) 0 1 0 0 0 0 0
CountsOf h (AskDenied moment fetch cause) = Counts h (AskDenied moment fetch cause) 0 0 0 0 0 0 0
CountsOf h (Started moment number reason) = Counts h (Started moment number reason) 1 0 1 1 0 0 0
CountsOf h (StartDenied moment number cause) = Counts h (StartDenied moment number cause) 0 0 1 0 0 0 0
CountsOf h (Returned number) = Counts h (Returned number) 0 0 1 0 0 0 0
CountsOf h (Finished number) = Counts h (Finished number) 0 0 0 0 1 0 0
CountsOf h (Swept moment count) = Counts h (Swept moment count) 0 0 0 0 0 0 0

-- each entry of a legal history counts in this way
abbrev pub EachEntryCounts : Type 0
EachEntryCounts = (h : History) (e : Entry) → IsLegal h → MayFollow h e → CountsOf h e
