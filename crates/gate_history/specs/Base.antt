-- The base of a history: what sealed entries left open, and their numbers.
-- RFC 9309, sections 2.3.1 and 2.4; the value of `base.rt`.
use Rattle.std.specs.Prelude.{◌≡◌, ℕ, ◌+◌, ◌<◌, ◌≤◌, ◌==◌, Bool, true, nat_le, List, [], length, filter}
use Rattle.std.specs.List.{list_all}
use Rattle.permit_book.specs.declared.granted_permit.GrantedPermit.{GrantedPermit}
use Rattle.permit_book.specs.Outstanding.{is_numbered}
use Rattle.authority_cache.specs.declared.standing_answer.StandingAnswer.{StandingAnswer}
use Rattle.authority_cache.specs.declared.turn.Turn.{Turn}
use Rattle.authority_cache.specs.Lists.{has_number, is_answer_for, is_turn_of}
use Rattle.authority_cache.specs.Lives.{life_of}
use Rattle.gate_history.specs.declared.base.SlotGrant.{SlotGrant}
use Rattle.gate_history.specs.Grants.{is_covered, is_in}

-- the valid answers, the turns in flight, the unspent and the running permits, the greatest generations granted; the
-- begins, the greatest moment, the entries and the Started entries
pub record Base : Type 0 where
  pub standing : List StandingAnswer
  pub in_flight : List Turn
  pub unspent : List GrantedPermit
  pub running : List GrantedPermit
  pub grants : List SlotGrant
  pub begins : ℕ
  pub moment : ℕ
  pub entries : ℕ
  pub started : ℕ

-- the base of a history without sealed entries
abbrev pub empty_base : Base
empty_base = record {
  standing = [];
  in_flight = [];
  unspent = [];
  running = [];
  grants = [];
  begins = 0;
  moment = 0;
  entries = 0;
  started = 0;
}

-- how often the number is outstanding, unspent or running
abbrev pub times_out : List GrantedPermit → List GrantedPermit → ℕ → ℕ
times_out unspent running number =
    length (filter (is_numbered number) unspent) + length (filter (is_numbered number) running)

-- this turn brought the answer
abbrev pub is_of_turn : ℕ → StandingAnswer → Bool
is_of_turn turn s = s.turn == turn

-- how often the turn occurs: in flight, or by its answer
abbrev pub times_turned : List StandingAnswer → List Turn → ℕ → ℕ
times_turned standing in_flight turn =
    length (filter (is_of_turn turn) standing) + length (filter (has_number turn) in_flight)

-- the answer's life suits its kind
abbrev pub has_its_life : StandingAnswer → Bool
has_its_life s = life_of s.says s.life == s.life

-- no number is outstanding twice, each was granted, and each slot has one greatest generation
pub record ArePermits (unspent running : List GrantedPermit) (grants : List SlotGrant) : Type 0 where
  pub numbers_once : (number : ℕ) → times_out unspent running number ≤ 1
  pub numbers_granted : (number : ℕ) → 0 < times_out unspent running number → is_covered grants number ≡ true
  pub slots_once : (slot : ℕ) → length (filter (is_in slot) grants) ≤ 1

-- no authority has two turns in flight or two answers; no turn occurs twice, and each began no later than the
-- greatest moment; each answer's life suits its kind
pub record AreTurns (standing : List StandingAnswer) (in_flight : List Turn) (begins moment : ℕ) : Type 0 where
  pub flights_once : (authority : List ℕ) → length (filter (is_turn_of authority) in_flight) ≤ 1
  pub answers_once : (authority : List ℕ) → length (filter (is_answer_for authority) standing) ≤ 1
  pub turns_once : (turn : ℕ) → times_turned standing in_flight turn ≤ 1
  pub turns_begun : (turn : ℕ) → 0 < times_turned standing in_flight turn → turn ≤ begins
  pub flights_begun : list_all (λ t. nat_le t.begun moment) in_flight ≡ true
  pub answers_begun : list_all (λ s. nat_le s.begun moment) standing ≡ true
  pub lives : list_all has_its_life standing ≡ true

-- a base of a legal history; no entry is both a begin and a start
pub record IsBase (b : Base) : Type 0 where
  pub permits : ArePermits b.unspent b.running b.grants
  pub turns : AreTurns b.standing b.in_flight b.begins b.moment
  pub counts : b.begins + b.started ≤ b.entries
