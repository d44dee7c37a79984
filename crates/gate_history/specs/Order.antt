-- The order of a base's lists: answers by their authorities' octets, turns and permits by number, grants by slot.
-- Used by seals.
use Rattle.std.specs.Prelude.{◌≡◌, All, Bool, true, false, Contains, List, [], ◌∷◌, IsPermutation, IsSortedByKey, Option, Some, None, filter, if◌then◌else◌}
use Rattle.std.specs.Ordering.{is_lt, nat_cmp}
use Rattle.std.specs.Cmp.Lexicographic.{slice_cmp}
use Rattle.permit_book.specs.declared.granted_permit.GrantedPermit.{GrantedPermit}
use Rattle.authority_cache.specs.declared.standing_answer.StandingAnswer.{StandingAnswer}
use Rattle.authority_cache.specs.declared.turn.Turn.{Turn}
use Rattle.gate_history.specs.declared.base.SlotGrant.{SlotGrant}
use Rattle.gate_history.specs.Base.{Base}

-- the answers rise by the octets of their authorities
abbrev pub AnswersRise : List StandingAnswer → Type 0
AnswersRise = IsSortedByKey (λ (s : StandingAnswer). s.authority) (slice_cmp nat_cmp)

-- the one answer's authority is below the other's
abbrev pub is_before : StandingAnswer → StandingAnswer → Bool
is_before one other = is_lt (slice_cmp nat_cmp one.authority other.authority)

-- an answer put behind those before it
abbrev pub put_answer : StandingAnswer → List StandingAnswer → List StandingAnswer
put_answer s [] = s ∷ []
put_answer s (t ∷ later) = if is_before t s then t ∷ put_answer s later else s ∷ t ∷ later

-- answers in order
abbrev pub in_order : List StandingAnswer → List StandingAnswer
in_order [] = []
in_order (s ∷ later) = put_answer s (in_order later)

-- the answer comes behind the last one, if there is one
abbrev pub is_behind : Option StandingAnswer → StandingAnswer → Bool
is_behind None s = true
is_behind (Some last) s = is_before last s

-- the earlier of two answers, the one of them if there is one
abbrev pub earlier_than : Option StandingAnswer → StandingAnswer → Option StandingAnswer
earlier_than None s = Some s
earlier_than (Some t) s = if is_before s t then Some s else Some t

-- the same, if the other is behind the last answer
abbrev pub earlier_of : Option StandingAnswer → Option StandingAnswer → StandingAnswer → Option StandingAnswer
earlier_of last next s = if is_behind last s then earlier_than next s else next

-- the earliest of the answers behind the last one, if there is one
abbrev pub IsEarliest : Option StandingAnswer → List StandingAnswer → Option StandingAnswer → Type 0
IsEarliest last standing None = All (λ t. is_behind last t ≡ false) standing
IsEarliest last standing (Some s) = Contains standing s × (is_behind last s ≡ true)
    × All (λ t. is_behind last t ≡ true → is_before t s ≡ false) standing

-- the next of the answers behind the last one: the others are behind it
abbrev pub IsNextAnswer : List StandingAnswer → Option StandingAnswer → Option StandingAnswer → Type 0
IsNextAnswer standing last None = filter (is_behind last) standing ≡ []
IsNextAnswer standing last (Some next) =
    filter (is_behind last) standing ≡ next ∷ filter (is_behind (Some next)) standing

-- the turns rise by their numbers
abbrev pub TurnsRise : List Turn → Type 0
TurnsRise = IsSortedByKey (λ (t : Turn). t.turn) nat_cmp

-- so do the permits
abbrev pub PermitsRise : List GrantedPermit → Type 0
PermitsRise = IsSortedByKey (λ (p : GrantedPermit). p.number) nat_cmp

-- the grants rise by their slots
abbrev pub GrantsRise : List SlotGrant → Type 0
GrantsRise = IsSortedByKey (λ (g : SlotGrant). g.slot) nat_cmp

-- each list of the base is sorted
pub record IsInOrder (b : Base) : Type 0 where
  pub answers : AnswersRise b.standing
  pub turns : TurnsRise b.in_flight
  pub permits : PermitsRise b.unspent
  pub runs : PermitsRise b.running
  pub grants : GrantsRise b.grants

-- the base has the given one's elements, in any order
pub record Reorders (given made : Base) : Type 0 where
  pub answers : IsPermutation given.standing made.standing
  pub turns : IsPermutation given.in_flight made.in_flight
  pub permits : IsPermutation given.unspent made.unspent
  pub runs : IsPermutation given.running made.running
  pub grants : IsPermutation given.grants made.grants
  pub begun : made.begins ≡ given.begins
  pub moment : made.moment ≡ given.moment
  pub entries : made.entries ≡ given.entries
  pub started : made.started ≡ given.started
