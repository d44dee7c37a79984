-- How places are called, taken by workers and given back.
-- The contracts of `Queues` cite it.
use Rattle.std.specs.Prelude.{◌≡◌, ◌≢◌, ◌⊎◌, ◌+◌, ◌-◌, ◌<◌, ℕ, [], ◌∷◌, Some, slice_get, slice_set, ⊤}
use Rattle.std.specs.VecDeque.{deque_len, deque_capacity}
use Rattle.turns.specs.declared.queues.PlaceMark.{PlaceMark}
use Rattle.turns.specs.declared.queues.PlaceMark.TheVariants.{Free, Waits, Parked, Quick, Slow, Served}
use Rattle.turns.specs.declared.queues.Queues.{Queues}
use Rattle.turns.specs.declared.queues.Clients.TheVariants as clients
use Rattle.turns.specs.declared.queues.Line.{Line}
use Rattle.turns.specs.declared.queues.Line.TheVariants as line
use Rattle.turns.specs.declared.turn.PlaceTurn.{PlaceTurn}
use Rattle.turns.specs.declared.turn.Task.{Task}
use Rattle.turns.specs.declared.turn.Task.TheVariants as task
use Rattle.turns.specs.declared.turn.AfterTurn.{AfterTurn}
use Rattle.turns.specs.declared.turn.AfterTurn.TheVariants as rest
use Rattle.turns.specs.Marks.{marked, is_free, is_quick, is_slow}

-- the place is marked so
abbrev pub IsMarked : Queues → ℕ → PlaceMark → Type 0
IsMarked queues place mark = slice_get queues.marks.items place ≡ Some mark

-- the place waits for its client, or is parked
abbrev pub IsAtRest : Queues → ℕ → Type 0
IsAtRest queues place = IsMarked queues place Waits ⊎ IsMarked queues place Parked

-- the place is marked anew, and no other place
abbrev pub Remarks : Queues → ℕ → PlaceMark → Queues → Type 0
Remarks old place mark new = new.marks.items ≡ slice_set old.marks.items place mark

-- the mark of a place after its turn
abbrev pub mark_of : AfterTurn → PlaceMark
mark_of rest.Waits = Waits
mark_of rest.Parked = Parked
mark_of rest.Quick = Quick
mark_of rest.Slow = Slow
mark_of rest.Free = Free

-- the queue that the place joins, if it joins one, has room
abbrev pub HasRoom : Queues → AfterTurn → Type 0
HasRoom queues rest.Waits = ⊤
HasRoom queues rest.Parked = ⊤
HasRoom queues rest.Quick = deque_len queues.quick < deque_capacity queues.quick
HasRoom queues rest.Slow = deque_len queues.slow < deque_capacity queues.slow
HasRoom queues rest.Free = deque_len queues.free < deque_capacity queues.free

-- a place that is served goes where its turn says, and another one stays as it is
pub record GoesTo (old : Queues) (place : ℕ) (rest : AfterTurn) (new : Queues) : Type 0 where
  pub served : IsMarked old place Served → HasRoom old rest → Remarks old place (mark_of rest) new
  pub other : ¬ (IsMarked old place Served) → new.marks.items ≡ old.marks.items

-- the slow steps under way after a turn for this task
abbrev pub slow_after : Task → ℕ → ℕ
slow_after task.Work slow = slow - 1
slow_after task.Serve slow = slow
slow_after task.End slow = slow

-- a place that waits or is parked is called, and another one stays as it is: also one that is served or called
pub record CallsPlace (old : Queues) (place : ℕ) (new : Queues) : Type 0 where
  pub rests : IsAtRest old place → HasRoom old rest.Quick → Remarks old place Quick new
  pub other : ¬ (IsAtRest old place) → new.marks.items ≡ old.marks.items

-- the first free place is served now
pub record Admits (old : Queues) (turn : PlaceTurn) (new : Queues) : Type 0 where
  pub first : old.free.items ≡ turn.place ∷ new.free.items
  pub free : marked is_free old.marks.items turn.place ≡ 1
  pub served : Remarks old turn.place Served new

-- the place that was called first, and not for a slow step, is served now
pub record TakesQuick (old : Queues) (turn : PlaceTurn) (new : Queues) : Type 0 where
  pub first : old.quick.items ≡ turn.place ∷ new.quick.items
  pub called : marked is_quick old.marks.items turn.place ≡ 1
  pub served : Remarks old turn.place Served new
  pub task : turn.task ≢ task.Work
  pub slow_now : new.slow_now ≡ old.slow_now

-- the place that was called first for a slow step is served now. It takes the step if few enough places do, and else
-- the loop is shut
pub record TakesSlow (old : Queues) (turn : PlaceTurn) (new : Queues) : Type 0 where
  pub first : old.slow.items ≡ turn.place ∷ new.slow.items
  pub called : marked is_slow old.marks.items turn.place ≡ 1
  pub served : Remarks old turn.place Served new
  pub step : ((turn.task ≡ task.Work) × (old.slow_now < old.most_slow) × (new.slow_now ≡ old.slow_now + 1))
      ⊎ ((turn.task ≡ task.End) × (old.clients ≡ clients.Shut) × (new.slow_now ≡ old.slow_now))

-- a place that was called, so one that nobody served, is served now
abbrev pub Takes : Queues → PlaceTurn → Queues → Type 0
Takes old turn new = TakesQuick old turn new ⊎ TakesSlow old turn new

-- a slow step may be taken, or let go
abbrev pub MayWork : Queues → Type 0
MayWork queues = (queues.slow_now < queues.most_slow) ⊎ (queues.clients ≡ clients.Shut)

-- this queue has a place that may be taken
abbrev pub IsNext : Queues → Line → Type 0
IsNext queues line.Quick = ¬ (queues.quick.items ≡ [])
IsNext queues line.Slow = ¬ (queues.slow.items ≡ []) × MayWork queues

-- no place is called, but for slow steps while enough places take some
pub record HasNone (queues : Queues) : Type 0 where
  pub quick : queues.quick.items ≡ []
  pub slow : (queues.slow.items ≡ []) ⊎ ¬ (MayWork queues)
