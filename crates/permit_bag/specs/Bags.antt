-- A bag as contracts see it, and what its calls do to it and its desk.
-- Cited by `Bag` and the keepers of sessions.
use Rattle.std.specs.Prelude.{◌≡◌, ℕ, ◌+◌, ◌==◌, ◌&&◌, Bool, true, false, MatchBool, List, [], ◌∷◌, length, Option, Some, None, Result, Ok, Err}
use Rattle.std.specs.List.{list_any}
use Rattle.std.specs.List.Sorted.{IsPermutation}
use Rattle.std.specs.Str.{bytes_eq}
use Rattle.permit_book.specs.declared.refusal.NotOut.{NotOut}
use Rattle.gate_history.specs.declared.outcome.Cause.TheVariants.{Spent}
use Rattle.gate_history.specs.declared.outcome.Reason.{Reason}
use Rattle.gate_core.specs.declared.refusal.Denial.{Denial}
use Rattle.gate_lock.specs.Desks.{DeskView, out_of, Pass, Run}
use Rattle.gate_lock.specs.Steps.{DeskFinishes, DeskReturns, DeskStarts, Somewhere}

-- one desk's permits and fetches that may be made, in any order, and how many more permits fit without growth
pub record BagView : Type 0 where
  pub desk : ℕ
  pub permits : List Pass
  pub runs : List Run
  pub room : ℕ

-- how many permits and fetches it holds
abbrev pub held_in : BagView → ℕ
held_in b = length b.permits + length b.runs

-- a permit of this number is in it
abbrev pub has_permit : BagView → ℕ → Bool
has_permit b number = list_any (λ (p : Pass). p.number == number) b.permits

-- one of this number, token and URL is in it
abbrev pub has_permit_for : BagView → ℕ → List ℕ → List ℕ → Bool
has_permit_for b number token url =
    list_any (λ (p : Pass). (p.number == number) && (bytes_eq p.token token && bytes_eq p.url url)) b.permits

-- one of this number and URL is in it
abbrev pub has_permit_of : BagView → ℕ → List ℕ → Bool
has_permit_of b number url = list_any (λ (p : Pass). (p.number == number) && bytes_eq p.url url) b.permits

-- the URL of a permit of this number in it, if any
abbrev pub IsUrlIn : BagView → ℕ → Option (List ℕ) → Type 0
IsUrlIn b number (Some url) = has_permit_of b number url ≡ true
IsUrlIn b number None = has_permit b number ≡ false

-- a fetch of this number is in it
abbrev pub has_run : BagView → ℕ → Bool
has_run b number = list_any (λ (r : Run). r.pass.number == number) b.runs

-- the permit of its desk with this number, token and URL
abbrev pub pass_of : BagView → ℕ → List ℕ → List ℕ → Pass
pass_of b number token url = record { number = number; token = token; url = url; desk = b.desk }

-- its contents stay
pub record HoldsSame (b b2 : BagView) : Type 0 where
  pub desk_is : b2.desk ≡ b.desk
  pub permits_are : b2.permits ≡ b.permits
  pub runs_are : b2.runs ≡ b.runs

-- a permit was put in
pub record GainsPermit (b : BagView) (p : Pass) (b2 : BagView) : Type 0 where
  pub desk_is : b2.desk ≡ b.desk
  pub permits_are : IsPermutation (p ∷ b.permits) b2.permits
  pub runs_are : b2.runs ≡ b.runs

-- a permit was put in, so it holds one more
pub record KeepsPermit (b : BagView) (p : Pass) (b2 : BagView) : Type 0 where
  pub gains : GainsPermit b p b2
  pub one_more : held_in b2 ≡ held_in b + 1

-- a permit was taken out
pub record LosesPermit (b : BagView) (p : Pass) (b2 : BagView) : Type 0 where
  pub desk_is : b2.desk ≡ b.desk
  pub permits_are : IsPermutation b.permits (p ∷ b2.permits)
  pub runs_are : b2.runs ≡ b.runs

-- a permit became a fetch that may be made
pub record StartsPermit (b : BagView) (r : Run) (b2 : BagView) : Type 0 where
  pub desk_is : b2.desk ≡ b.desk
  pub permits_are : IsPermutation b.permits (r.pass ∷ b2.permits)
  pub runs_are : IsPermutation (r ∷ b.runs) b2.runs

-- a fetch was taken out
pub record LosesRun (b : BagView) (r : Run) (b2 : BagView) : Type 0 where
  pub desk_is : b2.desk ≡ b.desk
  pub permits_are : b2.permits ≡ b.permits
  pub runs_are : IsPermutation b.runs (r ∷ b2.runs)

-- nothing is left in it
pub record IsCleared (b b2 : BagView) : Type 0 where
  pub desk_is : b2.desk ≡ b.desk
  pub permits_are : b2.permits ≡ []
  pub runs_are : b2.runs ≡ []

-- what the desk must spend beside the bag's contents stays
abbrev pub KeepsBalance : BagView → DeskView → BagView → DeskView → Type 0
KeepsBalance b d b2 d2 = out_of d2 + held_in b ≡ out_of d + held_in b2

-- start: a step of the desk with the bag's permit of this number, token and URL, else Spent without a step
abbrev pub BagStarts : BagView → DeskView → ℕ → List ℕ → List ℕ → ℕ → Result Reason Denial → BagView → DeskView → Type 0
BagStarts b d number token url m (Ok reason) b2 d2 =
    Somewhere d (λ old new. DeskStarts d old (pass_of b number token url) m
    (Ok (record { pass = pass_of b number token url; reason = reason })) new d2)
    × StartsPermit b (record { pass = pass_of b number token url; reason = reason }) b2
BagStarts b d number token url m (Err denial) b2 d2 =
    MatchBool (has_permit_for b number token url)
    (Somewhere d (λ old new. DeskStarts d old (pass_of b number token url) m (Err denial) new d2)
    × LosesPermit b (pass_of b number token url) b2)
    ((denial ≡ record { url = url; cause = Spent }) × (d2 ≡ d) × HoldsSame b b2)

-- back: a step of the desk with a permit of this number, else NotOut without a step
abbrev pub BagReturns : BagView → DeskView → ℕ → Result Unit NotOut → BagView → DeskView → Type 0
BagReturns b d number (Ok _) b2 d2 =
    Somewhere d (λ old new. DeskReturns d old number new d2)
    × ((p : Pass) × ((p.number ≡ number) × LosesPermit b p b2))
BagReturns b d number (Err _) b2 d2 = (has_permit b number ≡ false) × (d2 ≡ d) × HoldsSame b b2

-- finish: a step of the desk with a fetch of this number, else NotOut without a step
abbrev pub BagFinishes : BagView → DeskView → ℕ → Result Unit NotOut → BagView → DeskView → Type 0
BagFinishes b d number (Ok _) b2 d2 =
    Somewhere d (λ old new. DeskFinishes d old number new d2)
    × ((r : Run) × ((r.pass.number ≡ number) × LosesRun b r b2))
BagFinishes b d number (Err _) b2 d2 = (has_run b number ≡ false) × (d2 ≡ d) × HoldsSame b b2

-- each permit is given back in its own step, the last first
abbrev pub ReturnsEach : DeskView → List Pass → DeskView → Type 0
ReturnsEach d [] d2 = d2 ≡ d
ReturnsEach d (p ∷ ps) d2 =
    (between : DeskView) × ReturnsEach d ps between
    × Somewhere between (λ old new. DeskReturns between old p.number new d2)

-- each fetch is finished in its own step, the last first
abbrev pub FinishesEach : DeskView → List Run → DeskView → Type 0
FinishesEach d [] d2 = d2 ≡ d
FinishesEach d (r ∷ rs) d2 =
    (between : DeskView) × FinishesEach d rs between
    × Somewhere between (λ old new. DeskFinishes between old r.pass.number new d2)

-- clear: each permit is given back and each fetch finished
abbrev pub Clears : BagView → DeskView → DeskView → Type 0
Clears b d d2 = (between : DeskView) × ReturnsEach d b.permits between × FinishesEach between b.runs d2
