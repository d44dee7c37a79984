-- The answers to URLs on their way through an output.
-- Used by the contracts that push them.
use Rattle.std.specs.Prelude.{◌≡◌, ℕ, List, ◌++◌, Option}
use Rattle.counted_io.specs.Device.{AppendsPrefix}
use Rattle.counted_io.specs.Output.{Passes}
use Rattle.robots_text.specs.Records.{Numbered}
use Rattle.robots_check.specs.Outcomes.{outcome_of}
use Rattle.robots_check.specs.Told.{Told, AreTold, answers_text}
use Rattle.robots_check.specs.declared.detail.Detail.{Detail}
use Rattle.robots_check.specs.declared.check_outcome.CheckOutcome.{CheckOutcome}

-- the answers to all URLs passed, with this outcome
pub record Passing (detail : Detail) (lines : List Numbered) (word : List ℕ) (urls : List (List ℕ))
    (old new : Option (List ℕ)) (pending left : List ℕ) (outcome : CheckOutcome) : Type 0 where
  pub answers : List Told
  pub are : AreTold detail lines word urls answers
  pub passed : Passes old new (pending ++ answers_text urls answers) left
  pub come_to : outcome ≡ outcome_of answers

-- at most a prefix of the answers to the first URLs was written
pub record PassingFront (detail : Detail) (lines : List Numbered) (word : List ℕ) (urls : List (List ℕ))
    (old new : Option (List ℕ)) (pending : List ℕ) : Type 0 where
  pub first : List (List ℕ)
  pub later : List (List ℕ)
  pub split : urls ≡ first ++ later
  pub answers : List Told
  pub are : AreTold detail lines word first answers
  pub wrote : AppendsPrefix old new (pending ++ answers_text first answers)
