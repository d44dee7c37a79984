-- How lines are answered in turn, and where a reply goes.
-- Cited by `Answerer` and `run_session`.
use Rattle.std.specs.Prelude.{◌≡◌, ◌⊎◌, ℕ, Bool, true, false, List, [], ◌∷◌, ◌++◌, Option}
use Rattle.counted_io.specs.Device.{AppendsPrefix}
use Rattle.counted_io.specs.Output.{Passes}
use Rattle.command_lines.specs.declared.answerer.Flow.{Flow}
use Rattle.command_lines.specs.declared.answerer.Flow.TheVariants.{Goes, Ends}

-- whether the session ends
abbrev pub ends_session : Flow → Bool
ends_session Goes = false
ends_session Ends = true

-- the reply to a line reached the output
pub record GivesReply (is_reply : List ℕ → Type 0) (old new : Option (List ℕ)) (pending left : List ℕ) : Type 0 where
  pub reply : List ℕ
  pub answered : is_reply reply
  pub passed : Passes old new (pending ++ reply) left

-- a line was answered, ending the session or not, but at most a part of the pending octets and the reply was written
pub record LosesReply (is_reply : List ℕ → Bool → Type 0) (old new : Option (List ℕ)) (pending : List ℕ) : Type 0 where
  pub reply : List ℕ
  pub ended : Bool
  pub answered : is_reply reply ended
  pub cut : AppendsPrefix old new (pending ++ reply)

-- the first line is the last; its reply ends the session
pub record EndsAtLine (ends : List ℕ → Type 0) (rest : List (List ℕ)) (text : List ℕ) (ended : Bool) : Type 0 where
  pub answered : ends text
  pub last : rest ≡ []
  pub ended_is : ended ≡ true

-- the first line gets a reply, and the rest is answered from the next state
pub record GoesOn {S : Type 0} (goes : List ℕ → S → Type 0) (rest_is_answered : S → List ℕ → Type 0)
    (text : List ℕ) : Type 0 where
  pub reply : List ℕ
  pub state : S
  pub rest : List ℕ
  pub text_is : text ≡ reply ++ rest
  pub answered : goes reply state
  pub then : rest_is_answered state rest

-- the lines are answered in turn from a state by parts of the text, and lead to a state; only the last may end the
-- session
abbrev pub AnswersLines : {S : Type 0} → (S → List ℕ → List ℕ → Bool → S → Type 0) → S → List (List ℕ) → List ℕ → Bool
    → S → Type 0
AnswersLines answers old [] text ended new = (text ≡ []) × (ended ≡ false) × (new ≡ old)
AnswersLines answers old (line ∷ lines) text ended new =
    EndsAtLine (λ reply. answers old line reply true new) lines text ended
    ⊎ GoesOn (λ reply state. answers old line reply false state)
    (λ state rest. AnswersLines answers state lines rest ended new) text

-- a reply was given, but at most a part of it and the pending octets was written
pub record CutsReply (is_reply : List ℕ → Type 0) (old new : Option (List ℕ)) (pending : List ℕ) : Type 0 where
  pub reply : List ℕ
  pub answered : is_reply reply
  pub cut : AppendsPrefix old new (pending ++ reply)
