-- The answers to URLs, each with its explanation if asked for.
-- Used by `check`.
use Rattle.std.specs.Prelude.{◌≡◌, ℕ, List, [], ◌∷◌, ◌++◌}
use Rattle.robots_text.specs.Records.{Numbered}
use Rattle.robots_check.specs.AnswerText.{answer_text}
use Rattle.robots_check.specs.Answers.{Answer, unread, IsAnswer}
use Rattle.robots_check.specs.Explained.{Explains}
use Rattle.robots_check.specs.Targets.{HasPath}
use Rattle.robots_check.specs.declared.detail.Detail.{Detail}
use Rattle.robots_check.specs.declared.detail.Detail.TheVariants.{Plain, Explained}

-- an answer, and the text before it
pub record Told : Type 0 where
  pub before : List ℕ
  pub answer : Answer

-- the text explains the answer on the URL's path
abbrev pub ExplainsUrl : List Numbered → List ℕ → List ℕ → Answer → List ℕ → Type 0
ExplainsUrl lines word url answer text = (path : List ℕ) × HasPath url path × Explains lines word path answer text

-- the text before an answer: none, or its explanation; an unreadable URL has none
abbrev pub IsBefore : Detail → List Numbered → List ℕ → List ℕ → Answer → List ℕ → Type 0
IsBefore Plain lines word url answer text = text ≡ []
IsBefore Explained lines word url (unread fault) text = text ≡ []
IsBefore Explained lines word url answer text = ExplainsUrl lines word url answer text

-- this answers the URL
pub record IsTold (detail : Detail) (lines : List Numbered) (word url : List ℕ) (told : Told) : Type 0 where
  pub answer : IsAnswer lines word url told.answer
  pub before : IsBefore detail lines word url told.answer told.before

-- these answer the URLs, in order
abbrev pub AreTold : Detail → List Numbered → List ℕ → List (List ℕ) → List Told → Type 0
AreTold detail lines word [] [] = Unit {0}
AreTold detail lines word (url ∷ urls) (told ∷ answers) =
    IsTold detail lines word url told × AreTold detail lines word urls answers
AreTold detail lines word [] (told ∷ answers) = ⊥
AreTold detail lines word (url ∷ urls) [] = ⊥

-- the lines for a URL
abbrev pub told_text : List ℕ → Told → List ℕ
told_text url told = told.before ++ answer_text url told.answer

-- the lines for all URLs, in order
abbrev pub answers_text : List (List ℕ) → List Told → List ℕ
answers_text [] answers = []
answers_text (url ∷ urls) [] = []
answers_text (url ∷ urls) (told ∷ answers) = told_text url told ++ answers_text urls answers
