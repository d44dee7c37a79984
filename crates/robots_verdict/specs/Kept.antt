-- The rules of an answer, as seen.
-- The value of `Rules`.
use Rattle.std.specs.Prelude.{ℕ, List}

-- the text, and how many spare handles of its policy are kept
pub record KeptRules : Type 0 where
  pub text : List ℕ
  pub spares : ℕ
