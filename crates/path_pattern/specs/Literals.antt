-- The literals of a pattern between its wildcards, and where they occur in a path.
-- Cited by the matcher's parts.
use Rattle.std.specs.Prelude.{◌≡◌, ◌≢◌, ◌==◌, ◌++◌, ℕ, Bool, false, not, All, List, ◌∷◌}
use Rattle.std.specs.Prelude as prelude
use Rattle.std.specs.List.{list_all}
use Rattle.memchr.specs.Find.{IsFirstByte, is_byte}
use Rattle.path_pattern.specs.declared.literals.Star.{Star}
use Rattle.path_pattern.specs.declared.literals.Star.TheVariants.{None, Only, First}
use Rattle.path_normal.specs.Octets.{star}

-- the literal has no `*`
abbrev pub HasNoStar : List ℕ → Type 0
HasNoStar literal = All (λ octet. (octet == star) ≡ false) literal

-- whether the literal has no `*`
abbrev pub has_no_star : List ℕ → Bool
has_no_star literal = list_all (λ octet. not (octet == star)) literal

-- the first `*` of the pattern is between the literal and the rest
pub record IsSplitAtStar (pattern literal after : List ℕ) : Type 0 where
  pub plain : HasNoStar literal
  pub parts : pattern ≡ literal ++ star ∷ after

-- the pattern has at most one `*`
abbrev pub HasNoSecondStar : List ℕ → Type 0
HasNoSecondStar pattern = (literal after : List ℕ) → IsSplitAtStar pattern literal after → HasNoStar after

-- the first wildcard of the pattern; no other follows an only one
abbrev pub IsStarOf : List ℕ → Star → Type 0
IsStarOf pattern None = HasNoStar pattern
IsStarOf pattern (Only place) = IsFirstByte (is_byte star) pattern (prelude.Some place) × HasNoSecondStar pattern
IsStarOf pattern (First place) = IsFirstByte (is_byte star) pattern (prelude.Some place)

-- the literal is no prefix of the path
abbrev pub BeginsNot : List ℕ → List ℕ → Type 0
BeginsNot path literal = (rest : List ℕ) → path ≢ literal ++ rest

-- the literal does not occur in the path
abbrev pub StandsNowhere : List ℕ → List ℕ → Type 0
StandsNowhere path literal = (front rest : List ℕ) → path ≢ front ++ (literal ++ rest)

-- the rest follows the literal's first occurrence, so it has every other rest as a suffix
pub record IsAfterFirst (path literal rest : List ℕ) : Type 0 where
  pub front : List ℕ
  pub stands : path ≡ front ++ (literal ++ rest)
  pub first : (other after : List ℕ) → path ≡ other ++ (literal ++ after)
      → (between : List ℕ) × (rest ≡ between ++ after)
