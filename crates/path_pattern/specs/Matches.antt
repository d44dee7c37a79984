-- Which paths a pattern matches.
-- RFC 9309, section 2.2.3.
use Rattle.std.specs.Prelude.{◌≡◌, ◌≢◌, ◌==◌, ◌++◌, ℕ, suc, Bool, IsTrue, List, [], ◌∷◌, length, if◌then◌else◌}
use Rattle.path_normal.specs.Normal.{is_anchored, unanchored}
use Rattle.path_normal.specs.Octets.{star}

-- the number of `*` in the pattern
abbrev pub stars : List ℕ → ℕ
stars [] = 0
stars (octet ∷ pattern) = if octet == star then suc (stars pattern) else stars pattern

-- the pattern with its i-th `*` replaced by the i-th text
abbrev pub filled : List ℕ → List (List ℕ) → List ℕ
filled [] texts = []
filled (octet ∷ pattern) [] = octet ∷ filled pattern []
filled (octet ∷ pattern) (text ∷ texts) =
    if octet == star then text ++ filled pattern texts else octet ∷ filled pattern (text ∷ texts)

-- the path is the pattern with a text for each `*`, and then a rest, empty if anchored
pub record Spells (pattern : List ℕ) (anchored : Bool) (path : List ℕ) : Type 0 where
  pub texts : List (List ℕ)
  pub rest : List ℕ
  pub as_many : length texts ≡ stars pattern
  pub spelled : path ≡ filled pattern texts ++ rest
  pub ended : IsTrue anchored → rest ≡ []

-- the pattern is not empty, and without a last `$`, its anchor, spells the path
pub record Matches (pattern path : List ℕ) : Type 0 where
  pub some : pattern ≢ []
  pub spells : Spells (unanchored pattern) (is_anchored pattern) path
