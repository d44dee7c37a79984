-- The schemes of pages, and which are read.
-- RFC 9110, sections 4.2.1 and 4.2.2; RFC 9309, section 2.3.
use Rattle.std.specs.Prelude.{◌≡◌, ◌⊎◌, ◌||◌, ℕ, Bool, List, bytes_eq, codes}
use Rattle.path_normal.specs.declared.schemes.Schemes.{Schemes}
use Rattle.path_normal.specs.declared.schemes.Schemes.TheVariants.{Http, HttpAndHttps}

-- the scheme is one of these
abbrev pub reads : Schemes → List ℕ → Bool
reads Http scheme = bytes_eq scheme (codes "http")
reads HttpAndHttps scheme = bytes_eq scheme (codes "http") || bytes_eq scheme (codes "https")

-- a page's scheme
abbrev pub IsScheme : List ℕ → Type 0
IsScheme scheme = (scheme ≡ codes "http") ⊎ (scheme ≡ codes "https")
