-- The URL of an unspent permit.
-- Used by `Book::url_of`, and by the keepers of sessions.
use Rattle.std.specs.Prelude.{◌≡◌, ℕ, true, false, List, Option, Some, None}
use Rattle.gate_history.specs.History.{History}
use Rattle.gate_history.specs.Outstanding.{is_unspent, stands}

-- the URL of the number's unspent permit, if there is one
abbrev pub IsPermitUrl : History → ℕ → Option (List ℕ) → Type 0
IsPermitUrl h number (Some url) = (token : List ℕ) × (stands h number token url ≡ true)
IsPermitUrl h number None = is_unspent h number ≡ false
