-- Octets that are text, or are not.
-- Used by `text_of` of fields.
use Rattle.std.proofs.Common.{◌≡◌, ℕ, Bool, true, false, List, Some, None, refl}
use Rattle.std.specs.Prelude.{if◌then◌else◌, IsUtf8}
use Rattle.std.specs.Str.{is_utf8}
use Rattle.std.proofs.lemmas.Str.{IsUtf8-from_is_utf8, is_utf8-from_IsUtf8}
use Rattle.http_front.specs.Fields.{text_of}

-- octets that are UTF-8 are the text
pub is_text : (octets : List ℕ) → IsUtf8 octets → text_of octets ≡ Some octets
is_text octets utf8 = rw (is_utf8-from_IsUtf8 octets utf8) refl

by_test : (octets : List ℕ) → ¬ (IsUtf8 octets) → (test : Bool) → is_utf8 octets ≡ test
    → (if test then Some octets else None) ≡ None
by_test octets broken true is = absurd (broken (IsUtf8-from_is_utf8 octets is))
by_test octets broken false is = refl

-- others are none
pub is_no_text : (octets : List ℕ) → ¬ (IsUtf8 octets) → text_of octets ≡ None
is_no_text octets broken = by_test octets broken (is_utf8 octets) refl
