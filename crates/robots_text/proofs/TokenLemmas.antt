-- A token in lower case is the token that it writes, and is UTF-8.
-- Used by `Token::new`.
use Rattle.std.proofs.Common.{◌≡◌, ℕ, true, ◌<◌, ◌&&◌, List, [], ◌∷◌, length, suc, subst, Some, sym, refl, ap, ◌∙◌, arith}
use Rattle.std.specs.List.{list_all}
use Rattle.std.specs.Char.{to_ascii_lowercase}
use Rattle.std.specs.Str.{IsAscii, IsUtf8}
use Rattle.std.proofs.lemmas.Str.{IsUtf8-from_ascii}
use Rattle.std.proofs.lemmas.Str.Ascii.{IsAscii-nil, IsAscii-cons}
use Rattle.std.proofs.lemmas.Bool.{cond-true, and_parts, and_from}
use Rattle.std.proofs.lemmas.Bool.Decides.{nat_tests}
use Rattle.std.specs.Prelude.{nat_lt, nat_le}
use Rattle.robots_text.specs.Token.{is_token_octet, is_token, lower_case, token_limit, token_of}

stays_octet : (b : ℕ) → is_token_octet b ≡ true → is_token_octet (to_ascii_lowercase b) ≡ true
stays_octet b passes = grind (arith, nat_tests)

stays_lower : (b : ℕ) → to_ascii_lowercase (to_ascii_lowercase b) ≡ to_ascii_lowercase b
stays_lower b = grind (arith, nat_tests)

all_stay : (octets : List ℕ) → list_all is_token_octet octets ≡ true → list_all is_token_octet (lower_case octets) ≡ true
all_stay [] passes = refl
all_stay (b ∷ octets) passes =
    let parts = and_parts _ _ passes in
    and_from _ _ (stays_octet b parts.0) (all_stay octets parts.1)

lower_twice : (octets : List ℕ) → lower_case (lower_case octets) ≡ lower_case octets
lower_twice [] = refl
lower_twice (b ∷ octets) = λ i. stays_lower b i ∷ lower_twice octets i

same_length : (octets : List ℕ) → length (lower_case octets) ≡ length octets
same_length [] = refl
same_length (b ∷ octets) = ap suc (same_length octets)

pub token_of_token : (octets : List ℕ) → is_token octets ≡ true → token_of (lower_case octets) ≡ Some (lower_case octets)
token_of_token octets token =
    let parts = and_parts _ _ token in
    let length_stays = subst (λ n. (nat_lt 0 n && nat_le n token_limit) ≡ true) (sym (same_length octets)) parts.0 in
    let stays : is_token (lower_case octets) ≡ true = and_from _ _ length_stays (all_stay octets parts.1) in
    cond-true _ _ _ stays ∙ ap Some (lower_twice octets)

small_octet : (b : ℕ) → is_token_octet b ≡ true → to_ascii_lowercase b < 128
small_octet b passes = grind (arith, nat_tests)

are_ascii : (octets : List ℕ) → list_all is_token_octet octets ≡ true → IsAscii (lower_case octets)
are_ascii [] passes = IsAscii-nil
are_ascii (b ∷ octets) passes =
    let parts = and_parts _ _ passes in
    IsAscii-cons (to_ascii_lowercase b) (lower_case octets) (small_octet b parts.0) (are_ascii octets parts.1)

pub token_is_utf8 : (octets : List ℕ) → is_token octets ≡ true → IsUtf8 (lower_case octets)
token_is_utf8 octets token = IsUtf8-from_ascii (lower_case octets) (are_ascii octets (and_parts _ _ token).1)
