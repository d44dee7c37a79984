-- A plain line is a text: used by `plain_text` and `LineWords::of`.
use Rattle.std.proofs.Common.{◌≡◌, ◌<◌, ℕ, true, false, List, [], ◌∷◌, Result, Ok, Err, MatchOption, MatchResult, Bor, arith}
use Rattle.std.specs.Result.{result_ok}
use Rattle.std.specs.Str.{IsAscii, IsUtf8}
use Rattle.std.proofs.lemmas.Bool.Decides.{nat_tests}
use Rattle.std.proofs.lemmas.Str.{IsUtf8-from_ascii}
use Rattle.std.proofs.lemmas.Str.Ascii.{IsAscii-nil, IsAscii-cons}
use Rattle.command_lines.specs.CallOf.{has_line_octets}

plain_parts : (octet : ℕ) (line : List ℕ) → has_line_octets (octet ∷ line) ≡ true → (octet < 128) × (has_line_octets line ≡ true)
plain_parts octet line h = (grind (arith, nat_tests), grind (arith, nat_tests))

ascii_of_plain : (line : List ℕ) → has_line_octets line ≡ true → IsAscii line
ascii_of_plain [] h = IsAscii-nil
ascii_of_plain (octet ∷ line) h =
    let parts = plain_parts octet line h in IsAscii-cons octet line parts.0 (ascii_of_plain line parts.1)

pub utf8_of_plain : (line : List ℕ) → has_line_octets line ≡ true → IsUtf8 line
utf8_of_plain line h = IsUtf8-from_ascii line (ascii_of_plain line h)

pub text_of_plain : {E : Type 0} (P : E → Type 0) (line : List ℕ) (r : Result (Bor (List ℕ)) E) → has_line_octets line ≡ true → MatchResult r (λ s. (s.now ≡ line) × IsUtf8 line) (λ e. ¬ (IsUtf8 line) × P e) → MatchOption (result_ok r) (has_line_octets line ≡ false) (λ text. (has_line_octets line ≡ true) × (text.now ≡ line))
text_of_plain P line (Ok text) h m = (h, m.0)
text_of_plain P line (Err e) h m = absurd (m.0 (utf8_of_plain line h))
