-- The user of Basic credentials, which name a product token.
-- RFC 7617, section 2; RFC 9110, section 11.4.
use Rattle.std.specs.Prelude.{ℕ, ◌==◌, nat_lt, ◌&&◌, not, List, take, drop, length, Option, Some, None, Result, Ok, Err, codes, if◌then◌else◌}
use Rattle.std.specs.List.{prefix_len}
use Rattle.base64.specs.Engines.{standard}
use Rattle.base64.specs.GeneralPurpose.{decode_of}
use Rattle.base64.specs.declared.decode.DecodeError.{DecodeError}
use Rattle.http_uri.specs.ByteClasses.{colon}
use Rattle.robots_text.specs.Octets.{space}
use Rattle.robots_text.specs.Words.{is_same_word}
use Rattle.http_front.specs.declared.asked.Misasked.{Misasked}
use Rattle.http_front.specs.declared.asked.Misasked.TheVariants as misasked

-- how many spaces come first
abbrev pub space_len : List ℕ → ℕ
space_len octets = prefix_len (λ octet. octet == space) octets

-- what follows the scheme, if spaces do
abbrev pub behind_spaces : List ℕ → Option (List ℕ)
behind_spaces octets =
    if nat_lt 0 (space_len octets) then Some (drop (space_len octets) octets)
    else None

-- the encoded pair: it follows the scheme's name, in any case, and at least one space
abbrev pub encoded_in : List ℕ → Option (List ℕ)
encoded_in credentials =
    if nat_lt (length credentials) 5 then None
    else (if is_same_word (take 5 credentials) (codes "basic") then behind_spaces (drop 5 credentials)
    else None)

-- how much of a pair comes before its first colon
abbrev pub user_len : List ℕ → ℕ
user_len pair = prefix_len (λ octet. not (octet == colon)) pair

-- the user of a pair: not empty, and followed by a colon
abbrev pub user_in : List ℕ → Option (List ℕ)
user_in pair =
    if nat_lt 0 (user_len pair) && nat_lt (user_len pair) (length pair) then Some (take (user_len pair) pair)
    else None

-- the user of what was decoded
abbrev pub user_decoded : Result (List ℕ) DecodeError → Option (List ℕ)
user_decoded (Ok pair) = user_in pair
user_decoded (Err fault) = None

-- the user of an encoded pair
abbrev pub user_encoded : Option (List ℕ) → Option (List ℕ)
user_encoded (Some encoded) = user_decoded (decode_of standard encoded)
user_encoded None = None

-- the user of Basic credentials
abbrev pub user_of : List ℕ → Option (List ℕ)
user_of credentials = user_encoded (encoded_in credentials)

-- the user, without whom nobody is named
abbrev pub user_or_none : Option (List ℕ) → Result (List ℕ) Misasked
user_or_none (Some user) = Ok user
user_or_none None = Err misasked.NoCredentials
