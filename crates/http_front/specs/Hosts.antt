-- The hosts of the loopback, which no page of another machine can have as its own.
-- RFC 9110, section 7.2; RFC 6761, section 6.3.
use Rattle.std.specs.Prelude.{ℕ, ◌==◌, min, Bool, true, ◌&&◌, ◌||◌, List, [], ◌∷◌, take, drop, length, codes}
use Rattle.std.specs.List.{list_all}
use Rattle.std.specs.Char.{is_ascii_digit}
use Rattle.http_uri.specs.ByteClasses.{colon}
use Rattle.robots_text.specs.Words.{is_same_word}

-- nothing, or a colon and digits
abbrev pub is_port : List ℕ → Bool
is_port [] = true
is_port (octet ∷ digits) = octet == colon && list_all is_ascii_digit digits

-- where a host of this name ends
abbrev pub name_end : List ℕ → List ℕ → ℕ
name_end name host = min (length name) (length host)

-- the host has this name, in any case, and any port
abbrev pub is_named : List ℕ → List ℕ → Bool
is_named name host = is_same_word (take (name_end name host) host) name && is_port (drop (name_end name host) host)

-- the host is the loopback's
abbrev pub is_loopback : List ℕ → Bool
is_loopback host =
    is_named (codes "127.0.0.1") host || is_named (codes "[::1]") host || is_named (codes "localhost") host
