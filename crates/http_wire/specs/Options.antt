-- What a head says of its connection.
-- RFC 9112, sections 6.3, 9.3 and 9.6; RFC 9110, section 7.6.1.
use Rattle.std.specs.Prelude.{ℕ, Bool, true, false, ◌&&◌, not, ◌==◌, List, [], ◌∷◌, codes}
use Rattle.std.specs.List.{list_any}
use Rattle.robots_text.specs.Words.{is_same_word}
use Rattle.http_wire.specs.Fields.{Pair, members_of, values_of}

-- the connection option that ends the connection after the response
abbrev pub is_close : List ℕ → Bool
is_close option = is_same_word option (codes "close")

-- an option of the connection is `close`
abbrev pub says_close : List Pair → Bool
says_close fields = list_any is_close (members_of (codes "connection") fields)

-- there is some value
abbrev pub is_given : List (List ℕ) → Bool
is_given [] = false
is_given (value ∷ values) = true

-- the body's end is told by a coding and by a length, as where a response was smuggled into another one
abbrev pub is_framed_twice : List Pair → Bool
is_framed_twice fields =
    is_given (values_of (codes "transfer-encoding") fields) && is_given (values_of (codes "content-length") fields)

-- a connection may go on after a response with this minor version of HTTP/1 and these fields
abbrev pub persists : ℕ → List Pair → Bool
persists minor fields = (minor == 1) && (not (says_close fields) && not (is_framed_twice fields))
