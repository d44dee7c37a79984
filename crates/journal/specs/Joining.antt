-- Texts that are read as one, and where a line of all is.
-- Used by `Joined`.
use Rattle.std.specs.Prelude.{◌≡◌, ℕ, ◌+◌, ◌-◌, List, [], ◌∷◌, length, drop, Option, None, Some, if◌then◌else◌, nat_le}
use Rattle.std.specs.Io.KnownBytes.{IsAtEnd, Keeps, prepend_known}
use Rattle.journal.specs.declared.joined.Joined.{Joined}
use Rattle.journal.specs.declared.joined.JoinedLine.{JoinedLine}
use Rattle.journal.specs.declared.joined.PartRead.{PartRead}
use Rattle.journal.specs.Reading.{line_count}

-- the octets of one text and then those of others, where they are known
abbrev pub then_known : Option (List ℕ) → Option (List ℕ) → Option (List ℕ)
then_known None behind = None
then_known (Some octets) behind = prepend_known octets behind

-- the octets of texts in order
abbrev pub places_left : {P : Type 0} → (P → Option (List ℕ)) → List P → Option (List ℕ)
places_left octets [] = Some []
places_left octets (place ∷ places) = then_known (octets place) (places_left octets places)

-- the octets that are not read of the open text, if one is open
abbrev pub open_left : {T : Type 0} → (T → Option (List ℕ)) → Option T → Option (List ℕ)
open_left remaining None = Some []
open_left remaining (Some text) = remaining text

-- how many texts were opened, where these many were read to their end
abbrev pub opened_behind : {T : Type 0} → ℕ → Option T → ℕ
opened_behind count None = count
opened_behind count (Some text) = count + 1

-- how many texts were opened
abbrev pub opened : {P T : Type 0} → Joined P T → ℕ
opened j = opened_behind (length j.reads.items) j.text

-- the octets that are not read of all texts
abbrev pub left_of : {P T : Type 0} → (P → Option (List ℕ)) → (T → Option (List ℕ)) → Joined P T → Option (List ℕ)
left_of octets remaining j =
    then_known (open_left remaining j.text) (places_left octets (drop (opened j) j.places.items))

-- the next text was opened; where none of the open one was left, all of the others is
pub record GoesOn {P T : Type 0} (octets : P → Option (List ℕ)) (remaining : T → Option (List ℕ))
    (old new : Joined P T) : Type 0 where
  pub left : IsAtEnd (open_left remaining old.text)
      → Keeps (left_of octets remaining old) (left_of octets remaining new)
  pub more : opened new ≡ opened old + 1
  pub places : new.places ≡ old.places

-- the text of which a line of all is, counted on, and its number there: behind those of these texts it is another's
abbrev pub own_line : ℕ → List PartRead → ℕ → JoinedLine
own_line part [] line = record { part = part; line = line }
own_line part (read ∷ reads) line =
    if nat_le line (line_count read.text) then record { part = part; line = line }
    else own_line (part + 1) reads (line - line_count read.text)

-- of so many octets of these texts and another one, those of that one: none if they end before it
abbrev pub octets_behind : List PartRead → ℕ → Option ℕ
octets_behind [] octets = Some octets
octets_behind (read ∷ reads) octets =
    if nat_le read.octets octets then octets_behind reads (octets - read.octets) else None

-- of so many octets of all texts, those of the last one: none before it was opened
abbrev pub own_octets : {P T : Type 0} → Joined P T → ℕ → Option ℕ
own_octets j octets =
    if nat_le (length j.places.items) (opened j) then octets_behind j.reads.items octets else None
