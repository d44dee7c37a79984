-- What is known of a journal's file by the octets that were read: its lines, and which of them are entries.
-- Used by `TextRead`.
use Rattle.std.specs.Prelude.{◌+◌, ◌-◌, ◌^◌, ◌==◌, ℕ, List, [], ◌∷◌, if◌then◌else◌, min}
use Rattle.journal.specs.declared.text_read.EntriesAt.{EntriesAt}
use Rattle.journal.specs.declared.text_read.EntriesAt.TheVariants.{Here, NextLine, BehindBase}
use Rattle.journal.specs.declared.text_read.LinePlace.{LinePlace}
use Rattle.journal.specs.declared.text_read.LinePlace.TheVariants.{Start, LetterE, Within}
use Rattle.journal.specs.declared.text_read.TextRead.{TextRead}

-- nothing was read of a text
abbrev pub text_at : EntriesAt → TextRead
text_at at = record { lines = 0; entries = 0; at = at; place = Start }

-- one more, up to the greatest number
abbrev pub one_more : ℕ → ℕ
one_more n = min (n + 1) (2 ^ 64 - 1)

-- where entries begin behind the end of a line
abbrev pub at_behind : EntriesAt → LinePlace → EntriesAt
at_behind Here place = Here
at_behind NextLine place = Here
at_behind BehindBase LetterE = Here
at_behind BehindBase Start = BehindBase
at_behind BehindBase Within = BehindBase

-- the entries behind the end of a line
abbrev pub entries_behind : EntriesAt → ℕ → ℕ
entries_behind Here n = one_more n
entries_behind NextLine n = n
entries_behind BehindBase n = n

-- a line ended
abbrev pub end_of_line : TextRead → TextRead
end_of_line read = record {
  lines = one_more read.lines;
  entries = entries_behind read.at read.entries;
  at = at_behind read.at read.place;
  place = Start;
}

-- the place behind an octet that ends no line
abbrev pub place_behind : LinePlace → ℕ → LinePlace
place_behind Start octet = if octet == 69 then LetterE else Within
place_behind LetterE octet = Within
place_behind Within octet = Within

-- an octet was read
abbrev pub step : TextRead → ℕ → TextRead
step read octet = if octet == 10 then end_of_line read else record {
  lines = read.lines;
  entries = read.entries;
  at = read.at;
  place = place_behind read.place octet;
}

-- octets were read
abbrev pub steps : TextRead → List ℕ → TextRead
steps read [] = read
steps read (octet ∷ octets) = steps (step read octet) octets

-- a line that has no end counts too
abbrev pub unended : LinePlace → ℕ
unended Start = 0
unended LetterE = 1
unended Within = 1

-- the lines, with a last one that has no line feed
abbrev pub line_count : TextRead → ℕ
line_count read = min (read.lines + unended read.place) (2 ^ 64 - 1)
