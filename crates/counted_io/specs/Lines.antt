-- Lines, and what a read of one line takes from a source and its buffer.
-- Cited by `LineReader`.
use Rattle.std.specs.Prelude.{◌≡◌, ◌≢◌, ℕ, ◌+◌, ◌-◌, ◌<◌, ◌≤◌, ◌⊎◌, ◌==◌, if◌then◌else◌, List, [], ◌∷◌, ◌++◌, length, take, All, slice_index, Option, Result, Ok, Err}
use Rattle.std.specs.Io.KnownBytes.{Consumes, IsAtEnd, prepend_known}
use Rattle.counted_io.specs.Device.{one_more}
use Rattle.counted_io.specs.Limits.{line_buffer}
use Rattle.counted_io.specs.declared.line_end.LineEnd.{LineEnd}
use Rattle.counted_io.specs.declared.line_end.LineEnd.TheVariants as ends
use Rattle.counted_io.specs.declared.next_line.NextLine.{NextLine}
use Rattle.counted_io.specs.declared.next_line.NextLine.TheVariants.{Line, Last, End, TooLong}
use Rattle.counted_io.specs.declared.next_line.ReadLineFault.{ReadLineFault}
use Rattle.counted_io.specs.declared.next_line.ReadLineFault.TheVariants.{Read, NoMemory}
use Rattle.counted_io.specs.declared.line_part.LinePart.{LinePart}
use Rattle.counted_io.specs.declared.line_part.LinePart.TheVariants as parts

-- LF
abbrev pub line_feed : ℕ
line_feed = 10

-- CR
abbrev pub carriage_return : ℕ
carriage_return = 13

-- no octet is a line feed
abbrev pub HasNoLineFeed : List ℕ → Type 0
HasNoLineFeed octets = All (λ octet. octet ≢ line_feed) octets

-- the octets without one trailing carriage return
abbrev pub without_cr : List ℕ → List ℕ
without_cr raw = if slice_index raw (length raw - 1) == carriage_return then take (length raw - 1) raw else raw

-- a line's octets, of those before a line feed
abbrev pub without_end : LineEnd → List ℕ → List ℕ
without_end ends.Lf raw = raw
without_end ends.LfOrCrLf raw = without_cr raw

-- the place behind the last line feed of the first octets, this many, or 0 if there is none
pub record LinesEnd (octets : List ℕ) (end place : ℕ) : Type 0 where
  pub within : place ≤ end
  pub feed : 0 < place → slice_index octets (place - 1) ≡ line_feed
  pub none : (k : ℕ) → place ≤ k → k < end → slice_index octets k ≢ line_feed

-- the buffer is empty, and the source at its end
pub record IsDrained (pending : List ℕ) (left : Option (List ℕ)) : Type 0 where
  pub empty : pending ≡ []
  pub at_end : IsAtEnd left

-- a line of at most limit octets was taken, with its end
pub record TakesLineTo (end : LineEnd) (limit : ℕ) (old new : Option (List ℕ)) (line : List ℕ) : Type 0 where
  pub raw : List ℕ
  pub no_line_feed : HasNoLineFeed raw
  pub line_is : line ≡ without_end end raw
  pub fits : length line ≤ limit
  pub consumed : Consumes old new (raw ++ line_feed ∷ [])

-- the rest, a line of at most limit octets without an end, was taken
pub record TakesLast (limit : ℕ) (old : Option (List ℕ)) (pending : List ℕ) (left : Option (List ℕ))
    (line : List ℕ) : Type 0 where
  pub no_line_feed : HasNoLineFeed line
  pub some : 0 < length line
  pub fits : length line ≤ limit
  pub consumed : Consumes old (prepend_known pending left) line
  pub drained : IsDrained pending left

-- nothing was left
pub record FindsEnd (old : Option (List ℕ)) (pending : List ℕ) (left : Option (List ℕ)) (line : List ℕ) : Type 0 where
  pub empty : line ≡ []
  pub kept : Consumes old (prepend_known pending left) []
  pub drained : IsDrained pending left

-- a prefix of a line was taken, too long whatever follows or with nothing after it, at most a buffer past the limit
pub record FindsTooLongTo (end : LineEnd) (limit : ℕ) (old : Option (List ℕ)) (pending : List ℕ)
    (left : Option (List ℕ)) : Type 0 where
  pub raw : List ℕ
  pub no_line_feed : HasNoLineFeed raw
  pub too_long : (limit < length (without_end end raw)) ⊎ ((limit < length raw) × IsDrained pending left)
  pub soon : length raw ≤ limit + 1 + line_buffer
  pub consumed : Consumes old (prepend_known pending left) raw

-- what a call took of buffer and source, by what it found
abbrev pub TakesTo : LineEnd → ℕ → Option (List ℕ) → List ℕ → Option (List ℕ) → NextLine → List ℕ → Type 0
TakesTo end limit old pending left Line line = TakesLineTo end limit old (prepend_known pending left) line
TakesTo end limit old pending left Last line = TakesLast limit old pending left line
TakesTo end limit old pending left End line = FindsEnd old pending left line
TakesTo end limit old pending left TooLong line = FindsTooLongTo end limit old pending left

-- a line was taken that LF or CR LF ends
abbrev pub TakesLine : ℕ → Option (List ℕ) → Option (List ℕ) → List ℕ → Type 0
TakesLine limit old new line = TakesLineTo ends.LfOrCrLf limit old new line

-- a too long prefix was taken of a line that LF or CR LF ends
abbrev pub FindsTooLong : ℕ → Option (List ℕ) → List ℕ → Option (List ℕ) → Type 0
FindsTooLong limit old pending left = FindsTooLongTo ends.LfOrCrLf limit old pending left

-- what a call took, if LF or CR LF ends lines
abbrev pub Takes : ℕ → Option (List ℕ) → List ℕ → Option (List ℕ) → NextLine → List ℕ → Type 0
Takes limit old pending left next line = TakesTo ends.LfOrCrLf limit old pending left next line

-- at most a part of a line was taken, all in line
pub record TakesPart (old new : Option (List ℕ)) (line : List ℕ) : Type 0 where
  pub no_line_feed : HasNoLineFeed line
  pub consumed : Consumes old new line

-- the source's failures: one more exactly if a read failed
abbrev pub failures_after_line : ℕ → Result NextLine ReadLineFault → ℕ
failures_after_line failures (Ok _) = failures
failures_after_line failures (Err Read) = one_more failures
failures_after_line failures (Err NoMemory) = failures

-- no line feed is in the first count octets, and one follows, if anything
pub record IsPart (octets : List ℕ) (count : ℕ) : Type 0 where
  pub within : count ≤ length octets
  pub no_line_feed : HasNoLineFeed (take count octets)
  pub then_line_feed : count < length octets → slice_index octets count ≡ line_feed

-- the whole buffer was added to the line, up to the limit and a carriage return
pub record MovesOpen (limit : ℕ) (old new line added : List ℕ) : Type 0 where
  pub empty : new ≡ []
  pub added_is : added ≡ line ++ old
  pub no_line_feed : HasNoLineFeed old
  pub fits : length added ≤ limit + 1

-- the buffer's octets up to a line feed end the line
pub record MovesLine (end : LineEnd) (limit : ℕ) (old new line added : List ℕ) : Type 0 where
  pub part : List ℕ
  pub no_line_feed : HasNoLineFeed part
  pub taken : old ≡ (part ++ line_feed ∷ []) ++ new
  pub added_is : added ≡ without_end end (line ++ part)
  pub fits : length added ≤ limit

-- with the buffer's octets, the line is too long
pub record MovesTooLong (end : LineEnd) (limit : ℕ) (old new line : List ℕ) : Type 0 where
  pub part : List ℕ
  pub no_line_feed : HasNoLineFeed part
  pub within : length part ≤ line_buffer
  pub taken : old ≡ part ++ new
  pub too_long : limit < length (without_end end (line ++ part))

-- what moved from buffer to line, by what was found
abbrev pub Moves : LineEnd → ℕ → List ℕ → List ℕ → List ℕ → List ℕ → LinePart → Type 0
Moves end limit old new line added parts.Open = MovesOpen limit old new line added
Moves end limit old new line added parts.Whole = MovesLine end limit old new line added
Moves end limit old new line added parts.TooLong = MovesTooLong end limit old new line
