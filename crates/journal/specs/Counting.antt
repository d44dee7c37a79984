-- Whether a journal's files are named by the count of entries before them.
-- Used by `first_misplaced`.
use Rattle.std.specs.Prelude.{◌+◌, ◌==◌, ℕ, Bool, true, List, [], ◌∷◌, Option, None, Some, if◌then◌else◌}
use Rattle.journal.specs.declared.counting.NumberedFile.{NumberedFile}

-- the entries up to the end of a file before these ones, if known: the number of the next, or the count of all
abbrev pub number_behind : List NumberedFile → Option ℕ → Option ℕ
number_behind [] entries = entries
number_behind (next ∷ files) entries = Some next.number

-- a file has so many entries up to its end, if that is known
abbrev pub ends_at : NumberedFile → Option ℕ → Bool
ends_at file None = true
ends_at file (Some entries) = file.number + file.entries == entries

-- the file that is misplaced where one that is before these has another end: the next, or else that one
abbrev pub misplaced_in : ℕ → List NumberedFile → ℕ
misplaced_in part [] = part
misplaced_in part (next ∷ files) = part + 1

-- the first file, counted from so many, whose number is not that of the entries before it
abbrev pub first_misplaced : ℕ → List NumberedFile → Option ℕ → Option ℕ
first_misplaced part [] entries = None
first_misplaced part (file ∷ files) entries =
    if ends_at file (number_behind files entries) then first_misplaced (part + 1) files entries
    else Some (misplaced_in part files)
