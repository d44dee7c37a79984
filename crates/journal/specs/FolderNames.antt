-- The names in a journal's folder, as docs/FORMATS.md has them (The files of a journal).
-- Used by `kind_of`.
use Rattle.std.specs.Prelude.{◌==◌, ◌&&◌, ◌||◌, ℕ, Bool, List, if◌then◌else◌, length, take, drop, nat_le, codes, bytes_eq}
use Rattle.std.specs.List.{list_all}
use Rattle.std.specs.Char.{is_ascii_digit}
use Rattle.journal.specs.declared.folder_names.NameKind.{NameKind}
use Rattle.journal.specs.declared.folder_names.NameKind.TheVariants.{Numbered, Log, Own, Altered, Foreign}

-- twenty digits come first
abbrev pub begins_with_number : List ℕ → Bool
begins_with_number name = nat_le 20 (length name) && list_all is_ascii_digit (take 20 name)

-- the lock, or the beginning of the next file
abbrev pub is_own : List ℕ → Bool
is_own name = bytes_eq name (codes ".lock") || bytes_eq name (codes ".new")

-- what a name is of that has this after twenty digits
abbrev pub kind_behind : List ℕ → NameKind
kind_behind rest =
    if length rest == 0 then Numbered else if bytes_eq rest (codes ".log") then Log else Altered

-- what a name is of
abbrev pub kind_of : List ℕ → NameKind
kind_of name =
    if begins_with_number name then kind_behind (drop 20 name)
    else if is_own name then Own else Foreign
