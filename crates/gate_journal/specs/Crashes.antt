-- What a recovery finds of lines that a crash left.
-- Cited by the law on crashes.
use Rattle.std.specs.Prelude.{◌≡◌, ℕ, ◌≤◌, List, length, take, All}
use Rattle.counted_io.specs.Lines.{HasNoLineFeed}
use Rattle.journal.specs.Crash.{MayLeave}
use Rattle.history_text.specs.SpellBase.{lines_text}
use Rattle.crawl_audit.specs.Recovering.{IsCut}

-- the found lines are the first ones, at least this many
pub record AreFirstLines (lines : List (List ℕ)) (told : ℕ) (found : List (List ℕ)) : Type 0 where
  pub count : ℕ
  pub least : told ≤ count
  pub within : count ≤ length lines
  pub found_are : found ≡ take count lines

-- the whole lines that a crash leaves are the first ones, with all first lines that were kept
abbrev pub CrashLeavesLines : Type 0
CrashLeavesLines =
    (lines : List (List ℕ)) (told kept : ℕ) (left : List ℕ) (whole : List (List ℕ)) → All HasNoLineFeed lines
    → told ≤ length lines → length (lines_text (take told lines)) ≤ kept → MayLeave (lines_text lines) kept left
    → IsCut left whole → AreFirstLines lines told whole
