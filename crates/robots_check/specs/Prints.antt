-- What `lines` read and wrote, by its result.
-- Used by `lines` and `lines_of`.
use Rattle.std.specs.Prelude.{ℕ, List, [], Option, Result, Ok, Err}
use Rattle.std.specs.Io.KnownBytes.{Appends}
use Rattle.counted_io.specs.Device.{AppendsPrefix}
use Rattle.robots_check.specs.Checks.{ReadsBody, StopsAtInput}
use Rattle.robots_check.specs.LinesText.{lines_text}
use Rattle.robots_check.specs.declared.fault.TextFault.{TextFault}
use Rattle.robots_check.specs.declared.fault.TextFault.TheVariants.{Read, Write, NoMemory}

-- the body's text was written; or memory was refused before any writing; or a write failed after at most a prefix
abbrev pub WritesLines : (body : List ℕ) (written new : Option (List ℕ)) → Result (Unit {0}) TextFault → Type 0
WritesLines body written new (Ok _) = Appends written new (lines_text body)
WritesLines body written new (Err Read) = ⊥
WritesLines body written new (Err Write) = AppendsPrefix written new (lines_text body)
WritesLines body written new (Err NoMemory) = Appends written new []

-- the body was read and its text written; or a read failed or memory was refused before any writing; or a write
-- failed after at most a prefix
abbrev pub Prints : (input left written new : Option (List ℕ)) → Result (Unit {0}) TextFault → Type 0
Prints input left written new (Ok _) =
    (body : List ℕ) × ReadsBody input left body × Appends written new (lines_text body)
Prints input left written new (Err Read) = StopsAtInput input left written new
Prints input left written new (Err Write) =
    (body : List ℕ) × ReadsBody input left body × AppendsPrefix written new (lines_text body)
Prints input left written new (Err NoMemory) = StopsAtInput input left written new
