-- The text of each fault.
-- Cited by `Display`.
use Rattle.std.specs.Prelude.{ℕ, List, codes}
use Rattle.counted_io.specs.declared.next_line.ReadLineFault.{ReadLineFault}
use Rattle.counted_io.specs.declared.next_line.ReadLineFault.TheVariants.{Read, NoMemory}

-- why no line was read
abbrev pub read_line_fault_text : ReadLineFault → List ℕ
read_line_fault_text Read = codes "a read failed"
read_line_fault_text NoMemory = codes "no memory for a line"
