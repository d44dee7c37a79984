-- What an iterator over records has left.
-- Cited by `Records`.
use Rattle.std.specs.Prelude.{false, List, map}
use Rattle.robots_text.specs.declared.records.Records.{Records}
use Rattle.robots_text.specs.Lines.{lines_from}
use Rattle.robots_text.specs.Records.{Numbered, numbered_from, record_of}

-- the remaining records, with their numbers
abbrev pub records_left : Records → List Numbered
records_left records = numbered_from records.line (map record_of (lines_from false records.rest.now))
