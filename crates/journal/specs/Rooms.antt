-- Whether entries may come by the octets that a journal's files have.
-- Used by `FilesRoom`.
use Rattle.std.specs.Prelude.{◌<◌, IfSome}
use Rattle.journal.specs.declared.files_room.FilesRoom.{FilesRoom}

-- the files have fewer octets than they may, if that is limited
abbrev pub HasRoom : FilesRoom → Type 0
HasRoom room = IfSome room.limit (λ limit. room.octets < limit)
