-- The lines of a server. docs/FORMATS.md has them.
-- Cited by `ServerLine::pieces`.
use Rattle.std.specs.Prelude.{ℕ, List, [], ◌∷◌, ◌++◌, codes, decimal}
use Rattle.line_text.specs.Pieces.{line_of}
use Rattle.program_commands.specs.declared.server_line.ServerLine.{ServerLine}
use Rattle.program_commands.specs.declared.server_line.ServerLine.TheVariants.{Listens, ListensAt, Seals, SealsAt, ServesHttp, ServesHttpAt, Served}

-- where a server listens, and what it has done
abbrev pub server_text : ServerLine → List ℕ
server_text (Listens port) = line_of (codes "LISTEN" ∷ (codes "127.0.0.1:" ++ decimal port) ∷ [])
server_text (ListensAt path) = line_of (codes "LISTEN" ∷ path.now ∷ [])
server_text (Seals port) = line_of (codes "SEAL" ∷ (codes "127.0.0.1:" ++ decimal port) ∷ [])
server_text (SealsAt path) = line_of (codes "SEAL" ∷ path.now ∷ [])
server_text (ServesHttp port) = line_of (codes "HTTP" ∷ (codes "127.0.0.1:" ++ decimal port) ∷ [])
server_text (ServesHttpAt path) = line_of (codes "HTTP" ∷ path.now ∷ [])
server_text (Served connections events) =
    line_of (codes "SERVED" ∷ codes "connections" ∷ decimal connections ∷ codes "events" ∷ decimal events ∷ [])
