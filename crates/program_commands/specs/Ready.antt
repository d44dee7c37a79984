-- What the program needs for a shift or a server.
-- Cited by `run`.
use Rattle.program_arguments.specs.Options.{AreForServe, AreForShift}
use Rattle.program_commands.specs.declared.next.Next.{Next}
use Rattle.program_commands.specs.declared.next.Next.TheVariants.{Ends, Shift, Serve}

-- the options are in their ranges
abbrev pub IsReady : Next → Type 0
IsReady (Ends ending) = Unit {0}
IsReady (Shift options) = AreForShift options
IsReady (Serve options) = AreForServe options
