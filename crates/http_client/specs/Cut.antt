-- The result of an exchange through the TLS program. It shows no end of TLS, so a connection that ends was cut.
-- RFC 9112, sections 8 and 9.8.
use Rattle.std.specs.Prelude.{ℕ, Bool, List, Option, Result, Err, OnOk, if◌then◌else◌}
use Rattle.std.specs.Io.KnownBytes.{append_known}
use Rattle.http_wire.specs.Response.{Tells}
use Rattle.http_wire.specs.declared.fault.WireFault.{WireFault}
use Rattle.http_wire.specs.declared.fault.WireFault.TheVariants.{EarlyEnd}
use Rattle.http_wire.specs.declared.response.HttpReply.{HttpReply}

-- the given result, or an early end if the connection's end was read
abbrev pub unless_ended : Bool → Result HttpReply WireFault → Result HttpReply WireFault
unless_ended ended given = if ended then Err EarlyEnd else given

-- a reply is that of the octets read, whatever octets follow: it doesn't rest on the end
abbrev pub IsWholeBefore : List ℕ → Option (List ℕ) → ℕ → Result HttpReply WireFault → Type 0
IsWholeBefore unseen left limit result = OnOk result (Tells (append_known left unseen) limit result)
