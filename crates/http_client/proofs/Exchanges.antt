-- What an exchange writes after a header, and its result for a reader with unknown octets.
use Rattle.std.proofs.Common.{◌≡◌, ℕ, ◌+◌, List, [], ◌++◌, length, take, Option, None, Result, Err, subst, sym}
use Rattle.std.proofs.Common.{inl, inr}
use Rattle.std.proofs.KnownBytes.{Appends-trans}
use Rattle.std.proofs.Math.Seq.{take-append-add}
use Rattle.std.specs.Io.KnownBytes.{Appends}
use Rattle.counted_io.specs.Device.{AppendsPrefix}
use Rattle.http_wire.specs.declared.fault.WireFault.{WireFault}
use Rattle.http_wire.specs.declared.fault.WireFault.TheVariants.{Device}
use Rattle.http_wire.specs.declared.response.HttpReply.{HttpReply}
use Rattle.http_wire.specs.Response.{Tells}
use Rattle.http_client.specs.Exchange.{Exchanges}

pub device_tells : (limit : ℕ) (result : Result HttpReply WireFault) → result ≡ Err Device → Tells None limit result
device_tells limit result fails =
    let P : Result HttpReply WireFault → Type 0 = λ r. Tells None limit r
    in subst P (sym fails) (record { input = []; whole = tt; answers = tt })

pub exchange_tells :
    (request : List ℕ) (limit : ℕ) (written written' : Option (List ℕ)) (writes writes' : ℕ)
    (reads reads' : ℕ) (result : Result HttpReply WireFault)
    → Exchanges request limit written written' writes writes' None reads reads' result → Tells None limit result
exchange_tells request limit written written' writes writes' reads reads' result (inl unsent) =
    device_tells limit result unsent.fault
exchange_tells request limit written written' writes writes' reads reads' result (inr answered) = answered.tells

-- ---- a header before the request

pub prefix_behind : (old mid new : Option (List ℕ)) (header request : List ℕ) → Appends old mid header → AppendsPrefix mid new request
    → AppendsPrefix old new (header ++ request)
prefix_behind old mid new header request before part =
    (length header + part.0, subst (Appends old new) (sym (take-append-add header request part.0)) (Appends-trans old mid new header (take part.0 request) before part.1))
