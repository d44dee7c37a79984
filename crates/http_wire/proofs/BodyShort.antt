-- What a look at a counted body tells if it finds nothing.
-- Used by `BodyDecoder::see`.
use Rattle.std.proofs.Common.{◌≡◌, ℕ, Bool, true, List, Result, Ok, refl, subst}
use Rattle.http_wire.specs.Seeing.{IsShort, SeesBody}
use Rattle.http_wire.specs.declared.body_decoder.BodySeen.{BodySeen}
use Rattle.http_wire.specs.declared.body_decoder.BodySeen.TheVariants.{More}
use Rattle.http_wire.specs.declared.fault.WireFault.{WireFault}
use Rattle.http_wire.specs.declared.framing.Framing.TheVariants.{Counted}

pub counted_short : (size limit : ℕ) (text : List ℕ) (seen : BodySeen) → ((last : Bool) → SeesBody (Counted size) limit text last seen)
    → ◌≡◌ {A = Result BodySeen WireFault} (Ok seen) (Ok More) → IsShort (Counted size) limit text
counted_short size limit text seen sees more =
    let same : seen ≡ More = cc in
    subst (SeesBody (Counted size) limit text true) same (sees true) refl
