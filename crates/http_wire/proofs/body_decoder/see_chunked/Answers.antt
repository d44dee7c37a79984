-- Chunks that can't be read are refused, whatever follows.
use Rattle.std.proofs.Common.{List, ℕ, drop, subst}
use Rattle.http_wire.specs.Seeing.{Refuses}
use Rattle.http_wire.specs.declared.fault.WireFault.TheVariants.{BadChunk}
use Rattle.http_wire.specs.declared.framing.Framing.TheVariants.{Chunked}
use Rattle.http_wire.proofs.BodyLooks.{bad_chunks}
use Rattle.http_wire.proofs.body_decoder.see_chunked.Goals as goal

pub returns-in-Bad-clause-err : goal.returns-in-Bad-clause-err
returns-in-Bad-clause-err c =
    let now = c.args.decoder.now in
    let new = c.look.new.self in
    let bytes = c.octets.result.now in
    subst (λ (t : List ℕ). Refuses Chunked now.limit (drop now.start t) BadChunk) c.octets.ensures.value
    (bad_chunks now.limit now.start new.limit new.start bytes c.in_ok-behind.ensures.bounds.limit c.in_ok-behind.ensures.bounds.start
    (rw c.in-Bad.is at c.in_ok-behind.ensures.decodes))
