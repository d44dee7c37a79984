-- The trailers decide the body.
use Rattle.std.proofs.Common.{subst}
use Rattle.std.proofs.lemmas.List.{take_rest}
use Rattle.http_wire.specs.Decoding.{TrailersTell}
use Rattle.http_wire.proofs.ChunkMoves.{end_decodes}
use Rattle.http_wire.proofs.chunked.ChunkDecoder.look_end.Goals as goal

pub returns-clause-decodes : goal.returns-clause-decodes
returns-clause-decodes c =
    let old = c.args.self.now in
    let new = record old { scanned = c.saturating_add-self.result } in
    let look = c.look_trailers.result in
    let tells = subst (λ t. TrailersTell t c.args.last look) (take_rest c.args.bytes.now old.at) c.look_trailers.ensures in
    end_decodes new c.args.bytes.now c.args.last look
    (record { started = c.requires.stands.started; within = c.requires.stands.within; decoded = c.requires.stands.decoded })
    c.requires.place tells
