-- A partial chunk can go on; one without an end is bad.
use Rattle.std.proofs.Common.{◌<◌, ◌≤◌, arith, ap, length, drop}
use Rattle.std.proofs.lemmas.List.{take_rest}
use Rattle.http_wire.specs.declared.chunked.ChunkState.TheVariants as places
use Rattle.http_wire.specs.Chunks.{IsOpenEnd, NeverHasEnd}
use Rattle.http_wire.specs.declared.chunked.ChunkEnd.TheVariants as chunk_ends
use Rattle.http_wire.specs.Decoding.{EndTells}
use Rattle.http_wire.proofs.ChunkPlaces.{octets_end, chunk_open, chunk_bad}
use Rattle.http_wire.proofs.ChunkMoves.{at_place, text_behind}
use Rattle.http_wire.proofs.chunked.ChunkDecoder.look_chunk.Goals as goal

pub returns-then-text-size-clause-steps : goal.returns-then-text-size-clause-steps
returns-then-text-size-clause-steps c =
    let old = c.args.self.now in
    let rest = drop old.at c.args.bytes.now in
    let d = at_place old c.args.bytes.now (places.Octets c.args.size) c.requires.stands c.requires.place in
    let few : length rest < c.args.size = omega (arith, ap length (take_rest c.args.bytes.now old.at), c.if-text-size.true) in
    (c.requires.stands, λ _. octets_end old.limit c.args.size _ old.octets.items rest d few (omega (arith, few, c.requires.fits, old.octets.ok)))

pub returns-in-Open-clause-steps : goal.returns-in-Open-clause-steps
returns-in-Open-clause-steps c =
    let old = c.args.self.now in
    let rest = drop old.at c.args.bytes.now in
    let d = at_place old c.args.bytes.now (places.Octets c.args.size) c.requires.stands c.requires.place in
    let stand : c.args.size ≤ length rest = omega (arith, ap length (take_rest c.args.bytes.now old.at), c.if-text-size.false) in
    let open' = text_behind IsOpenEnd c.args.bytes.now old.at c.args.size c.in-Open.ensures in
    (c.requires.stands, λ _. chunk_open old.limit c.args.size _ old.octets.items rest d (omega (arith, c.requires.fits, old.octets.ok)) stand open')

pub returns-in-Bad-clause-steps : goal.returns-in-Bad-clause-steps
returns-in-Bad-clause-steps c =
    let old = c.args.self.now in
    let rest = drop old.at c.args.bytes.now in
    let d = at_place old c.args.bytes.now (places.Octets c.args.size) c.requires.stands c.requires.place in
    let stand : c.args.size ≤ length rest = omega (arith, ap length (take_rest c.args.bytes.now old.at), c.if-text-size.false) in
    let never = text_behind NeverHasEnd c.args.bytes.now old.at c.args.size c.in-Bad.ensures in
    chunk_bad old.limit c.args.size _ old.octets.items rest d (omega (arith, c.requires.fits, old.octets.ok)) stand never

pub take_chunk-requires-clause-whole : goal.take_chunk-requires-clause-whole
take_chunk-requires-clause-whole c = record {
  within = omega (arith, ap length (take_rest c.args.bytes.now c.args.self.now.at), c.if-text-size.false);
  ends = text_behind (λ text. EndTells text chunk_ends.Whole) c.args.bytes.now c.args.self.now.at c.args.size c.in-Whole.ensures;
}
