-- The octet past the room cuts the body.
use Rattle.std.proofs.Common.{◌≡◌, ◌<◌, ◌≤◌, ◌+◌, ◌++◌, arith, ap, subst, sym, ◌∙◌, length, drop, take}
use Rattle.std.proofs.lemmas.List.{take_rest}
use Rattle.http_wire.specs.declared.chunked.ChunkState.TheVariants as places
use Rattle.http_wire.specs.Chunks.{GivesCut}
use Rattle.http_wire.proofs.ChunkPlaces.{octets_end, octets_cut}
use Rattle.http_wire.proofs.ChunkMoves.{at_place}
use Rattle.http_wire.proofs.chunked.ChunkDecoder.look_past.Goals as goal

pub returns-then-text-room-clause-steps : goal.returns-then-text-room-clause-steps
returns-then-text-room-clause-steps c =
    let old = c.args.self.now in
    let rest = drop old.at c.args.bytes.now in
    let past = c.requires.past in
    let d = at_place old c.args.bytes.now (places.Octets past.0) c.requires.stands past.1 in
    let len = ap length (take_rest c.args.bytes.now old.at) in
    let few : length rest ≤ c.args.room = omega (arith, len, c.if-text-room.true) in (
      c.requires.stands,
      λ _. octets_end old.limit past.0 _ old.octets.items rest d (omega (arith, few, past.2)) (omega (arith, few, c.requires.room, old.octets.ok)),
    )

pub returns-clause-steps : goal.returns-clause-steps
returns-clause-steps c =
    let old = c.args.self.now in
    let rest = drop old.at c.args.bytes.now in
    let past = c.requires.past in
    let d = at_place old c.args.bytes.now (places.Octets past.0) c.requires.stands past.1 in
    let whole = take_rest c.args.bytes.now old.at in
    let more : c.args.room < length rest = omega (arith, ap length whole, c.if-text-room.false) in
    let kept : c.extend_from_slice.new.self.items ≡ old.octets.items ++ take c.args.room rest = c.in_ok-extend_from_slice.ensures.items ∙ ap (λ t. old.octets.items ++ take c.args.room t) whole in
    let cut = octets_cut old.limit past.0 c.args.room _ old.octets.items rest d (omega (arith, c.requires.room, old.octets.ok)) past.2 more in
    (drop (c.args.room + 1) rest, subst (λ given. GivesCut old.limit (drop old.start c.args.bytes.now) given (drop (c.args.room + 1) rest)) (sym kept) cut)
