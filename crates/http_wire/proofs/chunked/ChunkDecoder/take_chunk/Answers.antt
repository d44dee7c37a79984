-- A whole chunk moves the place past it, and its octets are kept.
use Rattle.std.proofs.Common.{◌≡◌, ◌≤◌, ◌+◌, ◌++◌, arith, ap, subst, sym, ◌∙◌, length, drop, take, length-append}
use Rattle.std.proofs.lemmas.List.{take_rest, length-drop, drop-drop}
use Rattle.httparse.specs.Ascii.{crlf_bytes}
use Rattle.http_wire.specs.declared.chunked.ChunkState.TheVariants as places
use Rattle.http_wire.specs.Decoding.{Decoded}
use Rattle.http_wire.proofs.ChunkPlaces.{chunk_read}
use Rattle.http_wire.proofs.ChunkMoves.{at_place, moved}
use Rattle.http_wire.proofs.chunked.ChunkDecoder.take_chunk.Goals as goal

pub returns-clause-moves : goal.returns-clause-moves
returns-clause-moves c =
    let old = c.args.self.now in
    let rest = drop old.at c.args.bytes.now in
    let size = c.args.size in
    let stand : size ≤ length rest = c.requires.whole.within in
    let d = at_place old c.args.bytes.now (places.Octets size) c.requires.stands c.requires.place in
    let ends = c.requires.whole.ends in
    let behind : drop (size + 2) rest ≡ ends.0 = sym (drop-drop 2 size rest) ∙ ap (drop 2) ends.1 in
    let two : size + 2 ≤ length rest = omega (arith, stand, length-drop size rest, ap length ends.1, length-append crlf_bytes ends.0) in
    let kept : c.extend_from_slice.new.self.items ≡ old.octets.items ++ take size rest = c.in_ok-extend_from_slice.ensures.items ∙ ap (λ t. old.octets.items ++ take size t) (take_rest c.args.bytes.now old.at) in
    let read = chunk_read old.limit size _ old.octets.items rest ends.0 d (omega (arith, c.requires.fits, old.octets.ok)) stand ends.1 in
    let to = c.pass.ensures in
    moved old c.pass.new.self c.args.bytes.now (size + 2) places.Line (old.octets.items ++ take size rest) c.requires.stands
    (record { limit = to.bounds.limit; start = to.bounds.start; here = to.place; at = to.at })
    (ap (λ v. v.items) to.octets ∙ kept) (omega arith) two
    (subst (Decoded old.limit (drop old.start c.args.bytes.now) (old.octets.items ++ take size rest) places.Line) (sym behind) read)
