-- A chunk line moves the place past it.
use Rattle.std.proofs.Common.{◌<◌, arith, sym, ap, ◌∙◌}
use Rattle.http_wire.specs.declared.chunked.ChunkState.TheVariants as places
use Rattle.http_wire.proofs.ChunkPlaces.{line_read, line_last}
use Rattle.http_wire.proofs.ChunkMoves.{at_place, moved, line_found}
use Rattle.http_wire.proofs.chunked.ChunkDecoder.look_line.Goals as goal

pub returns-in-Ok-Complete-default-eq0-clause-steps :
    goal.returns-in-Ok-Complete-default-eq0-clause-steps
returns-in-Ok-Complete-default-eq0-clause-steps c =
    let arm = c.in-Ok-Complete-default-eq0 in
    let found = line_found c.args.bytes.now c.args.self.now.at arm.len arm.field-0-0-1 (rw arm.field-0-is at arm.ensures.complete) in
    let d = at_place c.args.self.now c.args.bytes.now places.Line c.requires.stands c.requires.place in
    let to = c.pass.ensures in
    moved c.args.self.now c.pass.new.self c.args.bytes.now arm.len places.Trailers c.args.self.now.octets.items c.requires.stands
    (record { limit = to.bounds.limit; start = to.bounds.start; here = to.place; at = to.at })
    (ap (λ v. v.items) to.octets) found.some found.within
    (line_last _ _ _ _ _ found.line d found.reads (sym found.size_is ∙ arm.field-0-0-1-test))

pub returns-in-Ok-Complete-clause-steps : goal.returns-in-Ok-Complete-clause-steps
returns-in-Ok-Complete-clause-steps c =
    let arm = c.in-Ok-Complete in
    let found = line_found c.args.bytes.now c.args.self.now.at arm.len arm.size (rw arm.field-0-is at arm.ensures.complete) in
    let d = at_place c.args.self.now c.args.bytes.now places.Line c.requires.stands c.requires.place in
    let to = c.pass-in-Ok-Complete.ensures in
    let some : 0 < arm.size = omega (arith, arm.size-test.1) in
    moved c.args.self.now c.pass-in-Ok-Complete.new.self c.args.bytes.now arm.len (places.Octets arm.size) c.args.self.now.octets.items c.requires.stands
    (record { limit = to.bounds.limit; start = to.bounds.start; here = to.place; at = to.at })
    (ap (λ v. v.items) to.octets) found.some found.within
    (line_read _ _ _ _ _ found.line arm.size d found.reads found.size_is some)
