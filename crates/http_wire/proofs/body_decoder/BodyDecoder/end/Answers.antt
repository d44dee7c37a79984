-- What the last look finds in the bytes holds of the whole input.
use Rattle.std.proofs.Common.{sym, subst}
use Rattle.http_wire.specs.Reading.{TellsBody}
use Rattle.http_wire.specs.Seeing.{framing_in}
use Rattle.http_wire.proofs.BodyLooks.{given_end, refused_end, same_body}
use Rattle.http_wire.proofs.Faults.{same_fault}
use Rattle.http_wire.proofs.body_decoder.BodyDecoder.end.Goals as goal

pub returns-in-Given-clause-tells : goal.returns-in-Given-clause-tells
returns-in-Given-clause-tells c =
    let same = c.not_alone.ensures in
    same_body _ _ _ _ _ _ same.octets same.cut
    (given_end _ _ _ _ _ c.requires.stands.within c.requires.within (rw c.in-Given.is at c.in_ok-body.ensures.sees))

pub returns-in_err-body-clause-tells : goal.returns-in_err-body-clause-tells
returns-in_err-body-clause-tells c =
    let now = c.args.self.now in
    subst (TellsBody (framing_in now) now.limit now.start c.args.buffer.now) (sym (same_fault _ _ c.from_residual.ensures.1))
    (refused_end _ _ _ _ _ c.requires.stands.within c.in_err-body.ensures.err)
