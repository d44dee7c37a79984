-- What the last look finds in the bytes holds whatever follows.
use Rattle.std.proofs.Common.{arith, refl}
use Rattle.http_wire.proofs.BodyLooks.{given_past, open_past, full_past, same_body}
use Rattle.http_wire.proofs.body_decoder.BodyDecoder.past.Goals as goal

pub returns-in-Given-clause-tells : goal.returns-in-Given-clause-tells
returns-in-Given-clause-tells c = λ more some.
    let same = c.not_alone.ensures in
    same_body _ _ _ _ _ _ same.octets same.cut
    (given_past _ _ _ _ more _ c.requires.stands.within (omega arith) (rw c.in-Given.is at c.in_ok-body.ensures.sees))

pub returns-in-Full-clause-tells : goal.returns-in-Full-clause-tells
returns-in-Full-clause-tells c = λ more some.
    let seen = rw c.in-Full.is at c.in_ok-body.ensures.sees in
    full_past _ _ _ _ more c.requires.full some seen.1

pub returns-in-More-clause-tells : goal.returns-in-More-clause-tells
returns-in-More-clause-tells c = λ more some.
    let seen = rw c.in-More.is at c.in_ok-body.ensures.sees in
    open_past _ _ _ _ more c.requires.full some (seen refl)
