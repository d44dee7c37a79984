-- What was read up to a fault is a prefix of the input.
use Rattle.std.proofs.Common.{◌≡◌, ◌≤◌, ◌-◌, ◌+◌, ℕ, List, ◌++◌, Option, length, length-append, sym, subst, ap, ◌∙◌, arith}
use Rattle.std.proofs.lemmas.List.{length-take}
use Rattle.std.specs.Io.KnownBytes.{Consumes}
use Rattle.std.proofs.KnownBytes.{Consumes-trans}
use Rattle.counted_io.proofs.Writing.{on_err}
use Rattle.counted_io.specs.Reads.{ReadsFront, ReadsLost, ReadsMore, ReadsTo}
use Rattle.counted_io.proofs.reading.read_to.Goals as goal

sum_fits : (body octets : List ℕ) (limit : ℕ) → length octets ≤ limit - length body → length body ≤ limit → length (body ++ octets) ≤ limit
sum_fits body octets limit more fits = omega (arith, length-append body octets, more, fits)

front_with : (limit : ℕ) (a b c : Option (List ℕ)) (body : List ℕ) (most : ℕ) → Consumes a b body → length body ≤ limit → ReadsLost b c most → most ≤ limit - length body → ReadsFront limit a c
front_with limit a b c body most before fits lost within = record {
  front = body ++ lost.octets;
  consumed = Consumes-trans a b c body lost.octets before lost.consumed;
  fits = sum_fits body lost.octets limit (omega (arith, lost.fits, within)) fits;
}

none_added : (body after octets : List ℕ) → after ≡ body ++ octets → length after ≡ length body → length octets ≡ 0
none_added body after octets added same =
    let sum : length after ≡ length body + length octets = ap length added ∙ length-append body octets in
    omega (arith, sum, same)

ends_body : (limit : ℕ) (a b c : Option (List ℕ)) (body after : List ℕ) (most : ℕ) → Consumes a b body → length body ≤ limit → ReadsMore b c body after most → length after ≡ length body → ReadsTo limit a c after
ends_body limit a b c body after most took fits more same = record {
  consumed = subst (Consumes a c) (sym more.added) (Consumes-trans a b c body more.octets took more.consumed);
  fits = omega (arith, same, fits);
  all = λ less. more.end (none_added body after more.octets more.added same);
}

pub returns-in_err-read_more-clause-front : goal.returns-in_err-read_more-clause-front
returns-in_err-read_more-clause-front g c =
    on_err c.from_residual-in_err-read_more.result
    (front_with _ _ _ _ c.loop-piece.body.items _ c.loop-piece.invariant.consumed
    (omega (arith, c.loop-piece.invariant.fits)) c.in_err-read_more.ensures.lost
    (omega (arith, length-take c.min-count.result c.loop-piece.piece, c.min-count.ensures, c.len.ensures)))

pub returns-then-len-clause-body : goal.returns-then-len-clause-body
returns-then-len-clause-body g c =
    ends_body _ _ _ _ c.loop-piece.body.items c.read_more.new.body.items _ c.loop-piece.invariant.consumed
    (omega (arith, c.loop-piece.invariant.fits)) c.in_ok-read_more.ensures.more
    (omega (arith, c.if-len.true, c.len-len.ensures, c.len-in-loop-piece.ensures))

pub returns-clause-body : goal.returns-clause-body
returns-clause-body g c = record {
  consumed = c.loop-piece.invariant.consumed;
  fits = omega (arith, c.loop-piece.invariant.fits);
  all = λ less. absurd (omega (arith, less, c.loop-piece-test.false, c.len.ensures));
}
