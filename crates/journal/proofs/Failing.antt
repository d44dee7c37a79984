-- A sync that failed after octets were written.
-- Used by `commit`.
use Rattle.std.proofs.Common.{◌≡◌, ◌≤◌, ℕ, List, Bool, sym, subst, length, take, arith}
use Rattle.std.specs.Prelude.{Option, Result, Ok, Err, OnErr, is_err}
use Rattle.std.specs.Io.KnownBytes.{Appends}
use Rattle.std.proofs.lemmas.List.{take_all}
use Rattle.journal.specs.Journal.{Fails, Noted, Writes}

pub written_then_fails : {T E : Type 0} (a b : Noted) (written : Option (List ℕ)) (kept failures : ℕ) (failed : Bool) (octets : List ℕ) (r : Result T E)
    → Writes a b octets → written ≡ b.written → b.kept ≤ kept → failed ≡ is_err r → OnErr r (Fails a (record { written = written; kept = kept; failures = failures; failed = failed }) octets)
written_then_fails a b written kept failures failed octets (Ok _) wrote same least is = tt
written_then_fails a b written kept failures failed octets (Err _) wrote same least is = record {
  front = (length octets, subst (λ w. Appends a.written w (take (length octets) octets)) (sym same) (subst (Appends a.written b.written) (sym (take_all (length octets) octets (omega arith))) wrote.wrote));
  least = omega (arith, wrote.least, least);
  failed = is;
}
