-- The gate continues what was recovered.
use Rattle.std.proofs.Common.{refl}
use Rattle.gate_journal.proofs.resuming.resume.Goals as goal

pub returns-clause-ok : goal.returns-clause-ok
returns-clause-ok g c = λ text is. record {
  found = c.in_ok-found.found;
  recovered = c.in_ok-found.ensures.ok text is;
  whole = refl;
  ending = refl;
  begun = c.in_ok-add_closed.ensures;
  book = c.in_ok-book.ensures.base;
}
