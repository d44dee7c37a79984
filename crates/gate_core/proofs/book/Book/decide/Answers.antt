-- The book's cache has the answers of its history.
-- The contract of `decide` says what that decides.
use Rattle.std.proofs.Common.{subst}
use Rattle.path_normal.specs.PageText.{authority_of}
use Rattle.gate_history.specs.Cause.{Judges}
use Rattle.gate_history.specs.Standing.{in_flight, standing, standing_of}
use Rattle.gate_core.specs.Gate.{Gate, history}
use Rattle.gate_core.proofs.Keeping.{told}
use Rattle.gate_core.proofs.book.Book.decide.Goals as goal

pub returns : goal.returns
returns c =
    let h = told c.self.inside in
    subst (λ (g : Gate). Judges (standing_of (history g) (authority_of c.args.url.now)) c.args.token.now c.args.url.now c.args.moment c.decide.result) c.self.view_is
    (c.decide.ensures (standing h) (in_flight h) c.self.invariant.cache)
