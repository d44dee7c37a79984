-- The one unspent permit of the number decides.
use Rattle.std.proofs.Common.{sym}
use Rattle.std.proofs.lemmas.Bool.{true≢false}
use Rattle.gate_history.specs.Standing.{in_flight, standing}
use Rattle.crawl_audit.proofs.Following.{no_spend, spends_as, spent_as}
use Rattle.crawl_audit.proofs.open_state.OpenState.decides.Goals as goal

pub returns-in-Some : goal.returns-in-Some
returns-in-Some c = λ h t.
    let l = c.args.self.now in
    let fetch = c.in-Some.fetch.now in
    let decided = c.decide.ensures (standing h) (in_flight h) t.cache_tells in (
      λ is. spends_as l h t c.args.number c.args.moment fetch c.decide.result c.args.outcome c.in-Some.ensures decided (c.is_same.ensures.0 is),
      λ spends. c.is_same.ensures.1 (spent_as l h t c.args.number c.args.moment fetch c.decide.result c.args.outcome c.in-Some.ensures decided spends),
    )

pub returns-in-None : goal.returns-in-None
returns-in-None c = λ h t. (
  λ is. absurd (true≢false (sym is)),
  λ spends. absurd (no_spend c.args.self.now h t c.args.number c.args.moment c.args.outcome c.in-None.ensures spends),
)
