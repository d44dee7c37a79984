-- The tables make the base.
use Rattle.std.proofs.Common.{codes, ◌∷◌, [], refl}
use Rattle.std.proofs.lemmas.Result.{IfOk-weaker}
use Rattle.gate_history.specs.History.{History}
use Rattle.gate_history.specs.Legal.{IsLegal}
use Rattle.crawl_audit.specs.NextBase.{Expects, IsNextOf}
use Rattle.crawl_audit.specs.Tables.{TellsAll}
use Rattle.crawl_audit.proofs.NextSaying.{next_expects}
use Rattle.crawl_audit.proofs.open_state.OpenState.next_base.Goals as goal

pub returns : goal.returns
returns c =
    IfOk-weaker c.of.result (IsNextOf c.in_ok-left_open.field-0 _) (λ next. (h : History) → IsLegal h → TellsAll c.args.self.now h → Expects next h (codes "V 3" ∷ []))
    (λ next is. next_expects c.args.self.now c.in_ok-left_open.field-0 _ c.in_ok-left_open.ensures refl refl refl refl next is) c.of.ensures
