-- If nothing was handed out, the receipts of a settled gate are a whole history.
-- Used by `settle`.
use Rattle.std.proofs.Common.{◌≡◌, ℕ, List, Result, Ok, Err, sym, ap, ◌∙◌, subst, arith}
use Rattle.std.specs.Prelude.{IfOk}
use Rattle.gate_history.specs.Base.{Base, empty_base}
use Rattle.gate_history.specs.History.{followed_by, from, started_count}
use Rattle.gate_history.specs.Legal.{IsLegal}
use Rattle.gate_history.proofs.Following.{followed_count}
use Rattle.gate_core.specs.Gate.{Gate, HasLegalHistory}
use Rattle.gate_marks.specs.Fitting.{MarksFit}
use Rattle.gate_marks.specs.Marks.{Receipt}
use Rattle.gate_lock.specs.Resting.{NothingOut, Totals}
use Rattle.gate_settlement.specs.Settling.{IsSettled, IsWholeUnlessSealed, Settles}
use Rattle.gate_settlement.specs.declared.settlement.SettleFault.{SettleFault}

whole : (g : Gate) (rs : List Receipt) (s : Totals) → (g.base.entries ≡ 0 → g.base ≡ empty_base) → HasLegalHistory g → IsSettled g rs s → IsWholeUnlessSealed rs s
whole g rs s start legal is none =
    let nothing : g.base.entries ≡ 0 = sym is.are.handed ∙ none in
    let base = start nothing in
    let all = followed_count (from g.base) g.entries in
    let events = is.totals_are.events_are in
    record {
      entries = g.entries;
      legal = subst (λ (b : Base). IsLegal (followed_by (from b) g.entries)) base legal;
      nothing_out = subst (λ (b : Base). NothingOut (followed_by (from b) g.entries)) base is.totals_are.nothing_out;
      fit = subst (λ (n : ℕ). MarksFit n g.entries rs) nothing is.are.fit;
      events_are = omega (arith, events, all, nothing);
      starts_are = is.totals_are.starts_are ∙ ap (λ (b : Base). started_count (followed_by (from b) g.entries)) base;
    }

pub whole_if_settled : (g : Gate) (rs : List Receipt) (result : Result Totals SettleFault) → (g.base.entries ≡ 0 → g.base ≡ empty_base) → HasLegalHistory g →
    Settles g rs result → IfOk result (IsWholeUnlessSealed rs)
whole_if_settled g rs (Ok s) start legal is = whole g rs s start legal is
whole_if_settled g rs (Err fault) start legal is = tt
