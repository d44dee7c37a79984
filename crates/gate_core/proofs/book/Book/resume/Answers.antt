-- The base has nothing outstanding, and the table has its earlier grants.
-- By `resumed_kept`.
use Rattle.std.proofs.Common.{◌≡◌, ◌≤◌, true, List, ap, subst, sym, ◌∙◌, arith}
use Rattle.std.specs.List.{list_all}
use Rattle.authority_cache.proofs.CallerLemmas.{limit_tells}
use Rattle.gate_history.specs.declared.base.SlotGrant.{SlotGrant}
use Rattle.gate_history.specs.Base.{Base, IsBase}
use Rattle.gate_core.specs.Kept.{is_grant_of}
use Rattle.gate_core.specs.Limits.{greatest_number}
use Rattle.gate_core.specs.Resuming.{IsBehind}
use Rattle.gate_core.proofs.ResumedBook.{resumed_kept}
use Rattle.gate_core.proofs.book.Book.resume.Goals as goal

pub invariant_of-result : goal.invariant_of-result
invariant_of-result c =
    let limits = c.args.config.limits in
    let base = c.args.base in
    let is_base : IsBase base = subst IsBase c.base.view_is c.base.invariant.0 in
    let sealed : base.entries ≤ greatest_number = subst (λ (b : Base). b.entries ≤ greatest_number) c.base.view_is (omega (arith, c.base.ranges)) in
    let fits : list_all (is_grant_of limits) base.grants ≡ true =
    ap (λ (gs : List SlotGrant). list_all (is_grant_of limits) gs) (sym c.grants.ensures.value) ∙ (sym c.fit_limits.ensures ∙ c.if-not-fit_limits.false) in
    let behind : IsBehind limits base.grants c.in_ok-permits.permits =
    subst (λ (gs : List SlotGrant). IsBehind limits gs c.in_ok-permits.permits) c.grants-2.ensures.value c.in_ok-permits.ensures in
    rw (c.moment.ensures, c.begins.ensures, c.started.ensures)
    (resumed_kept limits base c.new.result c.limited.result c.in_ok-permits.permits c.new-2.result c.new-3.result c.requires.limits is_base
    c.requires.base.turns c.requires.base.permits c.requires.base.runs sealed c.new.ensures.items
    (limit_tells c.args.cache c.limited.result base.standing base.in_flight c.requires.base.answers c.limited.ensures.sites) c.limited.ensures.limit fits behind c.new-3.ensures)
