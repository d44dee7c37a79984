-- What is open behind the whole lines is ended.
-- By `RecoveredBases`.
use Rattle.std.proofs.Common.{◌≡◌, ◌↔◌, ℕ, Bool, true, List, Option, Err, IsTrue, arith, inl, inr, map, subst, sym, refl, true≢false, ◌∙◌}
use Rattle.path_normal.specs.declared.schemes.Schemes.{Schemes}
use Rattle.gate_history.specs.Base.{Base}
use Rattle.crawl_audit.specs.declared.auditor.Auditor.{Auditor}
use Rattle.crawl_audit.specs.declared.recover_fault.RecoverFault.{RecoverFault}
use Rattle.crawl_audit.specs.declared.recovering.Recovered.{Recovered}
use Rattle.crawl_audit.specs.declared.whole_lines.WholeLines.{WholeLines}
use Rattle.crawl_audit.specs.Audit.{Holds, StandsAt}
use Rattle.crawl_audit.specs.Ending.{HasBegun}
use Rattle.crawl_audit.specs.Recovering.{EndsLeft, EndsOpen, HeardCut, IsLeft, Recovers}
use Rattle.crawl_audit.specs.Steps.{Place}
use Rattle.crawl_audit.proofs.RecoveredBases.{IsBaseOf, Known, Results, Took, known_after, known_before, refuses, results}
use Rattle.crawl_audit.proofs.recovering.go_on_from.Goals as goal

-- whether the auditor has begun, by its own word
abbrev Says : Auditor → Bool → Type 0
Says a begun = (place : Place) → StandsAt a place → IsTrue begun ↔ HasBegun place

begun_at : (schemes : Schemes) (a : Auditor) (lines : List (List ℕ)) (place : Place) (begun : Bool) → Says a begun → begun ≡ true → Holds schemes a lines place → HasBegun place
begun_at schemes a lines place begun says begins holds = (says place holds.stands).0 begins

is_left : (a : Auditor) (left : Base) → IsLeft a left → IsBaseOf a.open_state left
is_left a left is = record { says = is.says; is_base = is.is_base; order = is.order }

-- the auditor `a` is the one that read
module _ (w : WholeLines) (a : Auditor) (same : a ≡ w.auditor) (begun : Bool) (says : Says a begun) (has : begun ≡ true) where
  here : (schemes : Schemes) (lines : List (List ℕ)) (place : Place) → Holds schemes w.auditor lines place → Holds schemes a lines place
  here schemes lines place holds = subst (λ (b : Auditor). Holds schemes b lines place) (sym same) holds

  begins : (schemes : Schemes) (input : Option (List ℕ)) (cut : HeardCut schemes w input) → HasBegun cut.place
  begins schemes input cut = begun_at schemes a cut.lines cut.place begun says has (here schemes cut.lines cut.place cut.holds)

  known_first : (schemes : Schemes) (input : Option (List ℕ)) → HeardCut schemes w input → Known a.open_state
  known_first schemes input cut = known_before schemes a cut.lines cut.place (begins schemes input cut) (here schemes cut.lines cut.place cut.holds)

  known_then : (schemes : Schemes) (input : Option (List ℕ)) → HeardCut schemes w input → (left : Base) (text : List ℕ) (a' : Auditor) → Took a left text a' → Known a'.open_state
  known_then schemes input cut left text a' took =
      known_after schemes a cut.lines cut.place (begins schemes input cut) left text a' took (here schemes cut.lines cut.place cut.holds)

  recovers : (schemes : Schemes) (input : Option (List ℕ)) (cut : HeardCut schemes w input) (left : Base) → IsLeft a left → (a' : Auditor) (found : Recovered) → Took a left found.ending.items a' → IsBaseOf a'.open_state found.base
      → found.cache ≡ a'.open_state.cache → found.whole ≡ w.octets → found.begun.items ≡ map (λ t. t.authority) left.in_flight → Results schemes input found
  recovers schemes input cut left is a' found took base_of cached octets sites =
      results schemes input w cut (begins schemes input cut) left (subst (λ (b : Auditor). IsBaseOf b.open_state left) same (is_left a left is)) a' found
      (subst (λ (b : Auditor). Took b left found.ending.items a') same took) base_of cached octets sites

  stops : (schemes : Schemes) (input : Option (List ℕ)) (cut : HeardCut schemes w input) (fault : RecoverFault) (a' : Auditor) → EndsOpen a (Err fault) a' → Recovers schemes input (Err fault)
  stops schemes input cut fault a' (inl (left, (is, ends))) =
      refuses schemes input w cut (begins schemes input cut) left (subst (λ (b : Auditor). IsBaseOf b.open_state left) same (is_left a left is)) a' fault
      (subst (λ (b : Auditor). EndsLeft b left (Err fault) a') same ends)
  stops schemes input cut fault a' (inr none) = subst (λ (f : RecoverFault). Recovers schemes input (Err f)) (sym none) (λ text is. tt)

pub end_open-requires : goal.end_open-requires
end_open-requires c =
    known_first c.args.whole c.into_auditor-auditor.result c.into_auditor-auditor.ensures c.has_begun.result c.has_begun.ensures c.if-not-has_begun.false c.requires.0 c.requires.1.0 c.requires.1.1

pub base-requires : goal.base-requires
base-requires c =
    known_then c.args.whole c.into_auditor-auditor.result c.into_auditor-auditor.ensures c.has_begun.result c.has_begun.ensures c.if-not-has_begun.false c.requires.0 c.requires.1.0 c.requires.1.1
    c.in-Ok.ensures.0 c.in-Ok.ending.items c.end_open.new.auditor c.in-Ok.ensures.1.1.0

pub returns-in-Ok-base-clause-recovers : goal.returns-in-Ok-base-clause-recovers
returns-in-Ok-base-clause-recovers c = λ schemes input cut.
    let is = c.in-Ok-base.ensures in
    (recovers c.args.whole c.into_auditor-auditor.result c.into_auditor-auditor.ensures c.has_begun.result c.has_begun.ensures c.if-not-has_begun.false schemes input cut
    c.in-Ok.ensures.0 c.in-Ok.ensures.1.0 c.end_open.new.auditor _ c.in-Ok.ensures.1.1.0 (record { says = is.says; is_base = is.base; order = is.order })
    c.into_cache.ensures refl c.in-Ok.ensures.1.1.1).1

pub returns-in-Ok-base-clause-rest : goal.returns-in-Ok-base-clause-rest
returns-in-Ok-base-clause-rest c =
    let is = c.in-Ok-base.ensures in
    let found : Recovered = record { whole = c.args.whole.octets; ending = c.in-Ok.ending; begun = c.in-Ok.begun; base = c.in-Ok-base.base; cache = c.into_cache.result } in
    (recovers c.args.whole c.into_auditor-auditor.result c.into_auditor-auditor.ensures c.has_begun.result c.has_begun.ensures c.if-not-has_begun.false c.requires.0 c.requires.1.0 c.requires.1.1
    c.in-Ok.ensures.0 c.in-Ok.ensures.1.0 c.end_open.new.auditor found c.in-Ok.ensures.1.1.0 (record { says = is.says; is_base = is.base; order = is.order })
    c.into_cache.ensures refl c.in-Ok.ensures.1.1.1).0

pub returns-in-Err-clause-recovers : goal.returns-in-Err-clause-recovers
returns-in-Err-clause-recovers c = λ schemes input cut.
    stops c.args.whole c.into_auditor-auditor.result c.into_auditor-auditor.ensures c.has_begun.result c.has_begun.ensures c.if-not-has_begun.false schemes input cut c.in-Err.fault c.end_open.new.auditor c.in-Err.ensures

pub returns-then-not-has_begun-clause-recovers : goal.returns-then-not-has_begun-clause-recovers
returns-then-not-has_begun-clause-recovers c = λ schemes input cut text is.
    let a = c.into_auditor-auditor.result in
    let w = c.args.whole in
    let at = subst (λ (b : Auditor). Holds schemes b cut.lines cut.place) (sym c.into_auditor-auditor.ensures) cut.holds in
    let few = at.few in
    let lines = at.lines_are in
    record {
      lines = cut.lines;
      cut = cut.cut text is;
      place = cut.place;
      runs = cut.holds.runs;
      not_begun = λ begun. true≢false (sym ((c.has_begun.ensures cut.place at.stands).1 begun) ∙ c.if-not-has_begun.true);
      line_is = omega (arith, c.saturating_add-line.ensures, few, lines);
    }
