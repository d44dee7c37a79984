-- The lines are those that end the base.
use Rattle.std.proofs.Common.{List, Ok, Err, ap, inl, map, subst, ◌∙◌}
use Rattle.authority_cache.specs.declared.turn.Turn.{Turn}
use Rattle.gate_history.specs.declared.entry.Entry.{Entry}
use Rattle.crawl_audit.specs.Records.{entry_of}
use Rattle.crawl_audit.specs.Recovering.{EndsFor}
use Rattle.crawl_audit.proofs.recovering.end_open.Goals as goal

pub returns-in-Ok-end_each : goal.returns-in-Ok-end_each
returns-in-Ok-end_each c =
    let is = c.in-Ok.ensures in (
      c.in-Ok.left,
      (
        record { says = is.says; is_base = is.base; order = is.order },
        (
          subst (λ (es : List Entry). EndsFor c.args.auditor.now es (Ok c.in-Ok-end_each.ending) c.end_each.new.self)
              (ap (map entry_of) c.as_slice.ensures.value ∙ c.in-Ok-ends_of.ensures) c.in-Ok-end_each.ensures,
          c.in-Ok-sites_of.ensures ∙ ap (map (λ (t : Turn). t.authority)) c.in_flight.ensures,
        ),
      ),
    )

pub returns : goal.returns
returns c =
    let is = c.in-Ok.ensures in
    inl (
      c.in-Ok.left,
      (
        record { says = is.says; is_base = is.base; order = is.order },
        subst (λ (es : List Entry). EndsFor c.args.auditor.now es (Err c.in-Err-end_each.fault) c.end_each.new.self)
            (ap (map entry_of) c.as_slice.ensures.value ∙ c.in-Ok-ends_of.ensures) c.in-Err-end_each.ensures,
      ),
    )
