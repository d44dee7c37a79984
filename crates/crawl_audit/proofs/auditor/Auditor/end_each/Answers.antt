-- Each line follows those before it.
use Rattle.std.proofs.Common.{◌+◌, ◌++◌, Err, ◌∷◌, [], All, List, ap, map, subst, sym, take, drop, length, ◌∙◌}
use Rattle.std.proofs.lemmas.List.{take_all}
use Rattle.std.proofs.lemmas.List.Elements.{All-head}
use Rattle.gate_history.specs.declared.entry.Entry.{Entry}
use Rattle.gate_history.specs.History.{followed_by}
use Rattle.crawl_audit.specs.declared.record.Record.{Record}
use Rattle.crawl_audit.specs.Ending.{EndsAll, IsEnding, TakesEnds, lines_of}
use Rattle.crawl_audit.specs.Records.{entry_of}
use Rattle.history_text.specs.Spell.{entry_line}
use Rattle.history_text.specs.SpellBase.{ended}
use Rattle.crawl_audit.proofs.CountedLines.{all_behind}
use Rattle.crawl_audit.proofs.EndingLines.{front_more, parts, refuses_one, takes_more}
use Rattle.crawl_audit.proofs.auditor.Auditor.end_each.Goals as goal

pub returns-in-Err : goal.returns-in-Err
returns-in-Err c = λ schemes lines version rising h count holds ends.
    let es = c.args.ends.now in
    let i = c.loop-end.end-index in
    let d = c.end-item.result in
    let ds = map entry_of (take i es) in
    let later = map entry_of (drop (i + 1) es) in
    let e = entry_of d in
    let so_far = c.loop-end.invariant.taken schemes lines version rising h count holds ends in
    let whole = parts es i d c.loop-end-test.true ∙ ap (λ x. ds ++ x ∷ later) (sym (ap entry_of c.end-item.is)) in
    let is = All-head IsEnding e later (all_behind IsEnding ds (e ∷ later) (subst (All IsEnding) whole ends)) in
    let now = so_far.holds in
    subst (λ (xs : List Entry). EndsAll schemes lines version rising h count xs (Err c.in-Err.fault) c.end_one.new.self) (sym whole)
    (refuses_one schemes lines version rising h count ds e later c.in-Err.fault c.end_one.new.self
    (c.in-Err.ensures.ends schemes (lines ++ lines_of version ds) version rising (followed_by h ds) (count + length ds) now is))

pub loop-end-preserved : goal.loop-end-preserved
loop-end-preserved c = record {
  idle = c.in-Ok.ensures.idle;
  taken = λ schemes lines version rising h count holds ends.
      let es = c.args.ends.now in
      let i = c.loop-end.end-index in
      let d = c.end-item.result in
      let within = c.loop-end-test.true in
      let ds = map entry_of (take i es) in
      let later = map entry_of (drop (i + 1) es) in
      let e = entry_of d in
      let same = ap entry_of c.end-item.is in
      let so_far = c.loop-end.invariant.taken schemes lines version rising h count holds ends in
      let whole = parts es i d within ∙ ap (λ x. ds ++ x ∷ later) (sym same) in
      let is = All-head IsEnding e later (all_behind IsEnding ds (e ∷ later) (subst (All IsEnding) whole ends)) in
      let now = so_far.holds in
      let stands = now.stands in
      let entries = stands.1 in
      subst (λ (xs : List Entry). TakesEnds schemes lines version rising h count xs c.end_one.new.text.items c.end_one.new.self) (ap (λ x. ds ++ x ∷ []) same ∙ sym (front_more es i d within))
      (takes_more schemes lines version rising h count ds e c.loop-end.text.items c.end_one.new.text.items c.loop-end.self c.end_one.new.self so_far
      (c.in-Ok.ensures.ends schemes (lines ++ lines_of version ds) version rising (followed_by h ds) (count + length ds) now is)
      (c.in-Ok.ensures.text ∙ ap (λ v. c.loop-end.text.items ++ ended (entry_line v e)) entries.version_is));
}

pub returns : goal.returns
returns c = λ schemes lines version rising h count holds ends.
    let es = c.args.ends.now in
    subst (λ (rs : List Record). TakesEnds schemes lines version rising h count (map entry_of rs) c.loop-end.text.items c.loop-end.self) (take_all c.loop-end.end-index es c.loop-end-test.false)
    (c.loop-end.invariant.taken schemes lines version rising h count holds ends)
