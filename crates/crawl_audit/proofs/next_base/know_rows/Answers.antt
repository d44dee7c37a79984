-- Each row's pieces show it for that row.
use Rattle.std.proofs.Common.{All, subst, sym, take}
use Rattle.std.proofs.lemmas.List.{take_more}
use Rattle.std.proofs.lemmas.List.Elements.{All-push}
use Rattle.crawl_audit.proofs.next_base.know_rows.Goals as goal

pub loop-row-preserved : goal.loop-row-preserved
loop-row-preserved g c =
    subst (λ l. All g.T.TextLine.has_fields l) (sym (take_more c.args.rows.now c.loop-row.row-index c.row-item.result c.loop-row-test.true))
    (All-push g.T.TextLine.has_fields (take c.loop-row.row-index c.args.rows.now) _ c.loop-row.invariant (subst g.T.TextLine.has_fields c.row-item.is c.pieces.ensures.fields))
