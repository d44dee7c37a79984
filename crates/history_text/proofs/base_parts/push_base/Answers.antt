-- The parts are the lines of the base.
use Rattle.std.proofs.Common.{All, List, ℕ, refl, subst}
use Rattle.counted_io.specs.Output.{Pushes}
use Rattle.history_text.specs.BaseFields.{IsGrantRow, IsPermitRow, IsTurnRow}
use Rattle.history_text.specs.Parts.{HasPartFields}
use Rattle.history_text.proofs.Exporting.{middle_parts, ok_so, parts_same}
use Rattle.history_text.proofs.base_parts.push_base.Goals as goal

pub returns-clause-pushes : goal.returns-clause-pushes
returns-clause-pushes g c =
    subst (λ (text : List ℕ). Pushes (g.W.Sink.written c.args.sink.now) (g.W.Sink.written c.push_parts.new.sink) (g.W.Sink.failures c.args.sink.now) (g.W.Sink.failures c.push_parts.new.sink) c.args.output.now c.push_parts.new.output text c.push_parts.result)
    (parts_same c.args.base.now c.args.base.now.standing c.in_flight.result.now c.grants.result.now c.unspent.result.now c.running.result.now refl c.in_flight.ensures c.grants.ensures.value c.unspent.ensures c.running.ensures)
    c.push_parts.ensures.pushes

pub returns-clause-fields : goal.returns-clause-fields
returns-clause-fields g c =
    ok_so c.push_parts.result c.push_parts.ensures.fields (λ all.
    let f = middle_parts HasPartFields _ _ _ _ _ _ _ _ all in
    record {
      standing = f.1;
      in_flight = subst (All IsTurnRow) c.in_flight.ensures f.2;
      grants = subst (All IsGrantRow) c.grants.ensures.value f.3;
      unspent = subst (All IsPermitRow) c.unspent.ensures f.4;
      running = subst (All IsPermitRow) c.running.ensures f.5;
      numbers = f.0;
    })
