-- The line of the first hop, then the others.
use Rattle.std.proofs.Common.{◌≡◌, ◌≤◌, ◌+◌, ◌-◌, ℕ, List, [], ◌∷◌, ◌++◌, ap, ◌∙◌, arith, drop, get_or, length, subst, sym, take}
use Rattle.std.proofs.lemmas.List.{take_all}
use Rattle.counted_io.specs.Device.{AppendsPrefix}
use Rattle.counted_io.specs.Output.{Pushes}
use Rattle.counted_io.specs.declared.fault.DeviceFault.{DeviceFault}
use Rattle.counted_io.proofs.CallerLemmas.{prefix_piece}
use Rattle.line_text.proofs.CallerLemmas.{pushes_cut, pushes_then}
use Rattle.command_lines.specs.HopText.{hop_text, hops_text, lead_text}
use Rattle.crawl_job.specs.declared.hop.Hop.{Hop}
use Rattle.line_text.specs.Pieces.{piece_text}
use Rattle.command_lines.proofs.hop_lines.+push_hops.Goals as goal

next_hops : (lead : List ℕ) (number : ℕ) (hops : List Hop) (hop : Hop) → 1 ≤ length hops → hop ≡ get_or hops 0 hop →
    hops_text lead number hops ≡ (lead_text lead number ++ hop_text hop) ++ hops_text lead (number + 1) (take (length hops - 1) (drop 1 hops))
next_hops lead number [] hop some is = absurd (omega (arith, some))
next_hops lead number (first ∷ later) hop some is =
    ap (λ (h : Hop). (lead_text lead number ++ hop_text h) ++ hops_text lead (number + 1) later) (sym is)
    ∙ ap (λ (l : List Hop). (lead_text lead number ++ hop_text hop) ++ hops_text lead (number + 1) l) (sym (take_all (length (first ∷ later) - 1) later (omega arith)))

pub returns-in_err-push_hop : goal.returns-in_err-push_hop
returns-in_err-push_hop g t c =
    pushes_cut _ _ _ _ _ _ _ c.from_residual.result c.from_residual.ensures.0
    (subst (λ (l : List ℕ). AppendsPrefix (g.W.Sink.written c.args.sink.now) (g.W.Sink.written c.push_hop.new.sink) (c.args.output.now ++ l))
    (sym (next_hops (piece_text c.args.lead) c.args.first c.args.hops.now c.hop-item.result c.in-len1-up.len_at_least c.hop-item.is))
    (prefix_piece _ _ c.args.output.now (lead_text (piece_text c.args.lead) c.args.first ++ hop_text c.hop-item.result) (hops_text (piece_text c.args.lead) (c.args.first + 1) (take (length c.args.hops.now - 1) (drop 1 c.args.hops.now))) c.in_err-push_hop.ensures.err))
    c.in_err-push_hop.ensures.count

pub returns : goal.returns
returns g t c =
    subst (λ (l : List ℕ). Pushes {T = Unit {0}} {E = DeviceFault} (g.W.Sink.written c.args.sink.now) (g.W.Sink.written c.push_hops.new.sink) (g.W.Sink.failures c.args.sink.now) (g.W.Sink.failures c.push_hops.new.sink) c.args.output.now c.push_hops.new.output l c.push_hops.result)
    (sym (next_hops (piece_text c.args.lead) c.args.first c.args.hops.now c.hop-item.result c.in-len1-up.len_at_least c.hop-item.is))
    (pushes_then _ _ _ _ _ _ _ _ _ _ _ c.push_hops.result c.in_ok-push_hop.ensures.ok c.in_ok-push_hop.ensures.count c.push_hops.ensures)
