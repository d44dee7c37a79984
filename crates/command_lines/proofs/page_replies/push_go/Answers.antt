-- The words of an open site's reason.
use Rattle.std.proofs.Common.{◌≡◌, ◌++◌, ◌∷◌, ◌∙◌, ℕ, List, sym, ap, subst, append_assoc, codes, decimal}
use Rattle.counted_io.specs.Output.{Pushes}
use Rattle.gate_history.specs.declared.outcome.Reason.{Reason}
use Rattle.gate_history.specs.declared.outcome.Reason.TheVariants.{Open}
use Rattle.command_lines.specs.ReplyText.{go_text}
use Rattle.command_lines.proofs.page_replies.push_go.Goals as goal

open_text : (number pushed : ℕ) (reason : Reason) → pushed ≡ number → reason ≡ Open → go_text number reason ≡ codes "GO " ++ (decimal pushed ++ codes " open\n")
open_text number pushed reason same is =
    ap (go_text number) is
    ∙ ap (λ (l : List ℕ). codes "GO " ++ l) (append_assoc (decimal number) (codes " open") (codes "\n"))
    ∙ ap (λ (n : ℕ). codes "GO " ++ (decimal n ++ codes " open\n")) (sym same)

pub returns-in-Open : goal.returns-in-Open
returns-in-Open g c =
    subst (λ (text : List ℕ). Pushes (g.W.Sink.written c.args.sink.now) (g.W.Sink.written c.push_numbered.new.sink) (g.W.Sink.failures c.args.sink.now) (g.W.Sink.failures c.push_numbered.new.sink) c.args.output.now c.push_numbered.new.output text c.push_numbered.result)
    (sym (open_text c.args.number c.number.result c.args.reason c.number.ensures c.in-Open.is)) c.push_numbered.ensures
