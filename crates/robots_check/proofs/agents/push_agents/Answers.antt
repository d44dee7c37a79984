-- What is pushed is the text of all lines, or of none.
use Rattle.std.proofs.Common.{◌≡◌, ◌++◌, ◌∙◌, ℕ, List, [], ◌∷◌, length, flat_map, map, refl, sym, ap, subst, arith}
use Rattle.std.proofs.lemmas.Bool.Decides.{nat_tests}
use Rattle.std.proofs.lemmas.List.{nil_from_length}
use Rattle.counted_io.specs.Output.{Pushes}
use Rattle.robots_check.specs.declared.agents.AgentLine.{AgentLine}
use Rattle.robots_check.specs.AgentText.{agent_text, agents_text, head_seen}
use Rattle.robots_check.proofs.agents.push_agents.Goals as goal

seen_texts : (agents : List AgentLine) → flat_map (λ line. agent_text (head_seen line)) agents ≡ flat_map agent_text (map head_seen agents)
seen_texts [] = refl
seen_texts (agent ∷ agents) = ap (λ l. agent_text (head_seen agent) ++ l) (seen_texts agents)

some_text : (agents : List AgentLine) → (length agents ≡ 0 → ⊥) → flat_map (λ line. agent_text (head_seen line)) agents ≡ agents_text (map head_seen agents)
some_text [] some = absurd (some refl)
some_text (agent ∷ agents) some = seen_texts (agent ∷ agents)

none_text : (agents : List AgentLine) (text : List ℕ) → length agents ≡ 0 → text ≡ agents_text [] → text ≡ agents_text (map head_seen agents)
none_text agents text none is = is ∙ ap (λ l. agents_text (map head_seen l)) (sym (nil_from_length agents none))

pub returns-then-is_empty : goal.returns-then-is_empty
returns-then-is_empty g c =
    let empty = c.if-is_empty.ensures {u = tt} in
    subst (λ text. Pushes (g.W.Sink.written c.args.sink.now) (g.W.Sink.written c.push.new.sink) (g.W.Sink.failures c.args.sink.now) (g.W.Sink.failures c.push.new.sink) c.args.output.now c.push.new.output text c.push.result)
    (none_text c.args.agents.now _ (grind (arith, nat_tests, empty)) c.whole.ensures) c.push.ensures

pub returns : goal.returns
returns g c =
    let some = c.if-is_empty.ensures {u = tt} in
    subst (λ text. Pushes (g.W.Sink.written c.args.sink.now) (g.W.Sink.written c.push_each.new.sink) (g.W.Sink.failures c.args.sink.now) (g.W.Sink.failures c.push_each.new.sink) c.args.output.now c.push_each.new.output text c.push_each.result)
    (some_text c.args.agents.now (λ none. grind (arith, nat_tests, some, none))) c.push_each.ensures
