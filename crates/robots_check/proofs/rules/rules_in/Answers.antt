-- One more line adds its rule line, if the walk finds one.
use Rattle.std.proofs.Common.{Global, Vec, append-nil, arith, ◌≡◌, ◌<◌, ◌+◌, ◌++◌, ◌∷◌, ◌∙◌, [], ℕ, List, ap, drop, length, map, slice_index_or, subst, sym}
use Rattle.std.specs.Prelude.{None, Option, Some, option_map}
use Rattle.std.specs.List.{All, cons_option}
use Rattle.std.proofs.lemmas.List.{append_assoc, drop_all, drop_more, map-append}
use Rattle.std.proofs.lemmas.List.Elements.{All-push}
use Rattle.robots_text.specs.Grouped.{Grouped, grouped_seen}
use Rattle.robots_text.specs.Groups.{Ruled}
use Rattle.robots_text.specs.Walk.{rule_seen, rules_behind}
use Rattle.robots_text.specs.declared.grouped.GroupedRecord.{GroupedRecord}
use Rattle.robots_text.specs.declared.groups.RuleWalk.{RuleWalk}
use Rattle.robots_check.specs.Forms.{IsFormed, formed_rule}
use Rattle.robots_check.specs.declared.rules.Formed.{Formed}
use Rattle.robots_check.proofs.rules.rules_in.Goals as goal
use Rattle.robots_check.proofs.rules.rules_in.Goals.{in-Some+in_ok-of+in_ok-push, in_default}

seam : (rules : List Ruled) (found : Option Ruled) (later : List Ruled) → (rules ++ cons_option found []) ++ later ≡ rules ++ cons_option found later
seam rules None later = ap (λ l. l ++ later) (append-nil rules)
seam rules (Some ruled) later = append_assoc rules (ruled ∷ []) later

one_more : (walk next : RuleWalk) (said : List GroupedRecord) (i : ℕ) (d : GroupedRecord) (so_far all : List Ruled) (found : Option Ruled) → i < length said →
    so_far ++ rules_behind walk (map grouped_seen (drop i said)) ≡ all →
    ((lines : List Grouped) → rules_behind walk (grouped_seen (slice_index_or said i d) ∷ lines) ≡ cons_option found (rules_behind next lines)) →
    (so_far ++ cons_option found []) ++ rules_behind next (map grouped_seen (drop (i + 1) said)) ≡ all
one_more walk next said i d so_far all found within is step =
    seam so_far found (rules_behind next (map grouped_seen (drop (i + 1) said)))
    ∙ ap (λ l. so_far ++ l) (sym (step (map grouped_seen (drop (i + 1) said))))
    ∙ ap (λ l. so_far ++ rules_behind walk (map grouped_seen l)) (sym (drop_more said i d within))
    ∙ is

pub loop-line-init : goal.loop-line-init
loop-line-init c = (
  ap (λ (l : List Formed). map formed_rule l ++ rules_behind c.new-walk.result (map grouped_seen c.args.said.now)) c.new-rules.ensures.items ∙ c.new-walk.ensures (map grouped_seen c.args.said.now),
  subst (All IsFormed) (sym c.new-rules.ensures.items) (λ i past within. absurd (omega arith)),
)

pub loop-line-preserved : goal.loop-line-preserved
loop-line-preserved c =
    elim c.match-rule_of.branch [
      | in-Some+in_ok-of+in_ok-push w ↦ (
          let items = ap (λ (v : Vec Formed Global). v.items) w.rules-is ∙ (w.in_ok-push.ensures {u = tt}).items in
          let of = w.in_ok-of.ensures {u = tt} in
          let next = c.rule_of.new.self in (
            ap (λ l. map formed_rule l ++ rules_behind next (map grouped_seen (drop (c.loop-line.line-index + 1) c.args.said.now))) items
                ∙ ap (λ l. l ++ rules_behind next (map grouped_seen (drop (c.loop-line.line-index + 1) c.args.said.now)))
                (map-append formed_rule c.loop-line.rules.items (w.in_ok-of.field-0 ∷ []) ∙ ap (λ r. map formed_rule c.loop-line.rules.items ++ r ∷ []) of.rule)
                ∙ one_more c.loop-line.walk next c.args.said.now c.loop-line.line-index _ (map formed_rule c.loop-line.rules.items) _ (Some (rule_seen w.in-Some.rule)) c.loop-line-test.true c.loop-line.invariant.0
                (λ lines. c.rule_of.ensures lines ∙ ap (λ o. cons_option (option_map rule_seen o) (rules_behind next lines)) w.in-Some.is),
            subst (All IsFormed) (sym items) (All-push IsFormed c.loop-line.rules.items w.in_ok-of.field-0 c.loop-line.invariant.1 of.formed),
          )
          )
      | in_default w ↦ (
          let items = ap (λ (v : Vec Formed Global). v.items) w.rules-is in
          let next = c.rule_of.new.self in (
            ap (λ l. map formed_rule l ++ rules_behind next (map grouped_seen (drop (c.loop-line.line-index + 1) c.args.said.now))) items
                ∙ ap (λ l. l ++ rules_behind next (map grouped_seen (drop (c.loop-line.line-index + 1) c.args.said.now))) (sym (append-nil (map formed_rule c.loop-line.rules.items)))
                ∙ one_more c.loop-line.walk next c.args.said.now c.loop-line.line-index _ (map formed_rule c.loop-line.rules.items) _ None c.loop-line-test.true c.loop-line.invariant.0
                (w.in_default.ensures {u = tt}),
            subst (All IsFormed) (sym items) c.loop-line.invariant.1,
          )
          )
    ]

pub returns-clause-rules : goal.returns-clause-rules
returns-clause-rules c =
    sym (append-nil (map formed_rule c.loop-line.rules.items))
    ∙ ap (λ l. map formed_rule c.loop-line.rules.items ++ rules_behind c.loop-line.walk (map grouped_seen l)) (sym (drop_all c.loop-line.line-index c.args.said.now c.loop-line-test.false))
    ∙ c.loop-line.invariant.0
