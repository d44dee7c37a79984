-- A name among the lines is one among the lines as seen.
use Rattle.std.proofs.Common.{◌≡◌, ◌∙◌, ℕ, List, [], ◌∷◌, ap, map, refl, sym}
use Rattle.std.specs.Prelude.{◌||◌}
use Rattle.std.specs.List.{list_any}
use Rattle.std.proofs.lemmas.Bool.{cond-true, cond-false}
use Rattle.robots_text.specs.Grouped.{grouped_seen}
use Rattle.robots_text.specs.Groups.{names_everybody, names_token}
use Rattle.robots_text.specs.Records.{kind_seen}
use Rattle.robots_text.specs.declared.grouped.GroupedRecord.{GroupedRecord}
use Rattle.robots_check.proofs.groups.whom_among.Goals as goal

named_seen : (word : List ℕ) (lines : List GroupedRecord) → list_any (λ line. names_token word line.kind) (map grouped_seen lines) ≡ list_any (λ line. names_token word (kind_seen line.kind)) lines
named_seen word [] = refl
named_seen word (line ∷ lines) = ap (λ b. names_token word (kind_seen line.kind) || b) (named_seen word lines)

pub returns-then-is_named : goal.returns-then-is_named
returns-then-is_named c kind =
    let named = named_seen c.args.word.now c.args.said.now ∙ sym c.is_named.ensures ∙ c.if-is_named.true in
    sym (cond-true (list_any (λ line. names_token c.args.word.now line.kind) (map grouped_seen c.args.said.now)) (names_token c.args.word.now kind) (names_everybody kind) named)

pub returns-else-is_named : goal.returns-else-is_named
returns-else-is_named c kind =
    let named = named_seen c.args.word.now c.args.said.now ∙ sym c.is_named.ensures ∙ c.if-is_named.false in
    sym (cond-false (list_any (λ line. names_token c.args.word.now line.kind) (map grouped_seen c.args.said.now)) (names_token c.args.word.now kind) (names_everybody kind) named)
