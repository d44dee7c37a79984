-- What was read of a text, and what is left.
-- Used by `read`.
use Rattle.std.proofs.Common.{◌≡◌, ℕ, ◌+◌, ◌*◌, ◌≤◌, List, ◌∷◌, ◌++◌, All, Contains, length, refl, ap, ◌∙◌, append_assoc, length-append, arith}
use Rattle.std.proofs.lemmas.List.Elements.{All-tail}
use Rattle.path_normal.specs.Normal.{is_anchored, normal_pattern}
use Rattle.path_normal.proofs.CallerLemmas.{pattern_small}
use Rattle.robots_text.specs.declared.record.RuleKind.{RuleKind}
use Rattle.robots_text.specs.Grouped.{Grouped, IsWithin, value_octets, values_octets}
use Rattle.robots_text.specs.Records.{Record, agent, rule, other}
use Rattle.robots_text.proofs.CallerLemmas.{behind, first_of}
use Rattle.robots_verdict.specs.Placed.{everybody_at, everybody_in, named_at, named_in, NamedGroup, Placed, placed_at, placed_in}

-- what was read and what is left make up the whole; there is room for its octets
pub record IsReading (all left : List Grouped) (rows : List Placed) (octets : ℕ) (named : List NamedGroup) (everybody : List ℕ) : Type 0 where
  pub rows_are : rows ++ placed_in left ≡ placed_in all
  pub named_are : named ++ named_in left ≡ named_in all
  pub everybody_are : everybody ++ everybody_in left ≡ everybody_in all
  pub small : octets + 3 * values_octets left ≤ 1536000
  pub within : All (IsWithin 512000) left
  pub few : length rows + length left ≤ 512000
  pub stand : (one : Grouped) → Contains left one → Contains all one

pub next_stands : (all left : List Grouped) (first : Grouped) (rows : List Placed) (octets : ℕ) (named : List NamedGroup) (everybody : List ℕ) →
    IsReading all (first ∷ left) rows octets named everybody → Contains all first
next_stands all left first rows octets named everybody reading = reading.stand first (first_of first left)

at_most_one : (group line : ℕ) (kind : Record) → length (placed_at group line kind) ≤ 1
at_most_one group line (agent who) = omega arith
at_most_one group line (rule kind value) = omega arith
at_most_one group line other = omega arith

pub read_one : (all left : List Grouped) (first : Grouped) (rows rows' : List Placed) (octets octets' : ℕ) (named named' : List NamedGroup) (everybody everybody' : List ℕ) →
    IsReading all (first ∷ left) rows octets named everybody → rows' ≡ rows ++ placed_at first.group first.line first.kind → octets' ≤ octets + 3 * value_octets first.kind →
    named' ≡ named ++ named_at first.group first.kind → everybody' ≡ everybody ++ everybody_at first.group first.kind → IsReading all left rows' octets' named' everybody'
read_one all left first rows rows' octets octets' named named' everybody everybody' reading more few names stars = record {
  rows_are = ap (λ (l : List Placed). l ++ placed_in left) more ∙ append_assoc rows (placed_at first.group first.line first.kind) (placed_in left) ∙ reading.rows_are;
  named_are = ap (λ (l : List NamedGroup). l ++ named_in left) names ∙ append_assoc named (named_at first.group first.kind) (named_in left) ∙ reading.named_are;
  everybody_are = ap (λ (l : List ℕ). l ++ everybody_in left) stars ∙ append_assoc everybody (everybody_at first.group first.kind) (everybody_in left) ∙ reading.everybody_are;
  small = let before = reading.small in omega arith;
  within = All-tail (IsWithin 512000) first left reading.within;
  few = let before = reading.few in let one = at_most_one first.group first.line first.kind in
      omega (arith, ap length more, length-append rows (placed_at first.group first.line first.kind));
  stand = λ one later. reading.stand one (behind first one left later);
}

-- a form is at most three times as long as its pattern
pub form_small : (form pattern : List ℕ) (rule_kind : RuleKind) (kind : Record) → form ≡ normal_pattern pattern → kind ≡ rule rule_kind pattern → length form ≤ 3 * value_octets kind
form_small form pattern rule_kind kind is kind_is =
    let small = pattern_small (is_anchored pattern) pattern refl in
    omega (arith, small, ap length is, ap value_octets kind_is)
