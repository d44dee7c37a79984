-- Rows as kept, and as seen.
-- Used by `Rows`.
use Rattle.std.proofs.Common.{◌≡◌, ℕ, ◌+◌, ◌<◌, ◌≤◌, All, List, [], ◌∷◌, ◌++◌, length, get_or, ap, ◌∙◌, arith}
use Rattle.std.specs.List.Sorted.{IsSortedBy}
use Rattle.std.proofs.lemmas.List.{get_or-map, length-map}
use Rattle.std.proofs.lemmas.List.Elements.{All-get_or}
use Rattle.robots_verdict.specs.declared.rule_row.RuleRow.{RuleRow}
use Rattle.robots_verdict.specs.Placed.{Placed}
use Rattle.robots_verdict.specs.Rows.{is_row_above, IsThere, row_seen, rows_seen, weight_at, weight_kept}
use Rattle.robots_verdict.specs.Weights.{is_above}
use Rattle.robots_verdict.proofs.Parts as parts

abbrev row_start : RuleRow → ℕ
row_start row = row.start

abbrev row_len : RuleRow → ℕ
row_len row = row.len

-- a row whose pattern is this
abbrev row_with : RuleRow → List ℕ → Placed
row_with row form = record { group = row.group; line = row.line; kind = row.kind; form = form }

pub there_more : (octets more : List ℕ) (rows : List RuleRow) → length octets ≤ length more → All (IsThere octets) rows → All (IsThere more) rows
there_more = parts.there_more row_start row_len row_with

pub row_pushed : (octets form new : List ℕ) (rows more : List RuleRow) (row : RuleRow) → All (IsThere octets) rows → new ≡ octets ++ form → more ≡ rows ++ row ∷ [] →
    row.start ≡ length octets → row.len ≡ length form →
    rows_seen new more ≡ rows_seen octets rows ++ record { group = row.group; line = row.line; kind = row.kind; form = form } ∷ []
row_pushed = parts.pushed row_start row_len row_with

pub all_there : (octets form new : List ℕ) (rows more : List RuleRow) (row : RuleRow) → All (IsThere octets) rows → new ≡ octets ++ form → more ≡ rows ++ row ∷ [] →
    row.start ≡ length octets → row.len ≡ length form → All (IsThere new) more
all_there = parts.all_there row_start row_len row_with

same_weight : (octets : List ℕ) (row : RuleRow) → IsThere octets row → weight_at (row_seen octets row) ≡ weight_kept row
same_weight octets row there =
    let octets_are = parts.part_length octets row.start row.len there in
    λ i. record { octets = octets_are i; kind = row.kind; line = row.line }

pub sorted_seen : (octets : List ℕ) (rows : List RuleRow) → All (IsThere octets) rows → IsSortedBy (λ a b. is_above (weight_kept a) (weight_kept b)) rows →
    IsSortedBy is_row_above (rows_seen octets rows)
sorted_seen octets rows there sorted k d low within =
    let past : RuleRow = record { start = 0; len = 0; line = 0; group = 0; kind = d.kind } in
    let few = length-map rows (row_seen octets) in
    let here : k < length rows = omega (arith, within, few) in
    let next : k + 1 < length rows = omega (arith, within, few) in
    let seen = get_or-map (row_seen octets) rows k past d here in
    let seen' = get_or-map (row_seen octets) rows (k + 1) past d next in
    let weight = ap weight_at seen ∙ same_weight octets (get_or rows k past) (All-get_or (IsThere octets) rows k past here there) in
    let weight' = ap weight_at seen' ∙ same_weight octets (get_or rows (k + 1) past) (All-get_or (IsThere octets) rows (k + 1) past next there) in
    (λ i. is_above (weight' i) (weight i)) ∙ sorted k past low next
