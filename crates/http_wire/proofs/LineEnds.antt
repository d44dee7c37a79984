-- How many lines end in a head.
-- Used when a head has more header lines than the parser takes.
use Rattle.std.proofs.Common.{◌≡◌, ℕ, ◌+◌, ◌-◌, ◌<◌, ◌≤◌, ◌==◌, List, [], ◌∷◌, ◌++◌, length, take, refl, sym, ap, ◌∙◌, arith, cond}
use Rattle.std.proofs.Math.Seq.{take-append-add}
use Rattle.std.specs.List.{flat_map}
use Rattle.std.proofs.lemmas.List.Sums.{sum_by-append}
use Rattle.httparse.specs.Grammar.{LineEnd, crlf, lf, print_end, Field, print_field, print_section, ResponseHead, print_response, print_blank, print_version, print_reason}
use Rattle.httparse.specs.Spans.{ResponseExceeds}
use Rattle.http_wire.specs.Heads.{line_ends}
use Rattle.http_wire.specs.Limits.{max_header_lines, max_head}

pub line_ends-append : (a b : List ℕ) → line_ends (a ++ b) ≡ line_ends a + line_ends b
line_ends-append a b = sum_by-append (λ (octet : ℕ). cond (octet == 10) 1 0) a b

end_has : (end : LineEnd) → line_ends (print_end end) ≡ 1
end_has crlf = refl
end_has lf = refl

field_has : (field : Field) → 1 ≤ line_ends (print_field field)
field_has field =
    let all : line_ends (print_field field) ≡ line_ends (field.name ++ 58 ∷ field.raw) + line_ends (print_end field.end) =
    line_ends-append (field.name ++ 58 ∷ field.raw) (print_end field.end) in
    omega (arith, all, end_has field.end)

fields_have : (fields : List Field) → length fields ≤ line_ends (flat_map print_field fields)
fields_have [] = omega arith
fields_have (field ∷ fields) =
    omega (arith, field_has field, fields_have fields, line_ends-append (print_field field) (flat_map print_field fields))

section_has : (fields : List Field) (last : LineEnd) → length fields + 1 ≤ line_ends (print_section fields last)
section_has fields last =
    omega (arith, fields_have fields, end_has last, line_ends-append (flat_map print_field fields) (print_end last))

-- a head has its status line, its header lines and an empty one
head_has : (head : ResponseHead) → length head.fields + 2 ≤ line_ends (print_response head)
unfolding print_response
head_has head =
    let before = print_blank head.blank ++ print_version head.minor ++ 32 ∷ head.digits ++ print_reason head.reason in
    let start = before ++ print_end head.line_end in
    let section = print_section head.fields head.last in
    let all : line_ends (print_response head) ≡ line_ends start + line_ends section = line_ends-append start section in
    let line : line_ends start ≡ line_ends before + line_ends (print_end head.line_end) =
    line_ends-append before (print_end head.line_end) in
    omega (arith, all, line, section_has head.fields head.last, end_has head.line_end)

pub exceeds_lines : (text : List ℕ) → ResponseExceeds max_header_lines text → max_header_lines < line_ends text
exceeds_lines text (prefix, rest, split, head, reads, many) =
    omega (
      arith,
      head_has head,
      many,
      ap line_ends reads.1,
      ap line_ends split,
      line_ends-append prefix rest,
      line_ends-append prefix (print_end lf),
      line_ends-append (print_response head) [],
      end_has lf,
    )

pub lines_in_prefix : (text more : List ℕ) → length text ≤ max_head → line_ends text ≤ line_ends (take max_head (text ++ more))
lines_in_prefix text more short =
    let room = max_head - length text in
    let whole : length text + room ≡ max_head = omega (arith, short) in
    let prefix : take max_head (text ++ more) ≡ text ++ take room more =
    ap (λ n. take n (text ++ more)) (sym whole) ∙ take-append-add text more room in
    omega (arith, ap line_ends prefix, line_ends-append text (take room more))
