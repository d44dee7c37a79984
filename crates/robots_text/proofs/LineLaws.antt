-- A text is written as lines and their ends in exactly one way.
-- Used by `one_way_to_write_lines`.
use Rattle.std.proofs.Common.{◌≡◌, ◌≢◌, ◌⊎◌, ℕ, false, List, [], ◌∷◌, ◌++◌, length, append-nil, sym, refl, ap, ◌∙◌, subst, arith, inl, inr}
use Rattle.std.specs.Prelude.{◌==◌, if◌then◌else◌}
use Rattle.std.specs.List.{list_any, onto_first}
use Rattle.robots_text.specs.Cut.{behind_end}
use Rattle.robots_text.specs.Lines.{AreLines, EndsLine, begins_with_lf, is_line_end, lines_from}
use Rattle.robots_text.proofs.Cutting.{tells, is_number, plain_parts, second, behind_cr, end_octet, plain_octet}
use Rattle.robots_text.specs.Octets.{carriage_return, line_feed}

longer : (c : ℕ) (line end rest : List ℕ) → EndsLine line end rest → EndsLine (c ∷ line) end rest
longer c line end rest (inl e) = inl e
longer c line end rest (inr (inl e)) = inr (inl e)
longer c line end rest (inr (inr (inl e))) = inr (inr (inl e))
longer c line end rest (inr (inr (inr e))) = inr (inr (inr (e.0, e.1, λ n. absurd (omega (arith, ap length n)))))

with_plain : (c : ℕ) (text : List ℕ) (lines : List (List ℕ)) → is_line_end c ≡ false → AreLines text lines → AreLines (c ∷ text) (onto_first c lines)
with_plain c text [] plain none = record {
  end = [];
  rest = [];
  text_is = ap (λ t. c ∷ t) none;
  plain = rw plain refl;
  ends = inr (inr (inr (refl, refl, λ n. absurd (omega (arith, ap length n)))));
  goes_on = refl;
}
with_plain c text (line ∷ lines) plain more = record {
  end = more.end;
  rest = more.rest;
  text_is = ap (λ t. c ∷ t) more.text_is;
  plain = rw plain more.plain;
  ends = longer c line more.end more.rest more.ends;
  goes_on = more.goes_on;
}

with_cr : (text : List ℕ) (lines : List (List ℕ)) → AreLines (behind_end (carriage_return ∷ text)) lines → AreLines (carriage_return ∷ text) ([] ∷ lines)
with_cr [] lines more = record {
  end = carriage_return ∷ [];
  rest = [];
  text_is = refl;
  plain = refl;
  ends = inr (inl (refl, refl));
  goes_on = more;
}
with_cr (d ∷ text) lines more = elim (tells (d == line_feed)) [
  | inl e ↦ subst (λ x. AreLines (behind_end (carriage_return ∷ x ∷ text)) lines → AreLines (carriage_return ∷ x ∷ text) ([] ∷ lines)) (sym (is_number d line_feed e)) (λ later. record {
    end = carriage_return ∷ line_feed ∷ [];
    rest = text;
    text_is = refl;
    plain = refl;
    ends = inl refl;
    goes_on = later;
  }) more
  | inr e ↦ record {
    end = carriage_return ∷ [];
    rest = d ∷ text;
    text_is = refl;
    plain = refl;
    ends = inr (inl (refl, e));
    goes_on = subst (λ b. AreLines (if b then text else d ∷ text) lines) e more;
  }
]

with_lf : (text : List ℕ) (lines : List (List ℕ)) → AreLines text lines → AreLines (line_feed ∷ text) ([] ∷ lines)
with_lf text lines more = record {
  end = line_feed ∷ [];
  rest = text;
  text_is = refl;
  plain = refl;
  ends = inr (inr (inl refl));
  goes_on = more;
}

one_more : (c : ℕ) (text : List ℕ) → AreLines text (lines_from false text) → AreLines (behind_end (carriage_return ∷ text)) (lines_from false (behind_end (carriage_return ∷ text))) → AreLines (c ∷ text) (lines_from false (c ∷ text))
one_more c text as_text behind = elim (tells (is_line_end c)) [
  | inl e ↦ elim (tells (c == carriage_return)) [
    | inl cr ↦ subst (λ d. AreLines (d ∷ text) (lines_from false (d ∷ text))) (sym (is_number c carriage_return cr))
        (subst (AreLines (carriage_return ∷ text)) (sym (end_octet carriage_return text refl)) (with_cr text _ behind))
    | inr other ↦ subst (λ d. AreLines (d ∷ text) (lines_from false (d ∷ text))) (sym (is_number c line_feed (second (c == carriage_return) (c == line_feed) e other)))
        (with_lf text _ as_text)
  ]
  | inr e ↦ subst (AreLines (c ∷ text)) (sym (plain_octet c text e)) (with_plain c text _ e as_text)
]

both : (text : List ℕ) → AreLines text (lines_from false text) × AreLines (behind_end (carriage_return ∷ text)) (lines_from false (behind_end (carriage_return ∷ text)))
both [] = (refl, refl)
both (c ∷ text) =
    let later = both text in
    let first = one_more c text later.0 later.1 in (
      first,
      elim (tells (c == line_feed)) [
        | inl e ↦ subst (λ d. AreLines (behind_end (carriage_return ∷ d ∷ text)) (lines_from false (behind_end (carriage_return ∷ d ∷ text)))) (sym (is_number c line_feed e)) later.0
        | inr e ↦ subst (λ b. AreLines (if b then text else c ∷ text) (lines_from false (if b then text else c ∷ text))) (sym e) first
      ],
    )

pub are_lines : (text : List ℕ) → AreLines text (lines_from false text)
are_lines text = (both text).0

no_lf : (rest : List ℕ) → begins_with_lf rest ≡ false → behind_end (carriage_return ∷ rest) ≡ rest
no_lf [] e = refl
no_lf (d ∷ rest) e = rw e refl

-- a line end that is not the end of the text
abbrev Ended : (end rest : List ℕ) → Type 0
Ended end rest = (end ≡ carriage_return ∷ line_feed ∷ []) ⊎ ((end ≡ carriage_return ∷ []) × (begins_with_lf rest ≡ false)) ⊎ (end ≡ line_feed ∷ [])

at_end : (end rest : List ℕ) → Ended end rest → lines_from false (end ++ rest) ≡ [] ∷ lines_from false rest
at_end end rest (inl e) = subst (λ x. lines_from false (x ++ rest) ≡ [] ∷ lines_from false rest) (sym e) refl
at_end end rest (inr (inl e)) =
    subst (λ x. lines_from false (x ++ rest) ≡ [] ∷ lines_from false rest) (sym e.0)
    (ap (λ l. [] ∷ l) (behind_cr rest ∙ ap (lines_from false) (no_lf rest e.1)))
at_end end rest (inr (inr e)) = subst (λ x. lines_from false (x ++ rest) ≡ [] ∷ lines_from false rest) (sym e) refl

at_line : (line end rest : List ℕ) → list_any is_line_end line ≡ false → Ended end rest → lines_from false (line ++ (end ++ rest)) ≡ line ∷ lines_from false rest
at_line [] end rest plain ended = at_end end rest ended
at_line (c ∷ line) end rest plain ended =
    let parts = plain_parts (is_line_end c) (list_any is_line_end line) plain in
    plain_octet c (line ++ (end ++ rest)) parts.0 ∙ ap (onto_first c) (at_line line end rest parts.1 ended)

alone : (c : ℕ) (line : List ℕ) → list_any is_line_end (c ∷ line) ≡ false → lines_from false (c ∷ line) ≡ (c ∷ line) ∷ []
alone c [] plain = plain_octet c [] (plain_parts (is_line_end c) false plain).0
alone c (d ∷ line) plain =
    let parts = plain_parts (is_line_end c) (list_any is_line_end (d ∷ line)) plain in
    plain_octet c (d ∷ line) parts.0 ∙ ap (onto_first c) (alone d line parts.1)

last_line : (line : List ℕ) → list_any is_line_end line ≡ false → (line ≢ []) → lines_from false line ≡ line ∷ []
last_line [] plain some = absurd (some refl)
last_line (c ∷ line) plain some = alone c line plain

by_end : (line end rest : List ℕ) → list_any is_line_end line ≡ false → EndsLine line end rest → lines_from false (line ++ (end ++ rest)) ≡ line ∷ lines_from false rest
by_end line end rest plain (inl e) = at_line line end rest plain (inl e)
by_end line end rest plain (inr (inl e)) = at_line line end rest plain (inr (inl e))
by_end line end rest plain (inr (inr (inl e))) = at_line line end rest plain (inr (inr e))
by_end line end rest plain (inr (inr (inr e))) =
    subst (λ x. lines_from false (line ++ (x ++ rest)) ≡ line ∷ lines_from false rest) (sym e.0)
    (subst (λ x. lines_from false (line ++ x) ≡ line ∷ lines_from false x) (sym e.1)
    (ap (lines_from false) (append-nil line) ∙ last_line line plain e.2))

pub only_lines : (text : List ℕ) (lines : List (List ℕ)) → AreLines text lines → lines ≡ lines_from false text
only_lines text [] written = subst (λ t. [] ≡ lines_from false t) (sym written) refl
only_lines text (line ∷ lines) written =
    ap (λ ls. line ∷ ls) (only_lines written.rest lines written.goes_on)
    ∙ sym (by_end line written.end written.rest written.plain written.ends)
    ∙ ap (lines_from false) (sym written.text_is)
