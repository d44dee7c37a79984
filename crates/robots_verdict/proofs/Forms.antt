-- The forms kept of a text, as kept and as seen.
-- Used by `Rewritten`.
use Rattle.std.proofs.Common.{◌≡◌, ◌⊎◌, ℕ, ◌-◌, ◌<◌, ◌≤◌, All, Contains, List, [], ◌∷◌, ◌++◌, length, map, get_or, inl, inr, refl, sym, ap, ◌∙◌, subst, arith}
use Rattle.std.specs.Prelude.{Err, MatchResult, Ok, Result}
use Rattle.std.specs.List.{AllWithin}
use Rattle.std.specs.List.Sorted.{IsBinarySearchResult, IsNonDecreasing, IsSearchInRange}
use Rattle.std.specs.Ordering.{nat_cmp, ordering_index}
use Rattle.std.specs.declared.cmp.Ordering.TheVariants.{Greater, Less}
use Rattle.std.proofs.lemmas.Bool.{cases_lt}
use Rattle.std.proofs.lemmas.List.{get_or_default, get_or-map, length-map}
use Rattle.std.proofs.lemmas.List.Sorted.{searched}
use Rattle.robots_verdict.specs.declared.rewritten.Form.{Form}
use Rattle.robots_verdict.specs.Rewritten.{form_at, form_seen, FormOfLine, HasOctets, no_form}
use Rattle.robots_verdict.proofs.HeadLemmas.{within_map}
use Rattle.robots_verdict.proofs.Parts as parts
use Rattle.robots_verdict.proofs.Rewriting.{line_of}

abbrev form_start : Form → ℕ
form_start form = form.start

abbrev form_len : Form → ℕ
form_len form = form.len

-- a line whose form is this
abbrev form_with : Form → List ℕ → FormOfLine
form_with form octets = record { line = form.line; form = octets }

pub there_more : (octets more : List ℕ) (forms : List Form) → length octets ≤ length more → All (HasOctets octets) forms → All (HasOctets more) forms
there_more = parts.there_more form_start form_len form_with

pub form_pushed : (octets form new : List ℕ) (forms more : List Form) (kept : Form) → All (HasOctets octets) forms → new ≡ octets ++ form → more ≡ forms ++ kept ∷ [] →
    kept.start ≡ length octets → kept.len ≡ length form → map (form_seen new) more ≡ map (form_seen octets) forms ++ record { line = kept.line; form = form } ∷ []
form_pushed = parts.pushed form_start form_len form_with

pub all_there : (octets form new : List ℕ) (forms more : List Form) (kept : Form) → All (HasOctets octets) forms → new ≡ octets ++ form → more ≡ forms ++ kept ∷ [] →
    kept.start ≡ length octets → kept.len ≡ length form → All (HasOctets new) more
all_there = parts.all_there form_start form_len form_with

-- ---- what a search finds

past : Form
past = record { line = 0; start = 0; len = 0 }

abbrev line_kept : Form → ℕ
line_kept form = form.line

search_of_lines : (forms : List Form) (line : ℕ) (found : Result ℕ ℕ) → IsSearchInRange found (length forms) → IsBinarySearchResult (λ form. nat_cmp (line_kept form) line) forms found →
    IsBinarySearchResult (λ n. nat_cmp n line) (map line_kept forms) found
search_of_lines forms line (Ok place) within found = λ d. ap (λ n. nat_cmp n line) (get_or-map line_kept forms place past d within) ∙ found past
search_of_lines forms line (Err place) within found = λ up.
    let few = length-map forms line_kept in
    let rank : ℕ → ℕ = λ n. ordering_index (nat_cmp n line) in
    let point = found (λ i j d order last. let rise = up i j 0 order (omega (arith, last, few)) in
    omega (arith, rise, ap rank (get_or-map line_kept forms i d 0 (omega (arith, order, last))), ap rank (get_or-map line_kept forms j d 0 last))) in (
      within_map line_kept (λ n. nat_cmp n line ≡ Less) forms 0 place within point.0,
      subst (AllWithin (λ n. nat_cmp n line ≡ Greater) (map line_kept forms) place) (sym few)
          (within_map line_kept (λ n. nat_cmp n line ≡ Greater) forms place (length forms) (omega arith) point.1),
    )

lines_seen : (octets : List ℕ) (forms : List Form) → map line_kept forms ≡ map line_of (map (form_seen octets) forms)
lines_seen octets [] = refl
lines_seen octets (form ∷ forms) = ap (λ lines. form.line ∷ lines) (lines_seen octets forms)

line_at : (seen : List FormOfLine) (k : ℕ) → k < length seen → get_or (map line_of seen) k 0 ≡ (form_at seen k).line
line_at seen k within = get_or-map line_of seen k no_form 0 within

nowhere : (seen : List FormOfLine) (lines : List ℕ) (line i : ℕ) → lines ≡ map line_of seen → ((k : ℕ) → k < i → get_or lines k 0 < line) →
    ((k : ℕ) → i ≤ k → k < length lines → line < get_or lines k 0) → (form : FormOfLine) → Contains seen form → form.line ≡ line → ⊥
nowhere seen lines line i are low high form stands same =
    let k = stands.0 in
    let few = ap length are ∙ length-map seen line_of in
    let is : get_or lines k 0 ≡ line = ap (λ (l : List ℕ). get_or l k 0) are ∙ line_at seen k stands.1 ∙ ap line_of (get_or_default seen k no_form form stands.1 ∙ stands.2) ∙ same in
    elim (cases_lt k i) [
      | inl less ↦ (let under = low k less in omega (arith, under, is))
      | inr more ↦ (let over = high k more (omega (arith, few, stands.1)) in omega (arith, over, is))
    ]

pub found : (octets : List ℕ) (forms : List Form) (seen : List FormOfLine) (line : ℕ) (r : Result ℕ ℕ) → map (form_seen octets) forms ≡ seen → IsNonDecreasing (map line_of seen) →
    IsSearchInRange r (length forms) → IsBinarySearchResult (λ form. nat_cmp (line_kept form) line) forms r →
    MatchResult r (λ i. (i < length seen) × ((form_at seen i).line ≡ line)) (λ i. (form : FormOfLine) → Contains seen form → form.line ≡ line → ⊥)
found octets forms seen line (Ok i) is up within searches =
    let lines = map line_kept forms in
    let are : lines ≡ map line_of seen = lines_seen octets forms ∙ ap (map line_of) is in
    let rise = subst IsNonDecreasing (sym are) up in
    let at = searched lines line (Ok i) (search_of_lines forms line (Ok i) within searches) (λ j k order last. rise j k 0 order last) in
    let fits : i < length seen = omega (arith, at.0, ap length are, length-map seen line_of) in
    (fits, sym (line_at seen i fits) ∙ sym (ap (λ (l : List ℕ). get_or l i 0) are) ∙ at.1)
found octets forms seen line (Err i) is up within searches =
    let lines = map line_kept forms in
    let are : lines ≡ map line_of seen = lines_seen octets forms ∙ ap (map line_of) is in
    let rise = subst IsNonDecreasing (sym are) up in
    let at = searched lines line (Err i) (search_of_lines forms line (Err i) within searches) (λ j k order last. rise j k 0 order last) in
    nowhere seen lines line i are at.1 at.2

pub none_at_gap : (seen : List FormOfLine) (line i : ℕ) → IsNonDecreasing (map line_of seen) → i ≤ length seen → (i ≡ 0) ⊎ ((form_at seen (i - 1)).line < line) → (i ≡ length seen) ⊎ (line < (form_at seen i).line) →
    (form : FormOfLine) → Contains seen form → form.line ≡ line → ⊥
none_at_gap seen line i up within before behind =
    let few = length-map seen line_of in
    nowhere seen (map line_of seen) line i refl
    (λ k less. elim before [
      | inl none ↦ absurd (omega (arith, none, less))
      | inr low ↦ (let rise = up k (i - 1) 0 (omega (arith, less)) (omega (arith, less, within, few)) in let is = line_at seen (i - 1) (omega (arith, less, within)) in omega (arith, rise, is, low))
    ])
    (λ k more last. elim behind [
      | inl end ↦ absurd (omega (arith, end, more, last, few))
      | inr high ↦ (let rise = up i k 0 (omega (arith, more)) last in let is = line_at seen i (omega (arith, more, last, few)) in omega (arith, rise, is, high))
    ])
