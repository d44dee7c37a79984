-- A line of a base is that of at most one thing, and no other line of a base.
-- Used where the base of a text is read.
use Rattle.std.proofs.Common.{◌≡◌, ◌≢◌, ℕ, List, [], ◌∷◌, ◌++◌, get_or, map, sym, ap, ◌∙◌, refl, arith, codes}
use Rattle.std.specs.Prelude.{unwrap_or}
use Rattle.gate_history.specs.Base.{Base}
use Rattle.history_text.specs.BaseFields.{HasNumbers}
use Rattle.crawl_audit.specs.OpenRows.{OpenRow, Answered, InFlight, Greatest, Unspent, Running, IsOpenRow, row_line, rows_of}
use Rattle.history_text.specs.SpellBase.{answer_line, grant_line, numbers_line, open_lines, running_line, turn_line, unspent_line}
use Rattle.crawl_audit.proofs.NamedRows.{row_named}
use Rattle.crawl_audit.proofs.RowReading.{line_of_fields, row_back, row_letter}
use Rattle.crawl_audit.proofs.RowSpelling.{same_numbers}

pub one_row : (r s : OpenRow) → IsOpenRow r → IsOpenRow s → row_line r ≡ row_line s → r ≡ s
one_row r s is is' same = ap (λ o. unwrap_or o r) (sym (row_back r is) ∙ ap row_named same ∙ row_back s is')

pub one_numbers : (a b : Base) → HasNumbers a → HasNumbers b → numbers_line a ≡ numbers_line b → (a.entries ≡ b.entries) × (a.started ≡ b.started) × (a.begins ≡ b.begins) × (a.moment ≡ b.moment)
one_numbers a b is is' same =
    let numbers = same_numbers a b is is' same in
    (numbers.entries, numbers.started, numbers.begins, numbers.moment)

-- ---- the line of a thing is no other line of a base

not_of_row : (line : List ℕ) (r : OpenRow) → row_letter r ≢ get_or line 0 0 → row_line r ≢ line
not_of_row line r apart same = apart (ap (λ l. get_or l 0 0) (sym (line_of_fields r) ∙ same))

pub row_is_not_end : (r : OpenRow) → row_line r ≢ codes "E"
row_is_not_end r = not_of_row (codes "E") r (by r)
  where
    by : (r : OpenRow) → row_letter r ≢ 69
    by (Answered s) e = omega arith
    by (InFlight t) e = omega arith
    by (Greatest g) e = omega arith
    by (Unspent p) e = omega arith
    by (Running p) e = omega arith

-- ---- what a base left open, as lines

rows_then : {X : Type 0} (row : X → OpenRow) (line : X → List ℕ) → ((x : X) → line x ≡ row_line (row x)) → (xs : List X) (rows : List OpenRow) (lines : List (List ℕ)) →
    lines ≡ map row_line rows → map line xs ++ lines ≡ map row_line (map row xs ++ rows)
rows_then row line is [] rows lines same = same
rows_then row line is (x ∷ xs) rows lines same =
    let rest = rows_then row line is xs rows lines same in
    λ i. is x i ∷ rest i

rows_alone : {X : Type 0} (row : X → OpenRow) (line : X → List ℕ) → ((x : X) → line x ≡ row_line (row x)) → (xs : List X) → map line xs ≡ map row_line (map row xs)
rows_alone row line is [] = refl
rows_alone row line is (x ∷ xs) =
    let rest = rows_alone row line is xs in
    λ i. is x i ∷ rest i

pub open_rows : (b : Base) → open_lines b ≡ map row_line (rows_of b)
open_rows b =
    rows_then Answered answer_line (λ s. refl) b.standing _ _
    (rows_then InFlight turn_line (λ t. refl) b.in_flight _ _
    (rows_then Greatest grant_line (λ g. refl) b.grants _ _
    (rows_then Unspent unspent_line (λ p. refl) b.unspent _ _
    (rows_alone Running running_line (λ p. refl) b.running))))
