-- Which line may follow the first lines of a base: the end, or that of a row that may come there.
-- Used by `FirstLines`.
use Rattle.std.proofs.Common.{◌≡◌, ℕ, All, List, [], ◌∷◌, ◌++◌, ◌⊎◌, inl, inr, flat_map, map, refl, sym, ap, subst, ◌∙◌, append_assoc, codes}
use Rattle.std.proofs.lemmas.List.Elements.{All-append, All-cons, All-head, All-nil, All-tail}
use Rattle.gate_history.specs.Base.{Base, has_its_life}
use Rattle.std.specs.List.{list_all}
use Rattle.std.proofs.lemmas.Bool.{and_parts}
use Rattle.authority_cache.specs.declared.standing_answer.StandingAnswer.{StandingAnswer}
use Rattle.gate_history.specs.declared.base.SlotGrant.{SlotGrant}
use Rattle.std.specs.Prelude.{true}
use Rattle.history_text.specs.BaseFields.{IsAnswerRow, IsGrantRow, IsPermitRow, IsTurnRow}
use Rattle.gate_history.specs.Grants.{IsSlotGrant}
use Rattle.history_text.specs.Texts.{IsTextBase}
use Rattle.crawl_audit.specs.OpenRows.{OpenRow, Answered, InFlight, Greatest, Unspent, Running, IsOpenRow, MayStand, row_line, rows_of}
use Rattle.crawl_audit.specs.Reading.{head_word, tail_words}
use Rattle.history_text.specs.SpellBase.{base_lines, numbers_line}
use Rattle.crawl_audit.proofs.OneRow.{one_numbers, one_row, open_rows, row_is_not_end}
use Rattle.crawl_audit.proofs.RowFronts.{text_base_cut}
use Rattle.crawl_audit.proofs.RowKinds.{FromKind, answers_at, based_back, based_on, based_push, grants_at, kinds_front, rows_by_kinds, running_at, stands_behind, turns_at, unspent_at}

-- ---- the rows of a base that a text can have

answers_open : (ss : List StandingAnswer) → All IsAnswerRow ss → list_all has_its_life ss ≡ true → All IsOpenRow (map Answered ss)
answers_open [] all lives = All-nil IsOpenRow
answers_open (s ∷ ss) all lives =
    let parts = and_parts (has_its_life s) (list_all has_its_life ss) lives in
    All-cons IsOpenRow (Answered s) (map Answered ss) (All-head IsAnswerRow s ss all, parts.0) (answers_open ss (All-tail IsAnswerRow s ss all) parts.1)

grants_open : (gs : List SlotGrant) → All IsGrantRow gs → All IsSlotGrant gs → All IsOpenRow (map Greatest gs)
grants_open [] all slots = All-nil IsOpenRow
grants_open (g ∷ gs) all slots =
    All-cons IsOpenRow (Greatest g) (map Greatest gs) (All-head IsGrantRow g gs all, All-head IsSlotGrant g gs slots) (grants_open gs (All-tail IsGrantRow g gs all) (All-tail IsSlotGrant g gs slots))

each_open : {X : Type 0} (P : X → Type 0) (f : X → OpenRow) → ((x : X) → P x → IsOpenRow (f x)) → (xs : List X) → All P xs → All IsOpenRow (map f xs)
each_open P f own [] all = All-nil IsOpenRow
each_open P f own (x ∷ xs) all = All-cons IsOpenRow (f x) (map f xs) (own x (All-head P x xs all)) (each_open P f own xs (All-tail P x xs all))

pub all_open : (b : Base) → IsTextBase b → All IsOpenRow (rows_of b)
all_open b is =
    let f = is.fields in
    let base = is.base in
    let turns = base.turns in
    All-append IsOpenRow (map Answered b.standing) _ (answers_open b.standing f.standing turns.lives)
    (All-append IsOpenRow (map InFlight b.in_flight) _ (each_open IsTurnRow InFlight (λ t row. row) b.in_flight f.in_flight)
    (All-append IsOpenRow (map Greatest b.grants) _ (grants_open b.grants f.grants is.slots)
    (All-append IsOpenRow (map Unspent b.unspent) _ (each_open IsPermitRow Unspent (λ p row. row) b.unspent f.unspent)
    (each_open IsPermitRow Running (λ p row. row) b.running f.running))))

pub lines_by_rows : (b : Base) → base_lines b ≡ codes "V 3" ∷ numbers_line b ∷ (map row_line (rows_of b) ++ codes "E" ∷ [])
lines_by_rows b = ap (λ l. codes "V 3" ∷ numbers_line b ∷ (l ++ codes "E" ∷ [])) (open_rows b)

-- ---- rows before a line

-- these are the first rows, and the line and the rest are theirs
record Begins (xs ys : List OpenRow) (line : List ℕ) (rest : List (List ℕ)) : Type 0 where
  later : List OpenRow
  rows_are : xs ≡ ys ++ later
  lines_are : map row_line later ++ codes "E" ∷ [] ≡ line ∷ rest

rows_begin : (xs ys : List OpenRow) (line : List ℕ) (rest : List (List ℕ)) → All IsOpenRow xs → All IsOpenRow ys →
    map row_line xs ++ codes "E" ∷ [] ≡ map row_line ys ++ line ∷ rest → Begins xs ys line rest
rows_begin xs [] line rest all all' same = record { later = xs; rows_are = refl; lines_are = same }
rows_begin [] (y ∷ ys) line rest all all' same = absurd (row_is_not_end y (sym (ap head_word same)))
rows_begin (x ∷ xs) (y ∷ ys) line rest all all' same =
    let first = one_row x y (All-head IsOpenRow x xs all) (All-head IsOpenRow y ys all') (ap head_word same) in
    let others = rows_begin xs ys line rest (All-tail IsOpenRow x xs all) (All-tail IsOpenRow y ys all') (ap tail_words same) in
    let rows = others.rows_are in
    record { later = others.later; rows_are = λ i. first i ∷ rows i; lines_are = others.lines_are }

all_behind : (xs ys : List OpenRow) → All IsOpenRow (xs ++ ys) → All IsOpenRow ys
all_behind [] ys all = all
all_behind (x ∷ xs) ys all = all_behind xs ys (All-tail IsOpenRow x (xs ++ ys) all)

-- ---- what may come

-- the line is that of a row that may follow those of the base
pub record IsRowBehind (b : Base) (line : List ℕ) : Type 0 where
  pub row : OpenRow
  pub open_row : IsOpenRow row
  pub line_is : line ≡ row_line row
  pub stands : MayStand b row

pub base_front : (b c : Base) (line : List ℕ) (rest : List (List ℕ)) → IsTextBase b → IsTextBase c →
    base_lines c ≡ (codes "V 3" ∷ numbers_line b ∷ map row_line (rows_of b)) ++ line ∷ rest → (line ≡ codes "E") ⊎ IsRowBehind b line
base_front b c line rest is is' same = by begins.later refl
  where
    shown : codes "V 3" ∷ numbers_line c ∷ (map row_line (rows_of c) ++ codes "E" ∷ []) ≡ codes "V 3" ∷ numbers_line b ∷ (map row_line (rows_of b) ++ line ∷ rest)
    shown = sym (lines_by_rows c) ∙ same

    begins : Begins (rows_of c) (rows_of b) line rest
    begins = rows_begin (rows_of c) (rows_of b) line rest (all_open c is') (all_open b is) (ap (λ l. tail_words (tail_words l)) shown)

    numbers : (c.entries ≡ b.entries) × (c.started ≡ b.started) × (c.begins ≡ b.begins) × (c.moment ≡ b.moment)
    numbers = let f = is.fields in let f' = is'.fields in one_numbers c b f'.numbers f.numbers (ap (λ l. head_word (tail_words l)) shown)

    rows_as : (row : OpenRow) (later : List OpenRow) → begins.later ≡ row ∷ later → rows_of c ≡ rows_of b ++ row ∷ later
    rows_as row later first = begins.rows_are ∙ ap (λ l. rows_of b ++ l) first

    stands : (row : OpenRow) (later : List OpenRow) → begins.later ≡ row ∷ later → MayStand b row
    stands row later first =
        let front = rows_of b ++ row ∷ [] in
        let rows : rows_of c ≡ front ++ later = rows_as row later first ∙ sym (append_assoc (rows_of b) (row ∷ []) later) in
        let kinds = subst (FromKind 0) rows (rows_by_kinds c) in
        let whole : based_on c (front ++ later) ≡ c = ap (based_on c) (sym rows) ∙ based_back c in
        let counted : based_on c front ≡ based_on b front = λ i. record {
          standing = flat_map answers_at front;
          in_flight = flat_map turns_at front;
          unspent = flat_map unspent_at front;
          running = flat_map running_at front;
          grants = flat_map grants_at front;
          begins = numbers.2 i;
          moment = numbers.3 i;
          entries = numbers.0 i;
          started = numbers.1 i;
        } in
        record {
          behind = stands_behind b row (kinds_front 0 front later kinds);
          base = subst IsTextBase (counted ∙ based_push b row) (text_base_cut c front later kinds (subst IsTextBase (sym whole) is'));
        }

    by : (later : List OpenRow) → begins.later ≡ later → (line ≡ codes "E") ⊎ IsRowBehind b line
    by [] none = inl (sym (ap head_word (ap (λ l. map row_line l ++ codes "E" ∷ []) (sym none) ∙ begins.lines_are)))
    by (row ∷ later) first =
        inr (record {
          row = row;
          open_row = All-head IsOpenRow row later (all_behind (rows_of b) (row ∷ later) (subst (All IsOpenRow) (rows_as row later first) (all_open c is')));
          line_is = sym (ap head_word (ap (λ l. map row_line l ++ codes "E" ∷ []) (sym first) ∙ begins.lines_are));
          stands = stands row later first;
        })
