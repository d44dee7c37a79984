-- The lines of a first text's base in turn: which may come, and what is read with it.
-- Used by `first_base` that take a line.
use Rattle.std.proofs.Common.{◌≡◌, ◌≢◌, ℕ, ◌+◌, ◌<◌, ◌≤◌, false, List, [], ◌∷◌, ◌++◌, ◌⊎◌, inl, inr, map, refl, sym, ap, subst, ◌∙◌, true≢false, append_assoc, arith, codes, Err, Ok}
use Rattle.std.specs.Prelude.{None, Some}
use Rattle.std.proofs.lemmas.List.Elements.{All-nil}
use Rattle.gate_history.specs.declared.base.Numbers.{Numbers as Counts}
use Rattle.gate_history.specs.Base.{Base}
use Rattle.gate_history.specs.Grants.{IsSlotGrant}
use Rattle.crawl_audit.specs.declared.first_base.FirstBase.{FirstBase}
use Rattle.crawl_audit.specs.declared.first_base.LastLine.TheVariants as lasts
use Rattle.crawl_audit.specs.declared.open_state.OpenState.{OpenState}
use Rattle.crawl_audit.specs.declared.unread_line.UnreadLine.{UnreadLine}
use Rattle.crawl_audit.specs.declared.unread_line.UnreadLine.TheVariants.{NotOne, NoMemory}
use Rattle.history_text.specs.BaseFields.{HasNumbers, IsAnswerRow, IsGrantRow, IsPermitRow, IsTurnRow}
use Rattle.history_text.specs.Texts.{IsTextBase}
use Rattle.crawl_audit.specs.FirstBase.{HasRead, ReadsHead, ReadsRows, SaysBase, TakesBaseLine, is_used}
use Rattle.crawl_audit.specs.Loading.{counted_from}
use Rattle.crawl_audit.specs.Numbered.{numbered}
use Rattle.crawl_audit.specs.OpenRows.{OpenRow, Answered, InFlight, Greatest, Unspent, Running, IsOpenRow, MayStand, row_line, rows_of, with_row}
use Rattle.crawl_audit.specs.Reading.{head_word, tail_words}
use Rattle.history_text.specs.SpellBase.{numbers_line}
use Rattle.crawl_audit.specs.Steps.{Place, Steps, inside}
use Rattle.crawl_audit.proofs.BaseFront.{IsRowBehind, base_front, lines_by_rows}
use Rattle.crawl_audit.proofs.Growing.{map_push}
use Rattle.crawl_audit.proofs.OneRow.{one_row}
use Rattle.crawl_audit.proofs.RowSpelling.{same_numbers}

-- ---- rows

same_line : (b : Base) (row : OpenRow) → numbers_line (with_row b row) ≡ numbers_line b
same_line b (Answered s) = refl
same_line b (InFlight t) = refl
same_line b (Greatest g) = refl
same_line b (Unspent p) = refl
same_line b (Running p) = refl

module _ (first : FirstBase) (open_state : OpenState) (lines : List (List ℕ)) (line : List ℕ) (reads : ReadsRows first open_state lines) where
  abbrev base : Base
  base = reads.base

  abbrev front : List (List ℕ)
  front = codes "V 3" ∷ numbers_line base ∷ map row_line (rows_of base)

  rows_step : (next : Place) → Steps (inside None lines) line next → (line ≡ codes "E") ⊎ IsRowBehind base line
  rows_step next (inl takes) =
      base_front base takes.base line (takes.following ∷ takes.later) reads.says.is_base takes.is_base
      (takes.lines_are ∙ append_assoc lines (line ∷ []) (takes.following ∷ takes.later) ∙ ap (λ l. l ++ line ∷ takes.following ∷ takes.later) reads.lines_are)
  rows_step next (inr ends) =
      base_front base ends.base line [] reads.says.is_base ends.is_base (ends.lines_are ∙ ap (λ l. l ++ line ∷ []) reads.lines_are)

  none_comes : line ≢ codes "E" → (IsRowBehind base line → ⊥) → (next : Place) → Steps (inside None lines) line next → ⊥
  none_comes no_end no_row next steps = elim (rows_step next steps) [ inl end ↦ no_end end | inr row ↦ no_row row ]

  pub row_unread : (first' : FirstBase) (open_state' : OpenState) (unread : UnreadLine) → line ≢ codes "E" → (unread ≡ NotOne → (r : OpenRow) → IsOpenRow r → line ≢ row_line r) → TakesBaseLine lines line (Err unread) first' open_state'
  row_unread first' open_state' NotOne no_end none = none_comes no_end (λ row. none refl row.row row.open_row row.line_is)
  row_unread first' open_state' NoMemory no_end none = tt

  pub row_refused : (row : OpenRow) → line ≢ codes "E" → IsOpenRow row → line ≡ row_line row → (MayStand base row → ⊥) → (next : Place) → Steps (inside None lines) line next → ⊥
  row_refused row no_end fields is refused =
      none_comes no_end (λ behind. refused (subst (MayStand base) (one_row behind.row row behind.open_row fields (sym behind.line_is ∙ is)) behind.stands))

  pub row_taken : (first' : FirstBase) (open_state' : OpenState) (row : OpenRow) → line ≡ row_line row → MayStand base row → SaysBase first' open_state' (with_row base row) → TakesBaseLine lines line (Ok false) first' open_state'
  row_taken first' open_state' row is may says =
      let numbers = sym (same_line base row) in
      let rows = sym (map_push row_line (rows_of base) row) ∙ ap (map row_line) (sym may.behind) in
      let more : lines ++ line ∷ [] ≡ codes "V 3" ∷ numbers_line (with_row base row) ∷ map row_line (rows_of (with_row base row)) =
      (λ i. reads.lines_are i ++ is i ∷ []) ∙ (λ i. codes "V 3" ∷ numbers i ∷ rows i) in (
        inr (record { base = with_row base row; says = says; lines_are = more }),
        record {
          base = with_row base row;
          is_base = may.base;
          following = codes "E";
          later = [];
          lines_are = lines_by_rows (with_row base row) ∙ ap (λ l. l ++ codes "E" ∷ []) (sym more);
          next_is = refl;
        },
      )

  pub end_taken : line ≡ codes "E" → HasRead (lines ++ line ∷ []) open_state
  end_taken is =
      let all = reads.says in
      record {
        base = base;
        is_base = all.is_base;
        lines_are = lines_by_rows base ∙ (λ i. sym reads.lines_are i ++ sym is i ∷ []);
        tells = all.tells;
        rising = all.rising;
      }

-- ---- numbers

-- the line is that of the numbers of a base
record IsNumbersLine (line : List ℕ) : Type 0 where
  base : Base
  is_base : IsTextBase base
  line_is : line ≡ numbers_line base

head_step : (lines : List (List ℕ)) (line : List ℕ) (next : Place) → lines ≡ codes "V 3" ∷ [] → Steps (inside None lines) line next → IsNumbersLine line
head_step lines line next are (inl takes) = record {
  base = takes.base;
  is_base = takes.is_base;
  line_is = sym (ap (λ l. head_word (tail_words l)) (takes.lines_are ∙ ap (λ l. (l ++ line ∷ []) ++ takes.following ∷ takes.later) are));
}
head_step lines line next are (inr ends) = record {
  base = ends.base;
  is_base = ends.is_base;
  line_is = sym (ap (λ l. head_word (tail_words l)) (ends.lines_are ∙ ap (λ l. l ++ line ∷ []) are));
}

module _ (first : FirstBase) (open_state : OpenState) (lines : List (List ℕ)) (line : List ℕ) (reads : ReadsHead first open_state lines) where
  pub numbers_refused : (counts : Counts) → line ≡ numbers_line (numbered counts) → HasNumbers (numbered counts) → ((0 < counts.entries) × (counts.begins + counts.started ≤ counts.entries) → ⊥) →
      (next : Place) → Steps (inside None lines) line next → ⊥
  numbers_refused counts is fields refused next steps =
      let n = head_step lines line next reads.lines_are steps in
      let same = same_numbers n.base (numbered counts) n.is_base.fields.numbers fields (sym n.line_is ∙ is) in
      let some = n.is_base.some in
      let few = n.is_base.base.counts in
      let e = same.entries in
      let s = same.started in
      let g = same.begins in
      refused (omega arith, omega arith)

  numbers_base : (counts : Counts) → HasNumbers (numbered counts) → 0 < counts.entries → counts.begins + counts.started ≤ counts.entries → IsTextBase (numbered counts)
  numbers_base counts fields some few = record {
    fields = record {
      standing = All-nil IsAnswerRow;
      in_flight = All-nil IsTurnRow;
      grants = All-nil IsGrantRow;
      unspent = All-nil IsPermitRow;
      running = All-nil IsPermitRow;
      numbers = fields;
    };
    slots = All-nil IsSlotGrant;
    base = record {
      permits = record { numbers_once = λ n. omega arith; numbers_granted = λ n out. absurd (omega arith); slots_once = λ n. omega arith };
      turns = record {
        flights_once = λ a. omega arith;
        answers_once = λ a. omega arith;
        turns_once = λ n. omega arith;
        turns_begun = λ n out. absurd (omega arith);
        flights_begun = refl;
        answers_begun = refl;
        lives = refl;
      };
      counts = few;
    };
    order = record {
      answers = λ k d from within. absurd (omega arith);
      turns = λ k d from within. absurd (omega arith);
      permits = λ k d from within. absurd (omega arith);
      runs = λ k d from within. absurd (omega arith);
      grants = λ k d from within. absurd (omega arith);
    };
    some = some;
  }

  pub numbers_taken : (first' : FirstBase) (counts : Counts) → line ≡ numbers_line (numbered counts) → HasNumbers (numbered counts) → 0 < counts.entries → counts.begins + counts.started ≤ counts.entries →
      first'.last ≡ Some lasts.Numbers → ((turn : ℕ) → is_used first' turn ≡ is_used first turn) → TakesBaseLine lines line (Ok false) first' (counted_from open_state counts)
  numbers_taken first' counts is fields some few last used =
      let b = numbered counts in
      let base = numbers_base counts fields some few in
      let t = reads.tells.tells in
      let n = t.numbers_tell in
      let more : lines ++ line ∷ [] ≡ codes "V 3" ∷ numbers_line b ∷ [] = λ i. reads.lines_are i ++ is i ∷ [] in (
        inr (record {
          base = b;
          says = record {
            is_base = base;
            rows = All-nil IsOpenRow;
            tells = record {
              tells = record {
                clock_is = refl;
                begins_are = refl;
                cache_tells = t.cache_tells;
                numbers_tell = record {
                  unspent_are = n.unspent_are;
                  running_are = n.running_are;
                  grants_are = n.grants_are;
                  granted_are = λ any. absurd (true≢false any);
                  out_noted = λ any. absurd (true≢false any);
                  out_covered = n.out_covered;
                  slots_fit = n.slots_fit;
                };
              };
              entries_are = refl;
              started_are = refl;
              few = omega arith;
            };
            rising = refl;
            last_is = last;
            turns_are = λ turn. used turn ∙ reads.unused turn;
          };
          lines_are = more;
        }),
        record {
          base = b;
          is_base = base;
          following = codes "E";
          later = [];
          lines_are = ap (λ l. l ++ codes "E" ∷ []) (sym more);
          next_is = refl;
        },
      )
