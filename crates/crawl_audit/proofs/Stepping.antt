-- Each line leads to one place at most, and the lines of a chain are read line by line.
-- Used by `laws`.
use Rattle.std.proofs.Common.{◌≡◌, ◌≢◌, ℕ, ◌+◌, ◌≤◌, ◌==◌, ◌⊎◌, All, Bool, true, false, cond, List, [], ◌∷◌, ◌++◌, get_or, length, flat_map, map, inl, inr, refl, sym, ap, subst, ◌∙◌, arith, append-nil, append_assoc, true≢false, codes}
use Rattle.std.specs.Prelude.{Option, Some, None}
use Rattle.std.proofs.lemmas.Bool.Decides.{nat_tests}
use Rattle.std.proofs.lemmas.List.Elements.{All-head, All-tail}
use Rattle.gate_history.specs.declared.entry.Entry.{Entry}
use Rattle.gate_history.specs.declared.entry.Entry.TheVariants.{Begun, Arrived, Granted, AskDenied, Started, StartDenied, Returned, Finished, Swept}
use Rattle.gate_history.specs.Base.{Base, empty_base}
use Rattle.gate_history.specs.History.{History, ◌▸◌, entry_count, followed_by, from}
use Rattle.gate_history.specs.Legal.{AllRise, IsLegal}
use Rattle.gate_history.proofs.CallerLemmas.{followed_count}
use Rattle.gate_core.specs.Limits.{greatest_number, most_entries}
use Rattle.history_text.specs.declared.version.Version.{Version}
use Rattle.history_text.specs.declared.version.Version.TheVariants.{One, Two}
use Rattle.history_text.specs.Texts.{FollowsBase, head_lines, IsText, IsTextBase, Text, text_history, text_lines, version_lines}
use Rattle.crawl_audit.specs.Chains.{AllGoOn, chain_lines, GoesOn, IsChain}
use Rattle.history_text.specs.Entries.{IsEntry}
use Rattle.crawl_audit.specs.Laws.{FrontsAreRead, OneStep}
use Rattle.history_text.specs.Spell.{entry_line}
use Rattle.history_text.specs.SpellBase.{base_lines, numbers_line, open_lines}
use Rattle.crawl_audit.specs.Steps.{EndsBase, IsBaseFor, IsHead, MayEnd, Place, among, inside, Runs, start, Steps, TakesEntry, TakesLine}
use Rattle.history_text.proofs.Exporting.{legal_before}
use Rattle.crawl_audit.proofs.RowSpelling.{IsSpelledBase, one_base}
use Rattle.crawl_audit.proofs.Spelling.{one_entry}

-- ---- one step

not_led_v : (version : Version) (e : Entry) → get_or (entry_line version e) 0 0 ≢ 86
not_led_v version (Begun _ _ _) is = omega arith
not_led_v version (Arrived _ _ _ _ _) is = omega arith
not_led_v version (Granted _ _ _) is = omega arith
not_led_v version (AskDenied _ _ _) is = omega arith
not_led_v version (Started _ _ _) is = omega arith
not_led_v version (StartDenied _ _ _) is = omega arith
not_led_v version (Returned _) is = omega arith
not_led_v version (Finished _) is = omega arith
not_led_v version (Swept _ _) is = omega arith

two_three : codes "V 2" ≡ codes "V 3" → ⊥
two_three e = omega (arith, ap (λ l. get_or l 2 0) e)

spelled_base : (b : Base) → IsTextBase b → IsSpelledBase b
spelled_base b is = let base = is.base in let turns = base.turns in record { fields = is.fields; lives = turns.lives }

text_base : (after : Option History) (b : Base) → IsBaseFor after b → IsTextBase b
text_base None b is = is
text_base (Some h) b is = is.0

entry_no_head : (version : Version) (rising : Bool) (h : History) (count : ℕ) (head line : List ℕ) (there p q : Place) → get_or head 0 0 ≡ 86 → IsHead head line there p → TakesEntry version rising h count line q → ⊥
entry_no_head version rising h count head line there p q led is takes = not_led_v version takes.entry (ap (λ l. get_or l 0 0) (sym takes.line_is ∙ is.line_is) ∙ led)

one_taken : (version : Version) (rising : Bool) (h : History) (count : ℕ) (line : List ℕ) (p q : Place) → TakesEntry version rising h count line p → TakesEntry version rising h count line q → p ≡ q
one_taken version rising h count line p q a b =
    let e = one_entry version a.entry b.entry a.spelled b.spelled (sym a.line_is ∙ b.line_is) in
    a.next_is ∙ ap (λ d. among version rising (h ▸ d) (count + 1)) e ∙ sym b.next_is

one_head : (head line : List ℕ) (there p q : Place) → IsHead head line there p → IsHead head line there q → p ≡ q
one_head head line there p q a b = a.next_is ∙ sym b.next_is

more_than_nothing : (l : List ℕ) (later : List (List ℕ)) → l ∷ later ≡ [] → ⊥
more_than_nothing l later e = omega (arith, ap length e)

not_both : (after : Option History) (lines : List (List ℕ)) (line : List ℕ) (p q : Place) → TakesLine after lines line p → EndsBase after lines line q → ⊥
not_both after lines line p q a b =
    let both = one_base a.base b.base [] (a.following ∷ a.later) (spelled_base a.base (text_base after a.base a.is_base)) (spelled_base b.base (text_base after b.base b.is_base))
    (append-nil (base_lines a.base) ∙ a.lines_are ∙ ap (λ ls. ls ++ a.following ∷ a.later) (sym b.lines_are)) in
    more_than_nothing a.following a.later (sym both.1)

one_ending : (after : Option History) (lines : List (List ℕ)) (line : List ℕ) (p q : Place) → EndsBase after lines line p → EndsBase after lines line q → p ≡ q
one_ending after lines line p q a b =
    let both = one_base a.base b.base [] [] (spelled_base a.base (text_base after a.base a.is_base)) (spelled_base b.base (text_base after b.base b.is_base))
    (append-nil (base_lines a.base) ∙ a.lines_are ∙ sym b.lines_are ∙ sym (append-nil (base_lines b.base))) in
    a.next_is ∙ ap (λ base. among Two true (from base) 0) both.0 ∙ sym b.next_is

pub one_step : OneStep
one_step start line p q (inl a) (inl b) = one_head _ line _ p q a b
one_step start line p q (inl a) (inr (inl b)) = absurd (two_three (sym a.line_is ∙ b.line_is))
one_step start line p q (inl a) (inr (inr b)) = absurd (entry_no_head _ _ _ _ (codes "V 2") line _ p q refl a b)
one_step start line p q (inr (inl a)) (inl b) = absurd (two_three (sym b.line_is ∙ a.line_is))
one_step start line p q (inr (inl a)) (inr (inl b)) = one_head _ line _ p q a b
one_step start line p q (inr (inl a)) (inr (inr b)) = absurd (entry_no_head _ _ _ _ (codes "V 3") line _ p q refl a b)
one_step start line p q (inr (inr a)) (inl b) = absurd (entry_no_head _ _ _ _ (codes "V 2") line _ q p refl b a)
one_step start line p q (inr (inr a)) (inr (inl b)) = absurd (entry_no_head _ _ _ _ (codes "V 3") line _ q p refl b a)
one_step start line p q (inr (inr a)) (inr (inr b)) = one_taken _ _ _ _ line p q a b
one_step (among version rising h count) line p q (inl a) (inl b) = one_head _ line _ p q a b
one_step (among version rising h count) line p q (inl a) (inr b) = absurd (entry_no_head version rising h count (codes "V 3") line _ p q refl a b)
one_step (among version rising h count) line p q (inr a) (inl b) = absurd (entry_no_head version rising h count (codes "V 3") line _ q p refl b a)
one_step (among version rising h count) line p q (inr a) (inr b) = one_taken version rising h count line p q a b
one_step (inside after lines) line p q (inl a) (inl b) = a.next_is ∙ sym b.next_is
one_step (inside after lines) line p q (inl a) (inr b) = absurd (not_both after lines line p q a b)
one_step (inside after lines) line p q (inr a) (inl b) = absurd (not_both after lines line q p b a)
one_step (inside after lines) line p q (inr a) (inr b) = one_ending after lines line p q a b

-- ---- many steps

pub runs_then : (p q r : Place) (xs ys : List (List ℕ)) → Runs p xs q → Runs q ys r → Runs p (xs ++ ys) r
runs_then p q r [] ys one two = subst (λ (x : Place). Runs x ys r) one two
runs_then p q r (x ∷ xs) ys one two = (one.0, (one.1.0, runs_then one.0 q r xs ys one.1.1 two))

pub run_front : (p r : Place) (xs ys : List (List ℕ)) → Runs p (xs ++ ys) r → (q : Place) × (Runs p xs q × Runs q ys r)
run_front p r [] ys runs = (p, (refl, runs))
run_front p r (x ∷ xs) ys runs = let rest = run_front runs.0 r xs ys runs.1.1 in (rest.0, ((runs.0, (runs.1.0, rest.1.0)), rest.1.1))

pub one_run : (p q r : Place) (xs : List (List ℕ)) → Runs p xs q → Runs p xs r → q ≡ r
one_run p q r [] a b = a ∙ sym b
one_run p q r (x ∷ xs) a b =
    let first = one_step p x a.0 b.0 a.1.0 b.1.0 in
    one_run b.0 q r xs (subst (λ (z : Place). Runs z xs q) first a.1.1) b.1.1

-- ---- the lines of a chain

run_entries : (v : Version) (r : Bool) (h : History) (n : ℕ) (es : List Entry) → All (IsEntry v) es → IsLegal (followed_by h es) → (r ≡ true → AllRise h es) → n + length es ≤ most_entries →
    entry_count (followed_by h es) ≤ greatest_number → Runs (among v r h n) (map (entry_line v) es) (among v r (followed_by h es) (n + length es))
run_entries v r h n [] spelled legal rises room counted = let e : n + 0 ≡ n = omega arith in ap (among v r h) e
run_entries v r h n (e ∷ es) spelled legal rises room counted =
    let more = followed_count (h ▸ e) es in
    let rest = run_entries v r (h ▸ e) (n + 1) es (All-tail (IsEntry v) e es spelled) legal (λ is. (rises is).1) (omega arith) counted in
    let same : n + 1 + length es ≡ n + length (e ∷ es) = omega arith in (
      among v r (h ▸ e) (n + 1),
      (
        inr (record {
          entry = e;
          spelled = All-head (IsEntry v) e es spelled;
          may = record { fit = (legal_before (h ▸ e) es legal).1; rises = λ is. (rises is).0 };
          room = omega arith;
          counted = omega arith;
          line_is = refl;
          next_is = refl;
        }),
        subst (λ m. Runs (among v r (h ▸ e) (n + 1)) (map (entry_line v) es) (among v r (followed_by (h ▸ e) es) m)) same rest,
      ),
    )

run_inside : (after : Option History) (b : Base) → IsBaseFor after b → (ls : List (List ℕ)) (x : List ℕ) (xs : List (List ℕ)) → base_lines b ≡ ls ++ x ∷ xs → Runs (inside after ls) (x ∷ xs) (among Two true (from b) 0)
run_inside after b is ls x [] lines = (among Two true (from b) 0, (inr (record { base = b; is_base = is; lines_are = lines; next_is = refl }), refl))
run_inside after b is ls x (y ∷ ys) lines =
    let further = lines ∙ sym (append_assoc ls (x ∷ []) (y ∷ ys)) in (
      inside after (ls ++ x ∷ []),
      (inl (record { base = b; is_base = is; following = y; later = ys; lines_are = further; next_is = refl }), run_inside after b is (ls ++ x ∷ []) y ys further),
    )

run_rest : (after : Option History) (b : Base) → IsBaseFor after b → (later : List (List ℕ)) → codes "V 3" ∷ later ≡ base_lines b → Runs (inside after (codes "V 3" ∷ [])) later (among Two true (from b) 0)
run_rest after b is [] same = absurd (omega (arith, ap length same))
run_rest after b is (x ∷ xs) same = run_inside after b is (codes "V 3" ∷ []) x xs (sym same)

-- the end of a text that leads to this history
record AmongAt (p : Place) (h : History) : Type 0 where
  version : Version
  rising : Bool
  count : ℕ
  is : p ≡ among version rising h count

abbrev IsAtEnd : Place → History → Type 0
IsAtEnd p h = ((p ≡ start) × (entry_count h ≡ 0)) ⊎ AmongAt p h

base_head : (t : Text) → FollowsBase t → head_lines t ≡ base_lines t.base
base_head t is =
    let base = is.base in
    let positive = base.some in
    let test : (t.base.entries == 0) ≡ false = grind (arith, nat_tests) in
    ap (λ b. cond b (version_lines t.version) (base_lines t.base)) test

run_behind : (t : Text) → IsText t → FollowsBase t → Runs (among Two true (from t.base) 0) (map (entry_line t.version) t.entries) (among Two true (text_history t) (0 + length t.entries))
run_behind t is base =
    subst (λ (v : Version). Runs (among Two true (from t.base) 0) (map (entry_line v) t.entries) (among Two true (text_history t) (0 + length t.entries))) (sym base.version)
    (run_entries Two true (from t.base) 0 t.entries (subst (λ (v : Version). All (IsEntry v) t.entries) base.version is.spelled) is.legal (λ _. base.rises) (let w = is.within in omega arith) is.counted)

run_based : (after : Option History) (p : Place) (t : Text) → IsText t → FollowsBase t → IsBaseFor after t.base → Steps p (codes "V 3") (inside after (codes "V 3" ∷ [])) →
    Runs p (text_lines t) (among Two true (text_history t) (0 + length t.entries))
run_based after p t is base for_it step =
    let lines : base_lines t.base ++ map (entry_line t.version) t.entries ≡ text_lines t = ap (λ ls. ls ++ map (entry_line t.version) t.entries) (sym (base_head t base)) in
    subst (λ (ls : List (List ℕ)). Runs p ls (among Two true (text_history t) (0 + length t.entries))) lines
    (runs_then p (among Two true (from t.base) 0) (among Two true (text_history t) (0 + length t.entries)) (base_lines t.base) (map (entry_line t.version) t.entries)
    (inside after (codes "V 3" ∷ []), (step, run_rest after t.base for_it (numbers_line t.base ∷ (open_lines t.base ++ codes "E" ∷ [])) refl))
    (run_behind t is base))

no_rise : {P : Type 0} → false ≡ true → P
no_rise e = absurd (true≢false (sym e))

run_unbased : (v : Version) (es : List Entry) → All (IsEntry v) es → IsLegal (followed_by (from empty_base) es) → length es ≤ most_entries → entry_count (followed_by (from empty_base) es) ≤ greatest_number →
    (p : Place) × (Runs start (version_lines v ++ map (entry_line v) es) p × IsAtEnd p (followed_by (from empty_base) es))
run_unbased Two es spelled legal within counted = (
  among Two false (followed_by (from empty_base) es) (0 + length es),
  (
    (among Two false (from empty_base) 0, (inl (record { line_is = refl; next_is = refl }), run_entries Two false (from empty_base) 0 es spelled legal no_rise (omega arith) counted)),
    inr (record { version = Two; rising = false; count = 0 + length es; is = refl }),
  ),
)
run_unbased One [] spelled legal within counted = (start, (refl, inl (refl, refl)))
run_unbased One (e ∷ es) spelled legal within counted =
    let runs = run_entries One false (from empty_base) 0 (e ∷ es) spelled legal no_rise (omega arith) counted in (
      among One false (followed_by (from empty_base) (e ∷ es)) (0 + length (e ∷ es)),
      (
        (runs.0, (from_entry runs.1.0, runs.1.1)),
        inr (record { version = One; rising = false; count = 0 + length (e ∷ es); is = refl }),
      ),
    )
  where
    from_entry : {q : Place} → Steps (among One false (from empty_base) 0) (entry_line One e) q → Steps start (entry_line One e) q
    from_entry (inl head) = absurd (not_led_v One e (ap (λ l. get_or l 0 0) head.line_is))
    from_entry (inr takes) = inr (inr takes)

unbased : (v : Version) (b : Base) (es : List Entry) → b ≡ empty_base → IsText (record { version = v; base = b; entries = es }) →
    (p : Place) × (Runs start (cond (b.entries == 0) (version_lines v) (base_lines b) ++ map (entry_line v) es) p × IsAtEnd p (followed_by (from b) es))
unbased v b es none is =
    let legal : IsLegal (followed_by (from empty_base) es) = subst (λ (x : Base). IsLegal (followed_by (from x) es)) none is.legal in
    let counted : entry_count (followed_by (from empty_base) es) ≤ greatest_number = subst (λ (x : Base). entry_count (followed_by (from x) es) ≤ greatest_number) none is.counted in
    subst (λ (x : Base). (p : Place) × (Runs start (cond (x.entries == 0) (version_lines v) (base_lines x) ++ map (entry_line v) es) p × IsAtEnd p (followed_by (from x) es))) (sym none)
    (run_unbased v es is.spelled legal is.within counted)

run_first : (t : Text) → IsText t → (p : Place) × (Runs start (text_lines t) p × IsAtEnd p (text_history t))
run_first t is = elim is.follows [
  | inl none ↦ unbased t.version t.base t.entries none is
  | inr base ↦ (
    among Two true (text_history t) (0 + length t.entries),
    (
      run_based None start t is base base.base (inr (inl (record { line_is = refl; next_is = refl }))),
      inr (record { version = Two; rising = true; count = 0 + length t.entries; is = refl }),
    ),
  )
]

step_again : (p : Place) (h : History) → AmongAt p h → Steps p (codes "V 3") (inside (Some h) (codes "V 3" ∷ []))
step_again p h at = subst (λ (x : Place). Steps x (codes "V 3") (inside (Some h) (codes "V 3" ∷ []))) (sym at.is) (inl (record { line_is = refl; next_is = refl }))

run_later : (h : History) (later : List Text) (p : Place) → IsAtEnd p h → AllGoOn h later → (q : Place) × ((k : History) × (Runs p (flat_map text_lines later) q × IsAtEnd q k))
run_later h [] p at all = (p, (h, (refl, at)))
run_later h (t ∷ later) p at all = elim at [
  | inl none ↦ absurd (nothing none.1)
  | inr here ↦
      let end = among Two true (text_history t) (0 + length t.entries) in
      let rest = run_later (text_history t) later end (inr (record { version = Two; rising = true; count = 0 + length t.entries; is = refl })) all.1 in
      (rest.0, (rest.1.0, (runs_then p end rest.0 (text_lines t) (flat_map text_lines later) (run_based (Some h) p t on.text on.base (base.base, on.says) (step_again p h here)) rest.1.1.0, rest.1.1.1)))
]
  where
    on : GoesOn h t
    on = all.0

    base : FollowsBase t
    base = on.base

    nothing : entry_count h ≡ 0 → ⊥
    nothing none = let text = base.base in let some = text.some in let says = on.says in let same = says.entries in omega arith

run_chain : (first : Text) (later : List Text) → IsChain first later → (q : Place) × ((k : History) × (Runs start (chain_lines first later) q × IsAtEnd q k))
run_chain first later chain =
    let one = run_first first chain.begins in
    let rest = run_later (text_history first) later one.0 one.1.1 chain.goes_on in
    (rest.0, (rest.1.0, (runs_then start one.0 rest.0 (text_lines first) (flat_map text_lines later) one.1.0 rest.1.1.0, rest.1.1.1)))

pub fronts_are_read : FrontsAreRead
fronts_are_read lines is =
    let whole = run_chain is.first is.later is.chain in
    elim is.begins [
      | inl front ↦
          let part = run_front start whole.0 lines front.0 (subst (λ (ls : List (List ℕ)). Runs start ls whole.0) front.1 whole.1.1.0) in
          (part.0, part.1.0)
      | inr more ↦ elim whole.1.1.1 [
        | inl none ↦ again (inside None (codes "V 3" ∷ [])) more (subst (λ (x : Place). Steps x (codes "V 3") (inside None (codes "V 3" ∷ []))) (sym none.0) (inr (inl (record { line_is = refl; next_is = refl }))))
        | inr here ↦ again (inside (Some whole.1.0) (codes "V 3" ∷ [])) more (step_again whole.0 whole.1.0 here)
      ]
    ]
  where
    ends : (q : Place) × ((k : History) × (Runs start (chain_lines is.first is.later) q × IsAtEnd q k))
    ends = run_chain is.first is.later is.chain

    again : (q : Place) → lines ≡ chain_lines is.first is.later ++ codes "V 3" ∷ [] → Steps ends.0 (codes "V 3") q → (p : Place) × Runs start lines p
    again q more step = (q, subst (λ (ls : List (List ℕ)). Runs start ls q) (sym more) (runs_then start ends.0 q (chain_lines is.first is.later) (codes "V 3" ∷ []) ends.1.1.0 (q, (step, refl))))

may_end : (p : Place) (h : History) → IsAtEnd p h → MayEnd p
may_end p h (inl none) = subst MayEnd (sym none.0) tt
may_end p h (inr at) = subst MayEnd (sym at.is) tt

pub chain_ends : (first : Text) (later : List Text) → IsChain first later → (p : Place) × (Runs start (chain_lines first later) p × MayEnd p)
chain_ends first later chain = let whole = run_chain first later chain in (whole.0, (whole.1.1.0, may_end whole.0 whole.1.0 whole.1.1.1))
