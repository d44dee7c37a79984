-- The first letter of a line tells entries from heads and bases, so a chain's entries are counted by its lines.
-- Used by the calls of the auditor and by `audit`.
use Rattle.std.proofs.Common.{◌≡◌, ◌==◌, ℕ, ◌+◌, All, Bool, true, false, cond, List, [], ◌∷◌, ◌++◌, codes, filter, flat_map, length, map, refl, ap, subst, ◌∙◌, arith, length-append}
use Rattle.std.proofs.lemmas.List.Elements.{All-append, All-cons, All-head, All-nil, All-tail, filter-append}
use Rattle.gate_history.specs.declared.entry.Entry.{Entry}
use Rattle.gate_history.specs.declared.entry.Entry.TheVariants.{Begun, Arrived, Granted, AskDenied, Started, StartDenied, Returned, Finished, Swept}
use Rattle.gate_history.specs.Base.{Base}
use Rattle.gate_history.specs.History.{is_start}
use Rattle.history_text.specs.declared.version.Version.{Version}
use Rattle.history_text.specs.declared.version.Version.TheVariants.{One, Two}
use Rattle.crawl_audit.specs.Audit.{is_entry_line, is_start_line}
use Rattle.history_text.specs.Texts.{head_lines, Text, text_lines, version_lines}
use Rattle.crawl_audit.specs.Chains.{chain_entries, chain_lines, starts_in}
use Rattle.history_text.specs.Spell.{entry_line}
use Rattle.history_text.specs.SpellBase.{answer_line, base_lines, grant_line, numbers_line, open_lines, running_line, turn_line, unspent_line}

-- the line is that of no entry
pub record IsUncounted (line : List ℕ) : Type 0 where
  pub entry : is_entry_line line ≡ false
  pub start : is_start_line line ≡ false

pub entry_counted : (v : Version) (e : Entry) → is_entry_line (entry_line v e) ≡ true
entry_counted v (Begun _ _ _) = refl
entry_counted v (Arrived _ _ _ _ _) = refl
entry_counted v (Granted _ _ _) = refl
entry_counted v (AskDenied _ _ _) = refl
entry_counted v (Started _ _ _) = refl
entry_counted v (StartDenied _ _ _) = refl
entry_counted v (Returned _) = refl
entry_counted v (Finished _) = refl
entry_counted v (Swept _ _) = refl

pub start_counted : (v : Version) (e : Entry) → is_start_line (entry_line v e) ≡ is_start e
start_counted v (Begun _ _ _) = refl
start_counted v (Arrived _ _ _ _ _) = refl
start_counted v (Granted _ _ _) = refl
start_counted v (AskDenied _ _ _) = refl
start_counted v (Started _ _ _) = refl
start_counted v (StartDenied _ _ _) = refl
start_counted v (Returned _) = refl
start_counted v (Finished _) = refl
start_counted v (Swept _ _) = refl

-- ---- heads and bases

abbrev uncounted : {line : List ℕ} → is_entry_line line ≡ false → is_start_line line ≡ false → IsUncounted line
uncounted entry start = record { entry = entry; start = start }

none_in : {X : Type 0} (f : X → List ℕ) → ((x : X) → IsUncounted (f x)) → (xs : List X) → All IsUncounted (map f xs)
none_in f each [] = All-nil IsUncounted
none_in f each (x ∷ xs) = All-cons IsUncounted (f x) (map f xs) (each x) (none_in f each xs)

base_uncounted : (b : Base) → All IsUncounted (base_lines b)
base_uncounted b =
    let ys = map running_line b.running in
    let us = map unspent_line b.unspent ++ ys in
    let ls = map grant_line b.grants ++ us in
    let ts = map turn_line b.in_flight ++ ls in
    All-cons IsUncounted (codes "V 3") (numbers_line b ∷ (open_lines b ++ codes "E" ∷ [])) (uncounted refl refl)
    (All-cons IsUncounted (numbers_line b) (open_lines b ++ codes "E" ∷ []) (uncounted refl refl)
    (All-append IsUncounted (open_lines b) (codes "E" ∷ [])
    (All-append IsUncounted (map answer_line b.standing) ts (none_in answer_line (λ s. uncounted refl refl) b.standing)
    (All-append IsUncounted (map turn_line b.in_flight) ls (none_in turn_line (λ t. uncounted refl refl) b.in_flight)
    (All-append IsUncounted (map grant_line b.grants) us (none_in grant_line (λ g. uncounted refl refl) b.grants)
    (All-append IsUncounted (map unspent_line b.unspent) ys (none_in unspent_line (λ p. uncounted refl refl) b.unspent)
    (none_in running_line (λ p. uncounted refl refl) b.running)))))
    (All-cons IsUncounted (codes "E") [] (uncounted refl refl) (All-nil IsUncounted))))

pub all_behind : {X : Type 0} (P : X → Type 0) (xs ys : List X) → All P (xs ++ ys) → All P ys
all_behind P [] ys all = all
all_behind P (x ∷ xs) ys all = all_behind P xs ys (All-tail P x (xs ++ ys) all)

pub in_base : (b : Base) (before after : List (List ℕ)) (line : List ℕ) → base_lines b ≡ before ++ line ∷ after → IsUncounted line
in_base b before after line is = All-head IsUncounted line after (all_behind IsUncounted before (line ∷ after) (subst (All IsUncounted) is (base_uncounted b)))

heads_uncounted : (t : Text) → All IsUncounted (head_lines t)
heads_uncounted t = by (t.base.entries == 0)
  where
    version : (v : Version) → All IsUncounted (version_lines v)
    version One = All-nil IsUncounted
    version Two = All-cons IsUncounted (codes "V 2") [] (uncounted refl refl) (All-nil IsUncounted)

    by : (b : Bool) → All IsUncounted (cond b (version_lines t.version) (base_lines t.base))
    by true = version t.version
    by false = base_uncounted t.base

-- ---- a test of lines that agrees with one of entries

module _ (test : List ℕ → Bool) (of_entry : Entry → Bool) (own : (v : Version) (e : Entry) → test (entry_line v e) ≡ of_entry e) (none : (line : List ℕ) → IsUncounted line → test line ≡ false) where
  none_of : (ls : List (List ℕ)) → All IsUncounted ls → length (filter test ls) ≡ 0
  none_of [] all = refl
  none_of (l ∷ ls) all = ap (λ b. length (cond b (l ∷ filter test ls) (filter test ls))) (none l (All-head IsUncounted l ls all)) ∙ none_of ls (All-tail IsUncounted l ls all)

  of_entries : (v : Version) (es : List Entry) → length (filter test (map (entry_line v) es)) ≡ length (filter of_entry es)
  of_entries v [] = refl
  of_entries v (e ∷ es) =
      ap (λ b. length (cond b (entry_line v e ∷ filter test (map (entry_line v) es)) (filter test (map (entry_line v) es)))) (own v e)
      ∙ by (of_entry e) (of_entries v es)
    where
      by : (b : Bool) → length (filter test (map (entry_line v) es)) ≡ length (filter of_entry es) →
          length (cond b (entry_line v e ∷ filter test (map (entry_line v) es)) (filter test (map (entry_line v) es))) ≡ length (cond b (e ∷ filter of_entry es) (filter of_entry es))
      by true rest = omega (arith, rest)
      by false rest = rest

  parts : {X : Type 0} (p : X → Bool) (xs ys : List X) → length (filter p (xs ++ ys)) ≡ length (filter p xs) + length (filter p ys)
  parts p xs ys = ap length (filter-append p xs ys) ∙ length-append (filter p xs) (filter p ys)

  of_text : (t : Text) → length (filter test (text_lines t)) ≡ length (filter of_entry t.entries)
  of_text t =
      let heads = none_of (head_lines t) (heads_uncounted t) in
      let entries = of_entries t.version t.entries in
      omega (arith, parts test (head_lines t) (map (entry_line t.version) t.entries), heads, entries)

  of_texts : (later : List Text) → length (filter test (flat_map text_lines later)) ≡ length (filter of_entry (flat_map (λ t. t.entries) later))
  of_texts [] = refl
  of_texts (t ∷ later) =
      omega (arith, parts test (text_lines t) (flat_map text_lines later), parts of_entry t.entries (flat_map (λ (u : Text). u.entries) later), of_text t, of_texts later)

  of_chain : (first : Text) (later : List Text) → length (filter test (chain_lines first later)) ≡ length (filter of_entry (chain_entries first later))
  of_chain first later =
      omega (arith, parts test (text_lines first) (flat_map text_lines later), parts of_entry first.entries (flat_map (λ (u : Text). u.entries) later), of_text first, of_texts later)

all_kept : {X : Type 0} (xs : List X) → length (filter (λ _. true) xs) ≡ length xs
all_kept [] = refl
all_kept (x ∷ xs) = omega (arith, all_kept xs)

pub entries_of_chain : (first : Text) (later : List Text) → length (filter is_entry_line (chain_lines first later)) ≡ length (chain_entries first later)
entries_of_chain first later = of_chain is_entry_line (λ _. true) entry_counted (λ l u. u.entry) first later ∙ all_kept (chain_entries first later)

pub starts_of_chain : (first : Text) (later : List Text) → length (filter is_start_line (chain_lines first later)) ≡ starts_in (chain_entries first later)
starts_of_chain first later = of_chain is_start_line is_start start_counted (λ l u. u.start) first later
