-- Which line of the next base is at a place, and where a line leads.
-- Used by `NextBase::is_line_at` and `take`.
use Rattle.std.proofs.Common.{◌≡◌, ℕ, ◌-◌, ◌<◌, ◌≤◌, zero, suc, Bool, List, [], ◌∷◌, ◌++◌, codes, length, map, refl, sym, ap, subst, ◌∙◌, arith}
use Rattle.std.specs.Prelude.{◌↔◌, IsTrue, Option, Some, None, slice_get, unwrap_or}
use Rattle.std.proofs.lemmas.List.{length-map}
use Rattle.gate_history.specs.Base.{Base}
use Rattle.crawl_audit.specs.NextBase.{lines_behind}
use Rattle.history_text.specs.SpellBase.{answer_line, grant_line, numbers_line, open_lines, running_line, turn_line, unspent_line}
use Rattle.crawl_audit.proofs.RowSpelling.{open_apart}

-- ---- a list at a place

pub get_tail : {X : Type 0} (x : X) (xs : List X) (k : ℕ) → 0 < k → slice_get (x ∷ xs) k ≡ slice_get xs (k - 1)
get_tail x xs zero some = absurd (omega arith)
get_tail x xs (suc k) some = let e : k ≡ suc k - 1 = omega arith in ap (slice_get xs) e

get_in : {X : Type 0} (xs ys : List X) (k : ℕ) → k < length xs → slice_get (xs ++ ys) k ≡ slice_get xs k
get_in [] ys k within = absurd (omega arith)
get_in (x ∷ xs) ys zero within = refl
get_in (x ∷ xs) ys (suc k) within = get_in xs ys k (omega arith)

pub get_behind : {X : Type 0} (xs ys : List X) (k : ℕ) → length xs ≤ k → slice_get (xs ++ ys) k ≡ slice_get ys (k - length xs)
get_behind [] ys k low = let e : k ≡ k - 0 = omega arith in ap (slice_get ys) e
get_behind (x ∷ xs) ys zero low = absurd (omega arith)
get_behind (x ∷ xs) ys (suc k) low = get_behind xs ys k (omega arith) ∙ (let e : k - length xs ≡ suc k - length (x ∷ xs) = omega arith in ap (slice_get ys) e)

pub in_rows : {X : Type 0} (f : X → List ℕ) (xs : List X) (ys : List (List ℕ)) (k : ℕ) → k < length xs → slice_get (map f xs ++ ys) k ≡ slice_get (map f xs) k
in_rows f xs ys k within = get_in (map f xs) ys k (let long = length-map xs f in omega arith)

behind_rows : {X : Type 0} (f : X → List ℕ) (xs : List X) (ys : List (List ℕ)) (k : ℕ) → length xs ≤ k → slice_get (map f xs ++ ys) k ≡ slice_get ys (k - length xs)
behind_rows f xs ys k low =
    let long = length-map xs f in
    get_behind (map f xs) ys k (omega arith) ∙ ap (λ n. slice_get ys (k - n)) long

-- ---- the lines of a base, from a kind of rows on

abbrev pub last_line : List (List ℕ)
last_line = codes "E" ∷ []

abbrev pub from_runs : Base → List (List ℕ)
from_runs b = map running_line b.running ++ last_line

abbrev pub from_permits : Base → List (List ℕ)
from_permits b = map unspent_line b.unspent ++ from_runs b

abbrev pub from_grants : Base → List (List ℕ)
from_grants b = map grant_line b.grants ++ from_permits b

abbrev pub from_turns : Base → List (List ℕ)
from_turns b = map turn_line b.in_flight ++ from_grants b

abbrev pub from_answers : Base → List (List ℕ)
from_answers b = map answer_line b.standing ++ from_turns b

pub at_answers : (b : Base) (k : ℕ) → 0 < k → slice_get (lines_behind b) k ≡ slice_get (from_answers b) (k - 1)
at_answers b k some = get_tail (numbers_line b) (open_lines b ++ last_line) k some ∙ ap (λ ls. slice_get ls (k - 1)) (open_apart b last_line)

pub at_turns : (b : Base) (k n : ℕ) → 0 < k → n ≡ length b.standing → n ≤ k - 1 → slice_get (lines_behind b) k ≡ slice_get (from_turns b) (k - 1 - n)
at_turns b k n some is low =
    at_answers b k some ∙ behind_rows answer_line b.standing (from_turns b) (k - 1) (omega arith) ∙ ap (λ m. slice_get (from_turns b) (k - 1 - m)) (sym is)

pub at_grants : (b : Base) (k n m : ℕ) → 0 < k → n ≡ length b.standing → n ≤ k - 1 → m ≡ length b.in_flight → m ≤ k - 1 - n →
    slice_get (lines_behind b) k ≡ slice_get (from_grants b) (k - 1 - n - m)
at_grants b k n m some n_is n_low m_is m_low =
    at_turns b k n some n_is n_low ∙ behind_rows turn_line b.in_flight (from_grants b) (k - 1 - n) (omega arith)
    ∙ ap (λ x. slice_get (from_grants b) (k - 1 - n - x)) (sym m_is)

pub at_permits : (b : Base) (k n m i : ℕ) → 0 < k → n ≡ length b.standing → n ≤ k - 1 → m ≡ length b.in_flight → m ≤ k - 1 - n → i ≡ length b.grants → i ≤ k - 1 - n - m →
    slice_get (lines_behind b) k ≡ slice_get (from_permits b) (k - 1 - n - m - i)
at_permits b k n m i some n_is n_low m_is m_low i_is i_low =
    at_grants b k n m some n_is n_low m_is m_low ∙ behind_rows grant_line b.grants (from_permits b) (k - 1 - n - m) (omega arith)
    ∙ ap (λ x. slice_get (from_permits b) (k - 1 - n - m - x)) (sym i_is)

pub at_runs : (b : Base) (k n m i j : ℕ) → 0 < k → n ≡ length b.standing → n ≤ k - 1 → m ≡ length b.in_flight → m ≤ k - 1 - n → i ≡ length b.grants → i ≤ k - 1 - n - m → j ≡ length b.unspent → j ≤ k - 1 - n - m - i →
    slice_get (lines_behind b) k ≡ slice_get (from_runs b) (k - 1 - n - m - i - j)
at_runs b k n m i j some n_is n_low m_is m_low i_is i_low j_is j_low =
    at_permits b k n m i some n_is n_low m_is m_low i_is i_low ∙ behind_rows unspent_line b.unspent (from_runs b) (k - 1 - n - m - i) (omega arith)
    ∙ ap (λ x. slice_get (from_runs b) (k - 1 - n - m - i - x)) (sym j_is)

pub at_last : (b : Base) (k n m i j q : ℕ) → 0 < k → n ≡ length b.standing → n ≤ k - 1 → m ≡ length b.in_flight → m ≤ k - 1 - n → i ≡ length b.grants → i ≤ k - 1 - n - m → j ≡ length b.unspent → j ≤ k - 1 - n - m - i → q ≡ length b.running → q ≤ k - 1 - n - m - i - j →
    slice_get (lines_behind b) k ≡ slice_get last_line (k - 1 - n - m - i - j - q)
at_last b k n m i j q some n_is n_low m_is m_low i_is i_low j_is j_low q_is q_low =
    at_runs b k n m i j some n_is n_low m_is m_low i_is i_low j_is j_low ∙ behind_rows running_line b.running last_line (k - 1 - n - m - i - j) (omega arith)
    ∙ ap (λ x. slice_get last_line (k - 1 - n - m - i - j - x)) (sym q_is)

-- ---- whether a line is the one at a place

pub in_list : {X : Type 0} (f : X → List ℕ) (xs items : List X) (ys whole : List (List ℕ)) (k j : ℕ) (line : List ℕ) (result : Bool) →
    xs ≡ items → slice_get whole k ≡ slice_get (map f items ++ ys) j → j < length items →
    (IsTrue result ↔ (slice_get (map f xs) j ≡ Some line)) → IsTrue result ↔ (slice_get whole k ≡ Some line)
in_list f xs items ys whole k j line result same there within told =
    subst (λ (o : Option (List ℕ)). IsTrue result ↔ (o ≡ Some line)) (sym (there ∙ in_rows f items ys j within))
    (subst (λ zs. IsTrue result ↔ (slice_get (map f zs) j ≡ Some line)) same told)

pub at_end : (whole : List (List ℕ)) (k j : ℕ) (line text : List ℕ) (result : Bool) → slice_get whole k ≡ slice_get last_line j → j ≡ 0 → text ≡ codes "E" →
    (IsTrue result ↔ (line ≡ text)) → IsTrue result ↔ (slice_get whole k ≡ Some line)
at_end whole k j line text result there none is told =
    let here : slice_get whole k ≡ Some (codes "E") = there ∙ ap (slice_get last_line) none in (
      λ yes. here ∙ ap Some (sym is ∙ sym (told.0 yes)),
      λ same. told.1 (ap (λ o. unwrap_or o text) (sym same ∙ here) ∙ sym is),
    )

pub past_end : (whole : List (List ℕ)) (k j : ℕ) (line : List ℕ) → slice_get whole k ≡ slice_get last_line j → 0 < j → slice_get whole k ≡ Some line → ⊥
past_end whole k zero line there some is = absurd (omega arith)
past_end whole k (suc j) line there some is = clash (sym there ∙ is)
  where
    clash : None ≡ Some line → ⊥
    clash e = cc
