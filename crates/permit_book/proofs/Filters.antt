-- Filters of lists: in sequence, with tests, and of permits by number.
-- Used by the laws on tables and lists.
use Rattle.std.proofs.Common.{◌≡◌, ◌≢◌, ℕ, ◌+◌, ◌==◌, ◌&&◌, ◌||◌, Bool, true, false, cond, not, List, [], ◌∷◌, ◌++◌, length, filter, inl, inr, refl, sym, ap, ◌∙◌, true≢false, arith}
use Rattle.std.specs.List.{list_any}
use Rattle.std.proofs.lemmas.Bool.Decides.{eqb_tells}
use Rattle.std.proofs.lemmas.List.{append-nil, length-append}
use Rattle.std.proofs.lemmas.List.Elements.{filter-append}
use Rattle.std.proofs.lemmas.List.Filters.{sum_by-filter_both}
use Rattle.std.proofs.lemmas.List.Sums.{length-filter}
use Rattle.permit_book.specs.declared.out.Fetch.{Fetch}
use Rattle.permit_book.specs.declared.granted_permit.GrantedPermit.{GrantedPermit}
use Rattle.permit_book.specs.Outstanding.{count_for, fetch_of, is_listed, is_numbered, without}
use Rattle.permit_book.proofs.TableLaws.{one_if, same_number}

or_true : (b : Bool) → (b || true) ≡ true
or_true true = refl
or_true false = refl

pub filter-kept : {X : Type 0} (p q : X → Bool) (xs : List X) → ((x : X) → p x ≡ true → q x ≡ true) →
    filter p (filter q xs) ≡ filter p xs
filter-kept p q [] keeps = refl
filter-kept p q (x ∷ xs) keeps = step (filter-kept p q xs keeps) (p x) (q x) refl refl
  where
    step : filter p (filter q xs) ≡ filter p xs → (a b : Bool) → p x ≡ a → q x ≡ b →
        filter p (cond b (x ∷ filter q xs) (filter q xs)) ≡ cond a (x ∷ filter p xs) (filter p xs)
    step rest true true passes kept = rw passes (ap (λ ys. x ∷ ys) rest)
    step rest false true passes kept = rw passes rest
    step rest true false passes kept = absurd (true≢false (sym (keeps x passes) ∙ kept))
    step rest false false passes kept = rest

pub filter-dropped : {X : Type 0} (p q : X → Bool) (xs : List X) → ((x : X) → p x ≡ true → q x ≡ false) →
    filter p (filter q xs) ≡ []
filter-dropped p q [] drops = refl
filter-dropped p q (x ∷ xs) drops = step (filter-dropped p q xs drops) (p x) (q x) refl refl
  where
    step : filter p (filter q xs) ≡ [] → (a b : Bool) → p x ≡ a → q x ≡ b → filter p (cond b (x ∷ filter q xs) (filter q xs)) ≡ []
    step rest true true passes kept = absurd (true≢false (sym kept ∙ drops x passes))
    step rest false true passes kept = rw passes rest
    step rest a false passes kept = rest

pub filter-parts : {X : Type 0} (r p : X → Bool) (xs : List X) →
    length (filter r (filter p xs)) + length (filter r (filter (λ x. not (p x)) xs)) ≡ length (filter r xs)
filter-parts r p xs =
    rw (length-filter r (filter p xs), length-filter r (filter (λ x. not (p x)) xs), length-filter r xs)
    (sum_by-filter_both p (λ x. not (p x)) (λ x. refl) (λ x. one_if (r x)) xs)

pub list_any-filter : {X : Type 0} (p : X → Bool) (xs : List X) → list_any p xs ≡ list_any (λ _. true) (filter p xs)
list_any-filter p [] = refl
list_any-filter p (x ∷ xs) = step (list_any-filter p xs) (p x)
  where
    step : list_any p xs ≡ list_any (λ _. true) (filter p xs) → (b : Bool) →
        (b || list_any p xs) ≡ list_any (λ _. true) (cond b (x ∷ filter p xs) (filter p xs))
    step rest true = refl
    step rest false = rest

pub list_any-both : {X : Type 0} (p q : X → Bool) (xs : List X) → list_any (λ x. p x && q x) xs ≡ list_any q (filter p xs)
list_any-both p q [] = refl
list_any-both p q (x ∷ xs) = step (list_any-both p q xs) (p x)
  where
    step : list_any (λ y. p y && q y) xs ≡ list_any q (filter p xs) → (b : Bool) →
        ((b && q x) || list_any (λ y. p y && q y) xs) ≡ list_any q (cond b (x ∷ filter p xs) (filter p xs))
    step rest true = ap (λ later. q x || later) rest
    step rest false = rest

pub list_any-more : {X : Type 0} (p q : X → Bool) (xs : List X) → ((x : X) → p x ≡ true → q x ≡ true) →
    list_any p xs ≡ true → list_any q xs ≡ true
list_any-more p q [] more found = found
list_any-more p q (x ∷ xs) more found = step (list_any-more p q xs more) (p x) refl found
  where
    step : (list_any p xs ≡ true → list_any q xs ≡ true) → (b : Bool) → p x ≡ b → (b || list_any p xs) ≡ true →
        (q x || list_any q xs) ≡ true
    step rest true passes found = rw (more x passes) refl
    step rest false passes found = rw (rest found) (or_true (q x))

pub filter-all : {X : Type 0} (xs : List X) → filter (λ _. true) xs ≡ xs
filter-all [] = refl
filter-all (x ∷ xs) = ap (λ ys. x ∷ ys) (filter-all xs)

pub found : (q : GrantedPermit → Bool) (permits : List GrantedPermit) → list_any q permits ≡ true →
    (p : GrantedPermit) × (q p ≡ true) × (is_listed permits p.number ≡ true)
found q [] none = absurd (true≢false (sym none))
found q (p ∷ permits) some = step (found q permits) (q p) refl some
  where
    step : (list_any q permits ≡ true → (p' : GrantedPermit) × (q p' ≡ true) × (is_listed permits p'.number ≡ true)) →
        (b : Bool) → q p ≡ b → (b || list_any q permits) ≡ true →
        (p' : GrantedPermit) × (q p' ≡ true) × (is_listed (p ∷ permits) p'.number ≡ true)
    step rest true passes some = (p, passes, rw (same_number p.number) refl)
    step rest false passes some = let later = rest some in (later.0, later.1, rw later.2 (or_true (p.number == later.0.number)))

pub apart_fails : (m n k : ℕ) → m ≢ n → (k == m) ≡ true → (k == n) ≡ false
apart_fails m n k apart is = elim (eqb_tells k n) [
  | inl e ↦ elim (eqb_tells k m) [ inl f ↦ absurd (apart (sym f.1 ∙ e.1)) | inr d ↦ absurd (true≢false (sym is ∙ d.0)) ]
  | inr d ↦ d.0
]

pub numbered-added : (permits : List GrantedPermit) (p : GrantedPermit) (m : ℕ) → m ≢ p.number →
    filter (is_numbered m) (permits ++ p ∷ []) ≡ filter (is_numbered m) permits
numbered-added permits p m apart =
    filter-append (is_numbered m) permits (p ∷ []) ∙ rw (other) (append-nil (filter (is_numbered m) permits))
  where
    other : (p.number == m) ≡ false
    other = elim (eqb_tells p.number m) [ inl e ↦ absurd (apart (sym e.1)) | inr d ↦ d.0 ]

pub numbered-new : (permits : List GrantedPermit) (p : GrantedPermit) → filter (is_numbered p.number) permits ≡ [] →
    filter (is_numbered p.number) (permits ++ p ∷ []) ≡ p ∷ []
numbered-new permits p none =
    filter-append (is_numbered p.number) permits (p ∷ []) ∙ rw (none, same_number p.number) refl

pub count_for-added : (test : Fetch → Bool) (permits : List GrantedPermit) (p : GrantedPermit) →
    count_for test (permits ++ p ∷ []) ≡ count_for test permits + one_if (test (fetch_of p))
count_for-added test permits p =
    ap length (filter-append (λ q. test (fetch_of q)) permits (p ∷ []))
    ∙ (length-append (filter (λ q. test (fetch_of q)) permits) _ ∙ ap (λ n. count_for test permits + n) (one (test (fetch_of p))))
  where
    one : (b : Bool) → length (cond b (p ∷ []) []) ≡ one_if b
    one true = refl
    one false = refl

pub numbered-without : (permits : List GrantedPermit) (n m : ℕ) → m ≢ n →
    filter (is_numbered m) (without n permits) ≡ filter (is_numbered m) permits
numbered-without permits n m apart =
    filter-kept (is_numbered m) (λ p. not (is_numbered n p)) permits (λ p is. rw (apart_fails m n p.number apart is) refl)

pub numbered-gone : (permits : List GrantedPermit) (n : ℕ) → filter (is_numbered n) (without n permits) ≡ []
numbered-gone permits n = filter-dropped (is_numbered n) (λ p. not (is_numbered n p)) permits (λ p is. rw is refl)

pub count_for-without : (test : Fetch → Bool) (permits : List GrantedPermit) (p : GrantedPermit) → filter (is_numbered p.number) permits ≡ p ∷ [] →
    count_for test (without p.number permits) + one_if (test (fetch_of p)) ≡ count_for test permits
count_for-without test permits p is =
    let parts = filter-parts (λ q. test (fetch_of q)) (is_numbered p.number) permits in
    let own : length (filter (λ q. test (fetch_of q)) (filter (is_numbered p.number) permits)) ≡ one_if (test (fetch_of p)) =
    rw is (one (test (fetch_of p))) in
    omega arith
  where
    one : (b : Bool) → length (cond b (p ∷ []) []) ≡ one_if b
    one true = refl
    one false = refl
