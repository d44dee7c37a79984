-- What workers return, from slots to seats.
-- Used by `Pool::run` and `take_all`.
use Rattle.std.proofs.Common.{◌≡◌, ◌<◌, ℕ, suc, List, [], ◌∷◌, ◌++◌, ◌∙◌, length, ap, append-nil, append_assoc, arith, inl, inr, refl, subst, sym, take}
use Rattle.std.specs.Prelude.{All, Err, None, Ok, Option, Result, Some, map, slice_index_or}
use Rattle.std.specs.List.{AllZip}
use Rattle.std.specs.Option.{IsSome, IsSomeAnd}
use Rattle.std.proofs.lemmas.List.{take-append-le, take_all}
use Rattle.std.proofs.lemmas.List.Elements.{All-cons, All-head, All-nil, All-tail}
use Rattle.worker_pool.specs.Pools.{FailsFirst, HasRun, ReturnEach}

pub all_ready : {S X : Type 0} (Runs : S → Type 0) (seat_in : X → Option S) (seats : List S) (old lent : List X) → map seat_in old ≡ map Some seats → lent ≡ old
    → All Runs seats → All (λ slot. IsSomeAnd (seat_in slot) Runs) lent
all_ready {S} {X} Runs seat_in seats old lent are same run = subst (All (λ slot. IsSomeAnd (seat_in slot) Runs)) (sym same) (ready seats old are run)
  where
    ready : (seats : List S) (slots : List X) → map seat_in slots ≡ map Some seats → All Runs seats → All (λ slot. IsSomeAnd (seat_in slot) Runs) slots
    ready [] [] are run = All-nil (λ slot. IsSomeAnd (seat_in slot) Runs)
    ready [] (x ∷ xs) are run = absurd (omega (arith, ap length are))
    ready (s ∷ ss) [] are run = absurd (omega (arith, ap length are))
    ready (s ∷ ss) (x ∷ xs) are run =
        let this : Some s ≡ seat_in x = cc in
        let later : map seat_in xs ≡ map Some ss = cc in
        All-cons (λ slot. IsSomeAnd (seat_in slot) Runs) x xs (subst (λ seat. IsSomeAnd seat Runs) this (All-head Runs s ss run))
        (ready ss xs later (All-tail Runs s ss run))

module _ {S R X : Type 0} (Returns : S → R → Type 0) (end_in : X → Option R) where
  -- each seat's worker has ended
  abbrev pub EndEach : List S → List X → Type 0
  EndEach seats slots = AllZip (λ seat slot. IsSomeAnd (end_in slot) (Returns seat)) seats slots

  each_ends : (seat_in : X → Option S) (seats : List S) (old new : List X) → map seat_in old ≡ map Some seats → length new ≡ length old
      → ((i : ℕ) (d : X) → i < length old → HasRun Returns (seat_in (slice_index_or old i d)) (end_in (slice_index_or new i d)))
      → EndEach seats new
  each_ends seat_in [] [] [] are many each = tt
  each_ends seat_in [] [] (x ∷ new) are many each = absurd (omega (arith, many))
  each_ends seat_in [] (o ∷ old) new are many each = absurd (omega (arith, ap length are))
  each_ends seat_in (s ∷ ss) [] new are many each = absurd (omega (arith, ap length are))
  each_ends seat_in (s ∷ ss) (o ∷ old) [] are many each = absurd (omega (arith, many))
  each_ends seat_in (s ∷ ss) (o ∷ old) (x ∷ new) are many each =
      let this : seat_in o ≡ Some s = cc in
      let later : map seat_in old ≡ map Some ss = cc in
      (each 0 x (omega arith) s this, each_ends seat_in ss old new later (omega (arith, many)) (λ i d within. each (suc i) d (omega (arith, within))))

  -- the slots that were lent, and are written back
  pub all_ended : (seat_in : X → Option S) (seats : List S) (old lent new : List X) (len : ℕ) (rest : List X) → map seat_in old ≡ map Some seats → lent ≡ old
      → length new ≡ length lent → len ≡ length old
      → ((i : ℕ) (d : X) → i < length lent → HasRun Returns (seat_in (slice_index_or lent i d)) (end_in (slice_index_or new i d)))
      → EndEach seats (take len (new ++ rest))
  all_ended seat_in seats old lent new len rest are same many so_many each =
      let few = ap length same in
      subst (EndEach seats) (sym (take-append-le len new rest (omega (arith, many, so_many, few)) ∙ take_all len new (omega (arith, many, so_many, few))))
      (each_ends seat_in seats lent new (ap (map seat_in) same ∙ are) many each)

  is_ended : (seat : S) (end : Option R) → IsSomeAnd end (Returns seat) → IsSome end
  is_ended seat (Some end) is = refl
  is_ended seat None is = absurd is

  pub all_end : (seats : List S) (slots : List X) → EndEach seats slots → All (λ slot. IsSome (end_in slot)) slots
  all_end [] [] each = All-nil (λ slot. IsSome (end_in slot))
  all_end [] (x ∷ xs) each = absurd each
  all_end (s ∷ ss) [] each = absurd each
  all_end (s ∷ ss) (x ∷ xs) each = All-cons (λ slot. IsSome (end_in slot)) x xs (is_ended s (end_in x) each.0) (all_end ss xs each.1)

module _ {T Q E X : Type 0} (end_in : X → Option (Result (T × Q) E)) where
  -- the first of these workers ended with this work and these receipts, and what the others return comes behind
  pub returns_more : (slot : X) (slots rest old : List X) (work : T) (own : Q) (works new_works : List T) (receipts new_receipts : List Q)
      → old ≡ slot ∷ rest → end_in slot ≡ Some (Ok (work, own)) → new_works ≡ works ++ work ∷ [] → new_receipts ≡ receipts ++ own ∷ []
      → ((ts : List T) (qs : List Q) → ReturnEach (λ slot end. end_in slot ≡ Some end) old ts qs → ReturnEach (λ slot end. end_in slot ≡ Some end) slots (works ++ ts) (receipts ++ qs))
      → (ts : List T) (qs : List Q) → ReturnEach (λ slot end. end_in slot ≡ Some end) rest ts qs → ReturnEach (λ slot end. end_in slot ≡ Some end) slots (new_works ++ ts) (new_receipts ++ qs)
  returns_more slot slots rest old work own works new_works receipts new_receipts are this ts_are qs_are so_far ts qs each =
      subst (λ (ws : List T). ReturnEach (λ slot end. end_in slot ≡ Some end) slots ws (new_receipts ++ qs))
      (sym (ap (λ ws. ws ++ ts) ts_are ∙ append_assoc works (work ∷ []) ts))
      (subst (λ (rs : List Q). ReturnEach (λ slot end. end_in slot ≡ Some end) slots (works ++ work ∷ ts) rs)
      (sym (ap (λ rs. rs ++ qs) qs_are ∙ append_assoc receipts (own ∷ []) qs))
      (so_far (work ∷ ts) (own ∷ qs) (subst (λ (xs : List X). ReturnEach (λ slot end. end_in slot ≡ Some end) xs (work ∷ ts) (own ∷ qs)) (sym are) (this, each))))

  pub fails_later : (slot : X) (slots rest old : List X) (work : T) (own : Q) → old ≡ slot ∷ rest → end_in slot ≡ Some (Ok (work, own))
      → ((fault : E) → FailsFirst (λ slot end. end_in slot ≡ Some end) old fault → FailsFirst (λ slot end. end_in slot ≡ Some end) slots fault)
      → (fault : E) → FailsFirst (λ slot end. end_in slot ≡ Some end) rest fault → FailsFirst (λ slot end. end_in slot ≡ Some end) slots fault
  fails_later slot slots rest old work own are this so_far fault later =
      so_far fault (subst (λ (xs : List X). FailsFirst (λ slot end. end_in slot ≡ Some end) xs fault) (sym are) (inr (work, (own, (this, later)))))

  pub fails_now : (slot : X) (slots rest old : List X) (fault : E) → old ≡ slot ∷ rest → end_in slot ≡ Some (Err fault)
      → ((fault : E) → FailsFirst (λ slot end. end_in slot ≡ Some end) old fault → FailsFirst (λ slot end. end_in slot ≡ Some end) slots fault)
      → FailsFirst (λ slot end. end_in slot ≡ Some end) slots fault
  fails_now slot slots rest old fault are this so_far =
      so_far fault (subst (λ (xs : List X). FailsFirst (λ slot end. end_in slot ≡ Some end) xs fault) (sym are) (inl this))

  pub returns_all : (slots old : List X) (works : List T) (receipts : List Q) → length old ≡ 0
      → ((ts : List T) (qs : List Q) → ReturnEach (λ slot end. end_in slot ≡ Some end) old ts qs → ReturnEach (λ slot end. end_in slot ≡ Some end) slots (works ++ ts) (receipts ++ qs))
      → ReturnEach (λ slot end. end_in slot ≡ Some end) slots works receipts
  returns_all slots (x ∷ old) works receipts none so_far = absurd (omega (arith, none))
  returns_all slots [] works receipts none so_far =
      subst (λ (ws : List T). ReturnEach (λ slot end. end_in slot ≡ Some end) slots ws receipts) (append-nil works)
      (subst (λ (rs : List Q). ReturnEach (λ slot end. end_in slot ≡ Some end) slots (works ++ []) rs) (append-nil receipts) (so_far [] [] tt))

module _ {S T Q E X : Type 0} (Returns : S → Result (T × Q) E → Type 0) (end_in : X → Option (Result (T × Q) E)) where
  pub returns_each : (seats : List S) (slots : List X) (works : List T) (receipts : List Q)
      → EndEach Returns end_in seats slots → ReturnEach (λ slot end. end_in slot ≡ Some end) slots works receipts → ReturnEach Returns seats works receipts
  returns_each [] [] [] [] each so = tt
  returns_each [] [] [] (q ∷ qs) each so = absurd so
  returns_each [] [] (t ∷ ts) receipts each so = absurd so
  returns_each [] (x ∷ xs) works receipts each so = absurd each
  returns_each (s ∷ ss) [] works receipts each so = absurd each
  returns_each (s ∷ ss) (x ∷ xs) [] receipts each so = absurd so
  returns_each (s ∷ ss) (x ∷ xs) (t ∷ ts) [] each so = absurd so
  returns_each (s ∷ ss) (x ∷ xs) (t ∷ ts) (q ∷ qs) each so =
      (subst (λ end. IsSomeAnd end (Returns s)) so.0 each.0, returns_each ss xs ts qs each.1 so.1)

  pub fails_first : (seats : List S) (slots : List X) (fault : E)
      → EndEach Returns end_in seats slots → FailsFirst (λ slot end. end_in slot ≡ Some end) slots fault → FailsFirst Returns seats fault
  fails_first [] [] fault each so = absurd so
  fails_first [] (x ∷ xs) fault each so = absurd each
  fails_first (s ∷ ss) [] fault each so = absurd each
  fails_first (s ∷ ss) (x ∷ xs) fault each (inl this) = inl (subst (λ end. IsSomeAnd end (Returns s)) this each.0)
  fails_first (s ∷ ss) (x ∷ xs) fault each (inr (work, (own, (this, later)))) =
      inr (work, (own, (subst (λ end. IsSomeAnd end (Returns s)) this each.0, fails_first ss xs fault each.1 later)))
