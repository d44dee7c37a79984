-- The rows of a base are sorted by kind; sorted rows are those of one base, and so are their prefixes.
-- Used by `RowFronts`, `StandingRows` and `LoadedRows`.
use Rattle.std.proofs.Common.{◌≡◌, ℕ, ◌<◌, ◌≤◌, List, [], ◌∷◌, ◌++◌, flat_map, map, refl, sym, ap, subst, ◌∙◌, arith, append-nil}
use Rattle.std.proofs.lemmas.List.Concat.{flat_map-append}
use Rattle.permit_book.specs.declared.granted_permit.GrantedPermit.{GrantedPermit}
use Rattle.authority_cache.specs.declared.standing_answer.StandingAnswer.{StandingAnswer}
use Rattle.authority_cache.specs.declared.turn.Turn.{Turn}
use Rattle.gate_history.specs.declared.base.SlotGrant.{SlotGrant}
use Rattle.gate_history.specs.Base.{Base, times_out}
use Rattle.crawl_audit.specs.FirstBase.{key_of, kind_place}
use Rattle.crawl_audit.specs.OpenRows.{OpenRow, Answered, InFlight, Greatest, Unspent, Running, left_as, rows_of, with_row}

-- ---- rows by kinds

-- the place of a row's kind
abbrev pub kind : OpenRow → ℕ
kind row = kind_place (key_of row)

-- the rows are sorted by kinds, from this one on
abbrev pub FromKind : ℕ → List OpenRow → Type 0
FromKind k [] = Unit {0}
FromKind k (row ∷ rows) = (k ≤ kind row) × FromKind (kind row) rows

pub lower : (j k : ℕ) → j ≤ k → (rows : List OpenRow) → FromKind k rows → FromKind j rows
lower j k at_most [] from = tt
lower j k at_most (row ∷ rows) from = let first = from.0 in (omega arith, from.1)

pub kinds_front : (k : ℕ) (xs ys : List OpenRow) → FromKind k (xs ++ ys) → FromKind k xs
kinds_front k [] ys from = tt
kinds_front k (x ∷ xs) ys from = (from.0, kinds_front (kind x) xs ys from.1)

kinds_rest : (k : ℕ) (xs ys : List OpenRow) → FromKind k (xs ++ ys) → FromKind k ys
kinds_rest k [] ys from = from
kinds_rest k (x ∷ xs) ys from = let first = from.0 in lower k (kind x) (omega arith) ys (kinds_rest (kind x) xs ys from.1)

of_kind : {X : Type 0} (f : X → OpenRow) (j k : ℕ) → ((x : X) → kind (f x) ≡ k) → j ≤ k → (xs : List X) (rest : List OpenRow) → FromKind k rest → FromKind j (map f xs ++ rest)
of_kind f j k same at_most [] rest from = lower j k at_most rest from
of_kind f j k same at_most (x ∷ xs) rest from =
    let here = same x in
    (omega arith, subst (λ n. FromKind n (map f xs ++ rest)) (sym here) (of_kind f k k same (omega arith) xs rest from))

pub rows_by_kinds : (b : Base) → FromKind 0 (rows_of b)
rows_by_kinds b =
    of_kind Answered 0 1 (λ s. refl) (omega arith) b.standing _
    (of_kind InFlight 1 2 (λ t. refl) (omega arith) b.in_flight _
    (of_kind Greatest 2 3 (λ g. refl) (omega arith) b.grants _
    (of_kind Unspent 3 4 (λ p. refl) (omega arith) b.unspent _
    (subst (FromKind 4) (append-nil (map Running b.running)) (of_kind Running 4 5 (λ p. refl) (omega arith) b.running [] tt)))))

-- ---- the base of rows

abbrev pub answers_at : OpenRow → List StandingAnswer
answers_at (Answered s) = s ∷ []
answers_at _ = []

abbrev pub turns_at : OpenRow → List Turn
turns_at (InFlight t) = t ∷ []
turns_at _ = []

abbrev pub grants_at : OpenRow → List SlotGrant
grants_at (Greatest g) = g ∷ []
grants_at _ = []

abbrev pub unspent_at : OpenRow → List GrantedPermit
unspent_at (Unspent p) = p ∷ []
unspent_at _ = []

abbrev pub running_at : OpenRow → List GrantedPermit
running_at (Running p) = p ∷ []
running_at _ = []

-- the base with this one's numbers, and these rows
abbrev pub based_on : Base → List OpenRow → Base
based_on b rows = left_as (flat_map answers_at rows) (flat_map turns_at rows) (flat_map grants_at rows) (flat_map unspent_at rows) (flat_map running_at rows) b

own_map : {X : Type 0} (f : X → OpenRow) (g : OpenRow → List X) → ((x : X) → g (f x) ≡ x ∷ []) → (xs : List X) → flat_map g (map f xs) ≡ xs
own_map f g own [] = refl
own_map f g own (x ∷ xs) = let rest = own_map f g own xs in let here = own x in λ i. here i ++ rest i

other_map : {X Y : Type 0} (f : Y → OpenRow) (g : OpenRow → List X) → ((y : Y) → g (f y) ≡ []) → (ys : List Y) → flat_map g (map f ys) ≡ []
other_map f g none [] = refl
other_map f g none (y ∷ ys) = let rest = other_map f g none ys in let here = none y in λ i. here i ++ rest i

by_parts : {X : Type 0} (g : OpenRow → List X) (b : Base) (a i l u y : List X) → flat_map g (map Answered b.standing) ≡ a → flat_map g (map InFlight b.in_flight) ≡ i →
    flat_map g (map Greatest b.grants) ≡ l → flat_map g (map Unspent b.unspent) ≡ u → flat_map g (map Running b.running) ≡ y → flat_map g (rows_of b) ≡ a ++ (i ++ (l ++ (u ++ y)))
by_parts g b a i l u y p q r s t =
    let ys = map Running b.running in
    let us = map Unspent b.unspent ++ ys in
    let ls = map Greatest b.grants ++ us in
    let is_ = map InFlight b.in_flight ++ ls in
    let us_are = flat_map-append g (map Unspent b.unspent) ys in
    let ls_are = flat_map-append g (map Greatest b.grants) us in
    let is_are = flat_map-append g (map InFlight b.in_flight) ls in
    let all_are = flat_map-append g (map Answered b.standing) is_ in
    all_are ∙ (λ j. p j ++ (is_are ∙ (λ k. q k ++ (ls_are ∙ (λ m. r m ++ (us_are ∙ (λ n. s n ++ t n)) m)) k)) j)

pub answers_are : (b : Base) → flat_map answers_at (rows_of b) ≡ b.standing
answers_are b =
    by_parts answers_at b b.standing [] [] [] [] (own_map Answered answers_at (λ s. refl) b.standing) (other_map InFlight answers_at (λ t. refl) b.in_flight)
    (other_map Greatest answers_at (λ g. refl) b.grants) (other_map Unspent answers_at (λ p. refl) b.unspent) (other_map Running answers_at (λ p. refl) b.running)
    ∙ append-nil b.standing

pub turns_are : (b : Base) → flat_map turns_at (rows_of b) ≡ b.in_flight
turns_are b =
    by_parts turns_at b [] b.in_flight [] [] [] (other_map Answered turns_at (λ s. refl) b.standing) (own_map InFlight turns_at (λ t. refl) b.in_flight)
    (other_map Greatest turns_at (λ g. refl) b.grants) (other_map Unspent turns_at (λ p. refl) b.unspent) (other_map Running turns_at (λ p. refl) b.running)
    ∙ append-nil b.in_flight

pub grants_are : (b : Base) → flat_map grants_at (rows_of b) ≡ b.grants
grants_are b =
    by_parts grants_at b [] [] b.grants [] [] (other_map Answered grants_at (λ s. refl) b.standing) (other_map InFlight grants_at (λ t. refl) b.in_flight)
    (own_map Greatest grants_at (λ g. refl) b.grants) (other_map Unspent grants_at (λ p. refl) b.unspent) (other_map Running grants_at (λ p. refl) b.running)
    ∙ append-nil b.grants

pub unspent_are : (b : Base) → flat_map unspent_at (rows_of b) ≡ b.unspent
unspent_are b =
    by_parts unspent_at b [] [] [] b.unspent [] (other_map Answered unspent_at (λ s. refl) b.standing) (other_map InFlight unspent_at (λ t. refl) b.in_flight)
    (other_map Greatest unspent_at (λ g. refl) b.grants) (own_map Unspent unspent_at (λ p. refl) b.unspent) (other_map Running unspent_at (λ p. refl) b.running)
    ∙ append-nil b.unspent

pub running_are : (b : Base) → flat_map running_at (rows_of b) ≡ b.running
running_are b =
    by_parts running_at b [] [] [] [] b.running (other_map Answered running_at (λ s. refl) b.standing) (other_map InFlight running_at (λ t. refl) b.in_flight)
    (other_map Greatest running_at (λ g. refl) b.grants) (other_map Unspent running_at (λ p. refl) b.unspent) (own_map Running running_at (λ p. refl) b.running)

pub based_back : (b : Base) → based_on b (rows_of b) ≡ b
based_back b =
    let p = answers_are b in
    let q = turns_are b in
    let r = grants_are b in
    let s = unspent_are b in
    let t = running_are b in
    λ i. left_as (p i) (q i) (r i) (s i) (t i) b

-- ---- one row more

more : {X : Type 0} (g : OpenRow → List X) (b : Base) (row : OpenRow) (xs : List X) → flat_map g (rows_of b) ≡ xs → flat_map g (rows_of b ++ row ∷ []) ≡ xs ++ g row
more g b row xs are =
    flat_map-append g (rows_of b) (row ∷ []) ∙ (let last = append-nil (g row) in λ i. are i ++ last i)

pub based_push : (b : Base) (row : OpenRow) → based_on b (rows_of b ++ row ∷ []) ≡ with_row b row
based_push b row = all row
  where
    same : {X : Type 0} (g : OpenRow → List X) (r : OpenRow) (xs : List X) → flat_map g (rows_of b) ≡ xs → g r ≡ [] → flat_map g (rows_of b ++ r ∷ []) ≡ xs
    same g r xs are none = more g b r xs are ∙ ap (λ l. xs ++ l) none ∙ append-nil xs

    left : (r : OpenRow) (a : List StandingAnswer) (t : List Turn) (l : List SlotGrant) (u y : List GrantedPermit) →
        flat_map answers_at (rows_of b ++ r ∷ []) ≡ a → flat_map turns_at (rows_of b ++ r ∷ []) ≡ t → flat_map grants_at (rows_of b ++ r ∷ []) ≡ l →
        flat_map unspent_at (rows_of b ++ r ∷ []) ≡ u → flat_map running_at (rows_of b ++ r ∷ []) ≡ y → based_on b (rows_of b ++ r ∷ []) ≡ left_as a t l u y b
    left r a t l u y p q v w x = λ i. left_as (p i) (q i) (v i) (w i) (x i) b

    all : (r : OpenRow) → based_on b (rows_of b ++ r ∷ []) ≡ with_row b r
    all (Answered s) =
        let r = Answered s in
        left r _ _ _ _ _ (more answers_at b r b.standing (answers_are b)) (same turns_at r b.in_flight (turns_are b) refl) (same grants_at r b.grants (grants_are b) refl)
        (same unspent_at r b.unspent (unspent_are b) refl) (same running_at r b.running (running_are b) refl)
    all (InFlight t) =
        let r = InFlight t in
        left r _ _ _ _ _ (same answers_at r b.standing (answers_are b) refl) (more turns_at b r b.in_flight (turns_are b)) (same grants_at r b.grants (grants_are b) refl)
        (same unspent_at r b.unspent (unspent_are b) refl) (same running_at r b.running (running_are b) refl)
    all (Greatest g) =
        let r = Greatest g in
        left r _ _ _ _ _ (same answers_at r b.standing (answers_are b) refl) (same turns_at r b.in_flight (turns_are b) refl) (more grants_at b r b.grants (grants_are b))
        (same unspent_at r b.unspent (unspent_are b) refl) (same running_at r b.running (running_are b) refl)
    all (Unspent p) =
        let r = Unspent p in
        left r _ _ _ _ _ (same answers_at r b.standing (answers_are b) refl) (same turns_at r b.in_flight (turns_are b) refl) (same grants_at r b.grants (grants_are b) refl)
        (more unspent_at b r b.unspent (unspent_are b)) (same running_at r b.running (running_are b) refl)
    all (Running p) =
        let r = Running p in
        left r _ _ _ _ _ (same answers_at r b.standing (answers_are b) refl) (same turns_at r b.in_flight (turns_are b) refl) (same grants_at r b.grants (grants_are b) refl)
        (same unspent_at r b.unspent (unspent_are b) refl) (more running_at b r b.running (running_are b))

-- ---- rows sorted by kinds are those of their base

pub none_from : {X : Type 0} (g : OpenRow → List X) (j k : ℕ) → j ≤ k → ((row : OpenRow) → j ≤ kind row → g row ≡ []) → (rows : List OpenRow) → FromKind k rows → flat_map g rows ≡ []
none_from g j k at_most none [] from = refl
none_from g j k at_most none (row ∷ rows) from =
    let first = from.0 in
    let here = none row (omega arith) in
    let rest = none_from g j (kind row) (omega arith) none rows from.1 in
    λ i. here i ++ rest i

no_answer : (row : OpenRow) → 2 ≤ kind row → answers_at row ≡ []
no_answer (Answered s) later = absurd (omega arith)
no_answer (InFlight t) later = refl
no_answer (Greatest g) later = refl
no_answer (Unspent p) later = refl
no_answer (Running p) later = refl

no_turn : (row : OpenRow) → 3 ≤ kind row → turns_at row ≡ []
no_turn (Answered s) later = refl
no_turn (InFlight t) later = absurd (omega arith)
no_turn (Greatest g) later = refl
no_turn (Unspent p) later = refl
no_turn (Running p) later = refl

no_grant : (row : OpenRow) → 4 ≤ kind row → grants_at row ≡ []
no_grant (Answered s) later = refl
no_grant (InFlight t) later = refl
no_grant (Greatest g) later = absurd (omega arith)
no_grant (Unspent p) later = refl
no_grant (Running p) later = refl

no_unspent : (row : OpenRow) → 5 ≤ kind row → unspent_at row ≡ []
no_unspent (Answered s) later = refl
no_unspent (InFlight t) later = refl
no_unspent (Greatest g) later = refl
no_unspent (Unspent p) later = absurd (omega arith)
no_unspent (Running p) later = refl

pub rows_back : (b : Base) (k : ℕ) (rows : List OpenRow) → FromKind k rows → rows_of (based_on b rows) ≡ rows
rows_back b k [] from = refl
rows_back b k (Answered s ∷ rows) from = ap (λ l. Answered s ∷ l) (rows_back b 1 rows from.1)
rows_back b k (InFlight t ∷ rows) from =
    let is = based_on b rows in
    let behind : List OpenRow = map InFlight is.in_flight ++ (map Greatest is.grants ++ (map Unspent is.unspent ++ map Running is.running)) in
    let a = none_from answers_at 2 2 (omega arith) no_answer rows from.1 in
    let with_it : rows_of (based_on b (InFlight t ∷ rows)) ≡ InFlight t ∷ behind = λ i. map Answered (a i) ++ InFlight t ∷ behind in
    let without : rows_of is ≡ behind = λ i. map Answered (a i) ++ behind in
    with_it ∙ ap (λ l. InFlight t ∷ l) (sym without ∙ rows_back b 2 rows from.1)
rows_back b k (Greatest g ∷ rows) from =
    let is = based_on b rows in
    let behind : List OpenRow = map Greatest is.grants ++ (map Unspent is.unspent ++ map Running is.running) in
    let a = none_from answers_at 2 3 (omega arith) no_answer rows from.1 in
    let v = none_from turns_at 3 3 (omega arith) no_turn rows from.1 in
    let with_it : rows_of (based_on b (Greatest g ∷ rows)) ≡ Greatest g ∷ behind = λ i. map Answered (a i) ++ (map InFlight (v i) ++ Greatest g ∷ behind) in
    let without : rows_of is ≡ behind = λ i. map Answered (a i) ++ (map InFlight (v i) ++ behind) in
    with_it ∙ ap (λ l. Greatest g ∷ l) (sym without ∙ rows_back b 3 rows from.1)
rows_back b k (Unspent p ∷ rows) from =
    let is = based_on b rows in
    let behind : List OpenRow = map Unspent is.unspent ++ map Running is.running in
    let a = none_from answers_at 2 4 (omega arith) no_answer rows from.1 in
    let v = none_from turns_at 3 4 (omega arith) no_turn rows from.1 in
    let l = none_from grants_at 4 4 (omega arith) no_grant rows from.1 in
    let with_it : rows_of (based_on b (Unspent p ∷ rows)) ≡ Unspent p ∷ behind = λ i. map Answered (a i) ++ (map InFlight (v i) ++ (map Greatest (l i) ++ Unspent p ∷ behind)) in
    let without : rows_of is ≡ behind = λ i. map Answered (a i) ++ (map InFlight (v i) ++ (map Greatest (l i) ++ behind)) in
    with_it ∙ ap (λ m. Unspent p ∷ m) (sym without ∙ rows_back b 4 rows from.1)
rows_back b k (Running p ∷ rows) from =
    let is = based_on b rows in
    let behind : List OpenRow = map Running is.running in
    let a = none_from answers_at 2 5 (omega arith) no_answer rows from.1 in
    let v = none_from turns_at 3 5 (omega arith) no_turn rows from.1 in
    let l = none_from grants_at 4 5 (omega arith) no_grant rows from.1 in
    let u = none_from unspent_at 5 5 (omega arith) no_unspent rows from.1 in
    let with_it : rows_of (based_on b (Running p ∷ rows)) ≡ Running p ∷ behind = λ i. map Answered (a i) ++ (map InFlight (v i) ++ (map Greatest (l i) ++ (map Unspent (u i) ++ Running p ∷ behind))) in
    let without : rows_of is ≡ behind = λ i. map Answered (a i) ++ (map InFlight (v i) ++ (map Greatest (l i) ++ (map Unspent (u i) ++ behind))) in
    with_it ∙ ap (λ m. Running p ∷ m) (sym without ∙ rows_back b 5 rows from.1)

pub stands_behind : (b : Base) (row : OpenRow) → FromKind 0 (rows_of b ++ row ∷ []) → rows_of (with_row b row) ≡ rows_of b ++ row ∷ []
stands_behind b row from = ap rows_of (sym (based_push b row)) ∙ rows_back b 0 (rows_of b ++ row ∷ []) from

pub grants_before : (k : ℕ) (xs ys : List OpenRow) (number : ℕ) → FromKind k (xs ++ ys) → 0 < times_out (flat_map unspent_at xs) (flat_map running_at xs) number → flat_map grants_at ys ≡ []
grants_before k [] ys number from some = absurd (omega arith)
grants_before k (Answered s ∷ xs) ys number from some = grants_before 1 xs ys number from.1 some
grants_before k (InFlight t ∷ xs) ys number from some = grants_before 2 xs ys number from.1 some
grants_before k (Greatest g ∷ xs) ys number from some = grants_before 3 xs ys number from.1 some
grants_before k (Unspent p ∷ xs) ys number from some = none_from grants_at 4 4 (omega arith) no_grant ys (kinds_rest 4 xs ys from.1)
grants_before k (Running p ∷ xs) ys number from some = none_from grants_at 4 5 (omega arith) no_grant ys (kinds_rest 5 xs ys from.1)
