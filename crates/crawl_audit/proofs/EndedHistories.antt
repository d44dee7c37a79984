-- What a base left open is ended in turn: each end is legal after those before it, and nothing is open at last.
-- Used by `recovering`.
use Rattle.std.proofs.Common.{◌≡◌, ℕ, ◌≤◌, ◌==◌, Bool, true, false, cond, not, ◌&&◌, ◌||◌, List, [], ◌∷◌, ◌++◌, filter, length, map, refl, sym, ap, ◌∙◌, arith, true≢false}
use Rattle.std.specs.List.{list_any}
use Rattle.std.specs.Str.{bytes_eq}
use Rattle.permit_book.specs.declared.granted_permit.GrantedPermit.{GrantedPermit}
use Rattle.permit_book.proofs.CallerLemmas.{same_number}
use Rattle.authority_cache.specs.declared.turn.Turn.{Turn}
use Rattle.authority_cache.specs.Calls.{one_if}
use Rattle.authority_cache.proofs.CallerLemmas.{count-cons}
use Rattle.gate_history.specs.declared.entry.Entry.{Entry}
use Rattle.gate_history.specs.declared.entry.Entry.TheVariants.{Finished, Returned}
use Rattle.gate_history.specs.Base.{Base, IsBase}
use Rattle.gate_history.specs.History.{History, ◌▸◌, followed_by, from, now}
use Rattle.gate_history.specs.Outstanding.{running, unspent}
use Rattle.gate_history.specs.Seal.{SaysAs}
use Rattle.gate_history.specs.Standing.{in_flight}
use Rattle.crawl_audit.specs.Ending.{AllFollow, ends_of, finish, give_back, unanswered}
use Rattle.gate_history.proofs.CallerLemmas.{same_text}

-- ---- lists with the same elements

-- as many of both lists pass each test
abbrev pub Same : {X : Type 0} → List X → List X → Type 0
Same {X} xs ys = (test : X → Bool) → length (filter test xs) ≡ length (filter test ys)

-- each key occurs at most once
abbrev pub Once : {X : Type 0} → (X → ℕ) → List X → Type 0
Once key xs = (n : ℕ) → length (filter (λ x. key x == n) xs) ≤ 1

pub none_left : {X : Type 0} (ys : List X) → ((test : X → Bool) → length (filter test ys) ≡ 0) → ys ≡ []
none_left [] none = refl
none_left (y ∷ ys) none = absurd (omega (arith, none (λ _. true)))

count_both : {X : Type 0} (p q : X → Bool) (xs : List X) → length (filter p (filter q xs)) ≡ length (filter (λ x. q x && p x) xs)
count_both p q [] = refl
count_both p q (x ∷ xs) = by (q x) (count_both p q xs)
  where
    by : (b : Bool) → length (filter p (filter q xs)) ≡ length (filter (λ y. q y && p y) xs) →
        length (filter p (cond b (x ∷ filter q xs) (filter q xs))) ≡ length (cond (b && p x) (x ∷ filter (λ y. q y && p y) xs) (filter (λ y. q y && p y) xs))
    by true rest = both (p x)
      where
        both : (a : Bool) → length (cond a (x ∷ filter p (filter q xs)) (filter p (filter q xs))) ≡ length (cond a (x ∷ filter (λ y. q y && p y) xs) (filter (λ y. q y && p y) xs))
        both true = omega (arith, rest)
        both false = rest
    by false rest = rest

count_others : {X : Type 0} (p q : X → Bool) (xs : List X) → length (filter q xs) ≡ 0 → length (filter (λ x. not (q x) && p x) xs) ≡ length (filter p xs)
count_others p q [] none = refl
count_others p q (x ∷ xs) none = by (q x) none (count_others p q xs)
  where
    by : (b : Bool) → length (cond b (x ∷ filter q xs) (filter q xs)) ≡ 0 → (length (filter q xs) ≡ 0 → length (filter (λ y. not (q y) && p y) xs) ≡ length (filter p xs)) →
        length (cond (not b && p x) (x ∷ filter (λ y. not (q y) && p y) xs) (filter (λ y. not (q y) && p y) xs)) ≡ length (filter p (x ∷ xs))
    by true none rest = absurd (omega (arith, none))
    by false none rest = both (p x)
      where
        both : (a : Bool) → length (cond a (x ∷ filter (λ y. not (q y) && p y) xs) (filter (λ y. not (q y) && p y) xs)) ≡ length (cond a (x ∷ filter p xs) (filter p xs))
        both true = omega (arith, rest none)
        both false = rest none

none_passes : {X : Type 0} (p : X → Bool) (xs : List X) → list_any p xs ≡ false → length (filter p xs) ≡ 0
none_passes p [] none = refl
none_passes p (x ∷ xs) none = by (p x) none (none_passes p xs)
  where
    by : (b : Bool) → (b || list_any p xs) ≡ false → (list_any p xs ≡ false → length (filter p xs) ≡ 0) → length (cond b (x ∷ filter p xs) (filter p xs)) ≡ 0
    by true none rest = absurd (true≢false none)
    by false none rest = rest none

module _ {X : Type 0} (key : X → ℕ) (x : X) (xs ys : List X) (same : Same (x ∷ xs) ys) where
  found : (p : X → Bool) → p x ≡ true → list_any p ys ≡ true
  found p passes = by (list_any p ys) refl
    where
      by : (b : Bool) → list_any p ys ≡ b → list_any p ys ≡ true
      by true is = is
      by false is =
          let one : one_if (p x) ≡ 1 = ap one_if passes in
          absurd (omega (arith, same p, none_passes p ys is, count-cons p x xs, one))

  -- without the pair, equally many of the rest pass each test
  same_rest : Once key (x ∷ xs) → Same xs (filter (λ y. not (key y == key x)) ys)
  same_rest once = λ p.
      let q : X → Bool = λ y. key y == key x in
      let here : one_if (key x == key x) ≡ 1 = ap one_if (same_number (key x)) in
      let alone : length (filter q xs) ≡ 0 = omega (arith, once (key x), count-cons q x xs, here) in
      let less : one_if (not (key x == key x) && p x) ≡ 0 = ap (λ b. one_if (not b && p x)) (same_number (key x)) in
      sym (count_both p (λ y. not (key y == key x)) ys ∙ sym (same (λ y. not (key y == key x) && p y))
      ∙ omega (arith, count-cons (λ y. not (key y == key x) && p y) x xs, less, count_others p q xs alone))

once_rest : {X : Type 0} (key : X → ℕ) (x : X) (xs : List X) → Once key (x ∷ xs) → Once key xs
once_rest key x xs once = λ n. omega (arith, once n, count-cons (λ y. key y == n) x xs)

-- ---- entries in turn

pub followed_then : (h : History) (ds es : List Entry) → followed_by h (ds ++ es) ≡ followed_by (followed_by h ds) es
followed_then h [] es = refl
followed_then h (d ∷ ds) es = followed_then (h ▸ d) ds es

follow_then : (h : History) (ds es : List Entry) → AllFollow h ds → AllFollow (followed_by h ds) es → AllFollow h (ds ++ es)
follow_then h [] es first then = then
follow_then h (d ∷ ds) es first then = (first.0, follow_then (h ▸ d) ds es first.1 then)

-- ---- permits that are given back

record Gives (h g : History) : Type 0 where
  none : unspent g ≡ []
  runs : running g ≡ running h
  turns : in_flight g ≡ in_flight h
  moment : now g ≤ now h

gives : (ps : List GrantedPermit) (h : History) → Same ps (unspent h) → Once (λ p. p.number) ps → AllFollow h (map give_back ps) × Gives h (followed_by h (map give_back ps))
gives [] h same once = (tt, record { none = none_left (unspent h) (λ test. sym (same test)); runs = refl; turns = refl; moment = omega arith })
gives (p ∷ ps) h same once =
    let rest = gives ps (h ▸ Returned p.number) (same_rest (λ q. q.number) p ps (unspent h) same once) (once_rest (λ q. q.number) p ps once) in
    let then = rest.1 in (
      (found (λ q. q.number) p ps (unspent h) same (λ q. q.number == p.number) (same_number p.number), rest.0),
      record { none = then.none; runs = then.runs; turns = then.turns; moment = let m = then.moment in omega (arith, m) },
    )

-- ---- fetches that end

record Finishes (h g : History) : Type 0 where
  none : running g ≡ []
  permits : unspent g ≡ unspent h
  turns : in_flight g ≡ in_flight h
  moment : now g ≤ now h

finishes : (ps : List GrantedPermit) (h : History) → Same ps (running h) → Once (λ p. p.number) ps → AllFollow h (map finish ps) × Finishes h (followed_by h (map finish ps))
finishes [] h same once = (tt, record { none = none_left (running h) (λ test. sym (same test)); permits = refl; turns = refl; moment = omega arith })
finishes (p ∷ ps) h same once =
    let rest = finishes ps (h ▸ Finished p.number) (same_rest (λ q. q.number) p ps (running h) same once) (once_rest (λ q. q.number) p ps once) in
    let then = rest.1 in (
      (found (λ q. q.number) p ps (running h) same (λ q. q.number == p.number) (same_number p.number), rest.0),
      record { none = then.none; permits = then.permits; turns = then.turns; moment = let m = then.moment in omega (arith, m) },
    )

-- ---- turns without an answer

record Answers (h g : History) : Type 0 where
  none : in_flight g ≡ []
  permits : unspent g ≡ unspent h
  runs : running g ≡ running h

answers : (moment : ℕ) (ts : List Turn) (h : History) → now h ≤ moment → Same ts (in_flight h) → Once (λ t. t.turn) ts → AllFollow h (map (unanswered moment) ts) × Answers h (followed_by h (map (unanswered moment) ts))
answers moment [] h late same once = (tt, record { none = none_left (in_flight h) (λ test. sym (same test)); permits = refl; runs = refl })
answers moment (t ∷ ts) h late same once =
    let rest = answers moment ts (h ▸ unanswered moment t) (omega (arith, late)) (same_rest (λ u. u.turn) t ts (in_flight h) same once) (once_rest (λ u. u.turn) t ts once) in
    let then = rest.1 in (
      (
        (
          late,
          found (λ u. u.turn) t ts (in_flight h) same (λ u. u.turn == t.turn && bytes_eq u.authority t.authority)
              (ap (λ b. b && bytes_eq t.authority t.authority) (same_number t.turn) ∙ same_text t.authority),
          refl,
        ),
        rest.0,
      ),
      record { none = then.none; permits = then.permits; runs = then.runs },
    )

-- ---- all of a base

-- nothing is outstanding after the history
pub record IsIdle (h : History) : Type 0 where
  pub permits : unspent h ≡ []
  pub runs : running h ≡ []
  pub turns : in_flight h ≡ []

pub ended : (b : Base) (h : History) → IsBase b → SaysAs (from b) h → AllFollow h (ends_of b) × IsIdle (followed_by h (ends_of b))
ended b h is says =
    let out = is.permits in
    let turned = is.turns in
    let permits = says.permits in
    let runs = says.runs in
    let turns = says.turns in
    let moment = says.moment in
    let first = gives b.unspent h permits.counts (λ n. omega (arith, out.numbers_once n)) in
    let g = followed_by h (map give_back b.unspent) in
    let gave = first.1 in
    let second = finishes b.running g (λ test. runs.counts test ∙ ap (λ ps. length (filter test ps)) (sym gave.runs)) (λ n. omega (arith, out.numbers_once n)) in
    let f = followed_by g (map finish b.running) in
    let done = second.1 in
    let third = answers b.moment b.in_flight f (omega (arith, gave.moment, done.moment, moment))
    (λ test. turns.counts test ∙ ap (λ ts. length (filter test ts)) (sym (done.turns ∙ gave.turns))) (λ n. omega (arith, turned.turns_once n)) in
    let last = third.1 in
    let whole : followed_by h (ends_of b) ≡ followed_by f (map (unanswered b.moment) b.in_flight) =
    followed_then h (map give_back b.unspent) (map finish b.running ++ map (unanswered b.moment) b.in_flight)
    ∙ followed_then g (map finish b.running) (map (unanswered b.moment) b.in_flight) in (
      follow_then h (map give_back b.unspent) (map finish b.running ++ map (unanswered b.moment) b.in_flight) first.0
          (follow_then g (map finish b.running) (map (unanswered b.moment) b.in_flight) second.0 third.0),
      record {
        permits = ap unspent whole ∙ last.permits ∙ done.permits ∙ gave.none;
        runs = ap running whole ∙ last.runs ∙ done.none;
        turns = ap in_flight whole ∙ last.none;
      },
    )
