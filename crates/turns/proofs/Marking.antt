-- What becomes of the queues when a place is marked anew.
-- Used by the answers of `Queues`.
use Rattle.std.proofs.Common.{◌≡◌, ◌+◌, ◌<◌, ℕ, zero, suc, Bool, true, false, List, [], ◌∷◌, ◌++◌, length, refl, sym, ap, subst, ◌∙◌, arith}
use Rattle.std.specs.Prelude.{◌==◌, eqb, replicate, slice_get, slice_set, Some, None, if◌then◌else◌}
use Rattle.std.proofs.lemmas.Bool.{eq-eqb, eqb-false, eqb-true}
use Rattle.turns.specs.declared.queues.PlaceMark.{PlaceMark}
use Rattle.turns.specs.declared.queues.PlaceMark.TheVariants.{Free, Waits, Parked, Quick, Slow, Ends, Served}
use Rattle.turns.specs.Marks.{IsUnlisted, Lists, is_free, is_quick, is_slow, marked, times}

-- 1 where the test holds, else 0
abbrev one : Bool → ℕ
one test = if test then 1 else 0

apart : false ≡ true → ⊥
apart same = grind (arith, same)

decide : (P : Type 0) (a b : ℕ) (test : Bool) → eqb a b ≡ test → (a ≡ b → P) → ((a ≡ b → ⊥) → P) → P
decide P a b true e holds fails = holds (eqb-true a b e)
decide P a b false e holds fails = fails (eqb-false a b e)

eqb_apart : (a b : ℕ) (test : Bool) → eqb a b ≡ test → (a ≡ b → ⊥) → eqb a b ≡ false
eqb_apart a b true e apart = absurd (apart (eqb-true a b e))
eqb_apart a b false e apart = e

one_same : (place : ℕ) → one (place == place) ≡ 1
one_same place = ap one (eq-eqb place place refl)

one_apart : (a b : ℕ) → (a ≡ b → ⊥) → one (a == b) ≡ 0
one_apart a b apart = ap one (eqb_apart a b (eqb a b) refl apart)

set_same : (test : PlaceMark → Bool) (marks : List PlaceMark) (place : ℕ) (mark : PlaceMark) → place < length marks → marked test (slice_set marks place mark) place ≡ one (test mark)
set_same test [] place mark within = absurd (omega (arith, within))
set_same test (first ∷ marks) zero mark within = refl
set_same test (first ∷ marks) (suc place) mark within = set_same test marks place mark (omega (arith, within))

set_other : (test : PlaceMark → Bool) (marks : List PlaceMark) (place other : ℕ) (mark : PlaceMark) → (place ≡ other → ⊥) → marked test (slice_set marks place mark) other ≡ marked test marks other
set_other test [] place other mark apart = refl
set_other test (first ∷ marks) zero zero mark apart = absurd (apart refl)
set_other test (first ∷ marks) zero (suc other) mark apart = refl
set_other test (first ∷ marks) (suc place) zero mark apart = refl
set_other test (first ∷ marks) (suc place) (suc other) mark apart = set_other test marks place other mark (λ same. apart (ap suc same))

times_push : (other : ℕ) (queue : List ℕ) (place : ℕ) → times other (queue ++ place ∷ []) ≡ times other queue + one (place == other)
times_push other [] place = omega arith
times_push other (first ∷ queue) place = let later = times_push other queue place in omega (arith, later)

marked_within : (test : PlaceMark → Bool) (marks : List PlaceMark) (place : ℕ) → 0 < marked test marks place → place < length marks
marked_within test [] place some = absurd (omega (arith, some))
marked_within test (first ∷ marks) zero some = omega arith
marked_within test (first ∷ marks) (suc place) some = let later = marked_within test marks place some in omega (arith, later)

most_one : (test : Bool) → one test < 2
most_one true = omega arith
most_one false = omega arith

marked_most : (test : PlaceMark → Bool) (marks : List PlaceMark) (place : ℕ) → marked test marks place < 2
marked_most test [] place = omega arith
marked_most test (first ∷ marks) zero = most_one (test first)
marked_most test (first ∷ marks) (suc place) = marked_most test marks place

nothing : (mark : PlaceMark) → None ≡ Some mark → ⊥
nothing mark at = grind (arith, at)

some_injective : (a b : PlaceMark) → Some a ≡ Some b → a ≡ b
some_injective a b at = grind (arith, at)

got_within : (marks : List PlaceMark) (place : ℕ) (mark : PlaceMark) → slice_get marks place ≡ Some mark → place < length marks
got_within [] place mark at = absurd (nothing mark at)
got_within (first ∷ marks) zero mark at = omega arith
got_within (first ∷ marks) (suc place) mark at = let later = got_within marks place mark at in omega (arith, later)

-- the mark of a place decides
pub marked_at : (test : PlaceMark → Bool) (marks : List PlaceMark) (place : ℕ) (mark : PlaceMark) → slice_get marks place ≡ Some mark → marked test marks place ≡ one (test mark)
marked_at test [] place mark at = absurd (nothing mark at)
marked_at test (first ∷ marks) zero mark at = ap (λ m. one (test m)) (some_injective first mark at)
marked_at test (first ∷ marks) (suc place) mark at = marked_at test marks place mark at

-- a place that is on fails side of the test leaves the queue as it is
pub stays : (test : PlaceMark → Bool) (marks : List PlaceMark) (queue : List ℕ) (place : ℕ) (mark : PlaceMark) → Lists test marks queue → place < length marks → marked test marks place ≡ 0 → test mark ≡ false
    → Lists test (slice_set marks place mark) queue
stays test marks queue place mark lists within none fails other =
    decide _ place other (eqb place other) refl
    (λ same. subst (λ at. times at queue ≡ marked test (slice_set marks place mark) at) same
    (let now = set_same test marks place mark within in
    let zero_now : one (test mark) ≡ 0 = ap one fails in
    let before = lists place in
    omega (arith, now, zero_now, before, none)))
    (λ apart.
    let now = set_other test marks place other mark apart in
    let before = lists other in
    omega (arith, now, before))

-- a place joins the queue
pub joins : (test : PlaceMark → Bool) (marks : List PlaceMark) (queue : List ℕ) (place : ℕ) (mark : PlaceMark) → Lists test marks queue → place < length marks → marked test marks place ≡ 0 → test mark ≡ true
    → Lists test (slice_set marks place mark) (queue ++ place ∷ [])
joins test marks queue place mark lists within none holds other =
    decide _ place other (eqb place other) refl
    (λ same. subst (λ at. times at (queue ++ place ∷ []) ≡ marked test (slice_set marks place mark) at) same
    (let now = set_same test marks place mark within in
    let one_now : one (test mark) ≡ 1 = ap one holds in
    let before = lists place in
    let pushed = times_push place queue place in
    let itself = one_same place in
    omega (arith, now, one_now, before, none, pushed, itself)))
    (λ apart.
    let now = set_other test marks place other mark apart in
    let before = lists other in
    let pushed = times_push other queue place in
    let not_it = one_apart place other apart in
    omega (arith, now, before, pushed, not_it))

-- the first place of the queue was marked so
pub is_called : (test : PlaceMark → Bool) (marks : List PlaceMark) (place : ℕ) (queue : List ℕ) → Lists test marks (place ∷ queue) → marked test marks place ≡ 1
is_called test marks place queue lists =
    let at = lists place in
    let itself = one_same place in
    let most = marked_most test marks place in
    omega (arith, at, itself, most)

pub is_within : (test : PlaceMark → Bool) (marks : List PlaceMark) (place : ℕ) (queue : List ℕ) → Lists test marks (place ∷ queue) → place < length marks
is_within test marks place queue lists =
    let called = is_called test marks place queue lists in
    marked_within test marks place (omega (arith, called))

-- the first place leaves the queue
pub leaves : (test : PlaceMark → Bool) (marks : List PlaceMark) (queue : List ℕ) (place : ℕ) (mark : PlaceMark) → Lists test marks (place ∷ queue) → test mark ≡ false → Lists test (slice_set marks place mark) queue
leaves test marks queue place mark lists fails other =
    let called = is_called test marks place queue lists in
    let within = is_within test marks place queue lists in
    decide _ place other (eqb place other) refl
    (λ same. subst (λ at. times at queue ≡ marked test (slice_set marks place mark) at) same
    (let now = set_same test marks place mark within in
    let zero_now : one (test mark) ≡ 0 = ap one fails in
    let before = lists place in
    let itself = one_same place in
    omega (arith, now, zero_now, before, called, itself)))
    (λ apart.
    let now = set_other test marks place other mark apart in
    let before = lists other in
    let not_it = one_apart place other apart in
    omega (arith, now, before, not_it))

pub quick_is_not_free : (mark : PlaceMark) → is_quick mark ≡ true → is_free mark ≡ false
quick_is_not_free Quick holds = refl
quick_is_not_free Ends holds = refl
quick_is_not_free Free holds = absurd (apart holds)
quick_is_not_free Waits holds = refl
quick_is_not_free Parked holds = refl
quick_is_not_free Slow holds = refl
quick_is_not_free Served holds = refl

pub quick_is_not_slow : (mark : PlaceMark) → is_quick mark ≡ true → is_slow mark ≡ false
quick_is_not_slow Quick holds = refl
quick_is_not_slow Ends holds = refl
quick_is_not_slow Slow holds = absurd (apart holds)
quick_is_not_slow Waits holds = refl
quick_is_not_slow Parked holds = refl
quick_is_not_slow Free holds = refl
quick_is_not_slow Served holds = refl

-- a place with a mark that is in no queue
pub unlisted : (marks : List PlaceMark) (place : ℕ) (mark : PlaceMark) → slice_get marks place ≡ Some mark → is_free mark ≡ false → is_quick mark ≡ false → is_slow mark ≡ false → IsUnlisted marks place
unlisted marks place mark at free quick slow = record {
  within = got_within marks place mark at;
  free = marked_at is_free marks place mark at ∙ ap one free;
  quick = marked_at is_quick marks place mark at ∙ ap one quick;
  slow = marked_at is_slow marks place mark at ∙ ap one slow;
}

only_here : (test other : Bool) → (test ≡ true → other ≡ false) → one test ≡ 1 → one other ≡ 0
only_here true other apart one_here = ap one (apart refl)
only_here false other apart one_here = absurd (omega (arith, one_here))

-- a place that is marked one way is not marked another way
only : (test other : PlaceMark → Bool) → ((mark : PlaceMark) → test mark ≡ true → other mark ≡ false) → (marks : List PlaceMark) (place : ℕ) → marked test marks place ≡ 1 → marked other marks place ≡ 0
only test other apart [] place one_here = refl
only test other apart (first ∷ marks) zero one_here = only_here (test first) (other first) (apart first) one_here
only test other apart (first ∷ marks) (suc place) one_here = only test other apart marks place one_here

-- what leaves the one queue, to be served, leaves the other as it is
keeps : (test other : PlaceMark → Bool) → ((mark : PlaceMark) → test mark ≡ true → other mark ≡ false) → (marks : List PlaceMark) (place : ℕ) (queue others : List ℕ) → Lists test marks (place ∷ queue) → Lists other marks others → other Served ≡ false
    → Lists other (slice_set marks place Served) others
keeps test other apart marks place queue others lists kept fails =
    stays other marks others place Served kept (is_within test marks place queue lists) (only test other apart marks place (is_called test marks place queue lists)) fails

-- a queue as it was, with its first place at the front
pub with_first : (test : PlaceMark → Bool) (marks : List PlaceMark) (old new : List ℕ) (place : ℕ) → old ≡ place ∷ new → Lists test marks old → Lists test marks (place ∷ new)
with_first test marks old new place same lists = subst (λ queue. Lists test marks queue) same lists

pub quick_leaves_free : (marks : List PlaceMark) (place : ℕ) (queue others : List ℕ) → Lists is_quick marks (place ∷ queue) → Lists is_free marks others → Lists is_free (slice_set marks place Served) others
quick_leaves_free marks place queue others lists kept = keeps is_quick is_free quick_is_not_free marks place queue others lists kept refl

pub quick_leaves_slow : (marks : List PlaceMark) (place : ℕ) (queue others : List ℕ) → Lists is_quick marks (place ∷ queue) → Lists is_slow marks others → Lists is_slow (slice_set marks place Served) others
quick_leaves_slow marks place queue others lists kept = keeps is_quick is_slow quick_is_not_slow marks place queue others lists kept refl

slow_is_not_free : (mark : PlaceMark) → is_slow mark ≡ true → is_free mark ≡ false
slow_is_not_free Slow holds = refl
slow_is_not_free Quick holds = refl
slow_is_not_free Ends holds = refl
slow_is_not_free Free holds = absurd (apart holds)
slow_is_not_free Waits holds = refl
slow_is_not_free Parked holds = refl
slow_is_not_free Served holds = refl

slow_is_not_quick : (mark : PlaceMark) → is_slow mark ≡ true → is_quick mark ≡ false
slow_is_not_quick Slow holds = refl
slow_is_not_quick Quick holds = absurd (apart holds)
slow_is_not_quick Ends holds = absurd (apart holds)
slow_is_not_quick Free holds = refl
slow_is_not_quick Waits holds = refl
slow_is_not_quick Parked holds = refl
slow_is_not_quick Served holds = refl

pub slow_leaves_free : (marks : List PlaceMark) (place : ℕ) (queue others : List ℕ) → Lists is_slow marks (place ∷ queue) → Lists is_free marks others → Lists is_free (slice_set marks place Served) others
slow_leaves_free marks place queue others lists kept = keeps is_slow is_free slow_is_not_free marks place queue others lists kept refl

pub slow_leaves_quick : (marks : List PlaceMark) (place : ℕ) (queue others : List ℕ) → Lists is_slow marks (place ∷ queue) → Lists is_quick marks others → Lists is_quick (slice_set marks place Served) others
slow_leaves_quick marks place queue others lists kept = keeps is_slow is_quick slow_is_not_quick marks place queue others lists kept refl

free_is_not_quick : (mark : PlaceMark) → is_free mark ≡ true → is_quick mark ≡ false
free_is_not_quick Slow holds = refl
free_is_not_quick Quick holds = absurd (apart holds)
free_is_not_quick Ends holds = absurd (apart holds)
free_is_not_quick Free holds = refl
free_is_not_quick Waits holds = refl
free_is_not_quick Parked holds = refl
free_is_not_quick Served holds = refl

free_is_not_slow : (mark : PlaceMark) → is_free mark ≡ true → is_slow mark ≡ false
free_is_not_slow Slow holds = absurd (apart holds)
free_is_not_slow Quick holds = refl
free_is_not_slow Ends holds = refl
free_is_not_slow Free holds = refl
free_is_not_slow Waits holds = refl
free_is_not_slow Parked holds = refl
free_is_not_slow Served holds = refl

pub free_leaves_quick : (marks : List PlaceMark) (place : ℕ) (queue others : List ℕ) → Lists is_free marks (place ∷ queue) → Lists is_quick marks others → Lists is_quick (slice_set marks place Served) others
free_leaves_quick marks place queue others lists kept = keeps is_free is_quick free_is_not_quick marks place queue others lists kept refl

pub free_leaves_slow : (marks : List PlaceMark) (place : ℕ) (queue others : List ℕ) → Lists is_free marks (place ∷ queue) → Lists is_slow marks others → Lists is_slow (slice_set marks place Served) others
free_leaves_slow marks place queue others lists kept = keeps is_free is_slow free_is_not_slow marks place queue others lists kept refl

-- where all are marked so, none is marked otherwise
pub none_marked : (test : PlaceMark → Bool) (mark : PlaceMark) → test mark ≡ false → (count : ℕ) → Lists test (replicate count mark) []
none_marked test mark fails zero place = refl
none_marked test mark fails (suc count) zero = sym (ap one fails)
none_marked test mark fails (suc count) (suc place) = none_marked test mark fails count place
