-- Where a literal occurs in a path, by the places that a search gives.
-- Used by `after_first`, `after_start`, `ends_with` and `first_place`.
use Rattle.std.proofs.Common.{◌≡◌, ℕ, ◌+◌, ◌-◌, ◌<◌, ◌≤◌, List, [], ◌++◌, length, take, drop, get_or, append-nil, refl, sym, ap, ◌∙◌, subst, arith, length-append, length-drop}
use Rattle.std.proofs.lemmas.Bool.{eq-eqb}
use Rattle.std.proofs.lemmas.List.{take-append-drop, drop-drop, get_or-drop}
use Rattle.std.proofs.Math.Seq.{take-append_seam, drop-append_seam, drop-append-add}
use Rattle.std.proofs.Math.ListN.{drop_of_length-le}
use Rattle.std.specs.Prelude.{Option, None, Some}
use Rattle.memchr.specs.Find.{FindsNeedle, IsFirstByte, NoneBefore, Nowhere, OccursAt, Passes, is_byte}
use Rattle.memchr.proofs.lemmas.FindLemmas.{Nowhere-then, OccursAt-byte, byte-OccursAt}
use Rattle.memchr.proofs.lemmas.MatchLemmas.{OccursAt-split, OccursAt-from_part}
use Rattle.path_pattern.specs.Literals.{BeginsNot, IsAfterFirst, StandsNowhere}

cut_at : (path literal : List ℕ) (place : ℕ) → OccursAt path literal place → path ≡ take place path ++ (literal ++ drop (place + length literal) path)
cut_at path literal place occurs =
    sym (take-append-drop place path) ∙ ap (λ t. take place path ++ t) (OccursAt-split path literal place occurs)

place_of : (path literal front rest : List ℕ) → path ≡ front ++ (literal ++ rest) → OccursAt path literal (length front)
place_of path literal front rest is =
    let lengths = ap length is ∙ length-append front (literal ++ rest) in
    let parts = length-append literal rest in
    let from : drop (length front) path ≡ literal ++ rest = ap (drop (length front)) is ∙ drop-append_seam front (literal ++ rest) in
    OccursAt-from_part path literal (length front) (omega arith) (ap (take (length literal)) from ∙ take-append_seam literal rest)

rest_of : (path literal front rest : List ℕ) → path ≡ front ++ (literal ++ rest) → drop (length front + length literal) path ≡ rest
rest_of path literal front rest is =
    ap (drop (length front + length literal)) is ∙ drop-append-add front (literal ++ rest) (length literal) ∙ drop-append_seam literal rest

pub after_place : (path literal : List ℕ) (place : ℕ) → NoneBefore (OccursAt path literal) 0 (length path + 1) place → OccursAt path literal place → IsAfterFirst path literal (drop (place + length literal) path)
after_place path literal place none occurs = record {
  front = take place path;
  stands = cut_at path literal place occurs;
  first = λ other after is.
      let at = place_of path literal other after is in
      let not_before : length other < place → ⊥ = λ before. none.before (length other) (omega arith) before at in
      let le : place ≤ length other = omega arith in
      let rest = drop (place + length literal) path in
      let skip = length other - place in
      let same : place + length literal + skip ≡ length other + length literal = omega arith in
      let tail : drop skip rest ≡ after = drop-drop skip (place + length literal) path ∙ ap (λ n. drop n path) same ∙ rest_of path literal other after is in
      (take skip rest, sym (take-append-drop skip rest) ∙ ap (λ t. take skip rest ++ t) tail);
}

pub nowhere_from : (path literal : List ℕ) → Nowhere (OccursAt path literal) 0 (length path + 1) → StandsNowhere path literal
nowhere_from path literal none front rest is =
    let lengths = ap length is ∙ length-append front (literal ++ rest) in
    none (length front) (omega arith) (omega arith) (place_of path literal front rest is)

pub begun : (path literal : List ℕ) → OccursAt path literal 0 → path ≡ literal ++ drop (length literal) path
begun path literal occurs =
    let same : 0 + length literal ≡ length literal = omega arith in
    OccursAt-split path literal 0 occurs ∙ ap (λ n. literal ++ drop n path) same

pub not_begun : (path literal : List ℕ) → (OccursAt path literal 0 → ⊥) → BeginsNot path literal
not_begun path literal none rest is = none (place_of path literal [] rest is)

pub ended : (path literal : List ℕ) → length literal ≤ length path → OccursAt path literal (length path - length literal) → (front : List ℕ) × (path ≡ front ++ literal)
ended path literal fits occurs =
    let place = length path - length literal in
    let past : length path ≤ place + length literal = omega arith in
    (take place path, cut_at path literal place occurs ∙ ap (λ t. take place path ++ (literal ++ t)) (drop_of_length-le path past) ∙ ap (λ t. take place path ++ t) (append-nil literal))

pub at_end : (path literal front : List ℕ) → path ≡ front ++ literal → (length literal ≤ length path) × OccursAt path literal (length path - length literal)
at_end path literal front is =
    let lengths = ap length is ∙ length-append front literal in
    let place : length front ≡ length path - length literal = omega arith in
    (omega arith, subst (OccursAt path literal) place (place_of path literal front [] (is ∙ ap (λ t. front ++ t) (sym (append-nil literal)))))

-- ---- the last octet of a literal, in the part of the path after as many octets as precede it

last_octet : (path literal part : List ℕ) (before place : ℕ) → part ≡ drop before path → before + 1 ≡ length literal → OccursAt path literal place → Passes (is_byte (get_or literal (length literal - 1) 0)) part place
last_octet path literal part before place is many occurs =
    let there : before + place ≡ place + before = omega arith in
    let last : before ≡ length literal - 1 = omega arith in
    eq-eqb _ _ (
    ap (λ p. get_or p place 0) is
    ∙ get_or-drop before path place 0
    ∙ ap (λ k. get_or path k 0) there
    ∙ occurs.reads before (omega arith)
    ∙ ap (λ k. get_or literal k 0) last
    )

pub none_below : (path literal part : List ℕ) (before place : ℕ) → part ≡ drop before path → before + 1 ≡ length literal → NoneBefore (Passes (is_byte (get_or literal (length literal - 1) 0)) part) 0 (length part) place → Nowhere (OccursAt path literal) 0 place
none_below path literal part before place is many none at low high occurs =
    none.before at low high (last_octet path literal part before at is many occurs)

pub place_within : (path literal part : List ℕ) (before place : ℕ) → part ≡ drop before path → NoneBefore (Passes (is_byte (get_or literal (length literal - 1) 0)) part) 0 (length part) place → place ≤ length path
place_within path literal part before place is none =
    let high = none.high in
    let lengths = ap length is ∙ length-drop before path in
    omega arith

pub none_anywhere : (path literal part : List ℕ) (before : ℕ) → part ≡ drop before path → before + 1 ≡ length literal → Nowhere (Passes (is_byte (get_or literal (length literal - 1) 0)) part) 0 (length part) → Nowhere (OccursAt path literal) 0 (length path + 1)
none_anywhere path literal part before is many none at low high occurs =
    let fits = occurs.fits in
    let lengths = ap length is ∙ length-drop before path in
    none at low (omega arith) (last_octet path literal part before at is many occurs)

-- ---- places in the part of the path from a place on

pub onward : (path literal part : List ℕ) (place later : ℕ) → part ≡ drop place path → place ≤ length path → OccursAt part literal later → OccursAt path literal (place + later)
onward path literal part place later is within occurs =
    let fits = occurs.fits in
    let lengths = ap length is ∙ length-drop place path in
    record {
      fits = omega arith;
      reads = λ j below.
          let there : place + later + j ≡ place + (later + j) = omega arith in
          ap (λ k. get_or path k 0) there ∙ sym (get_or-drop place path (later + j) 0) ∙ ap (λ p. get_or p (later + j) 0) (sym is) ∙ occurs.reads j below;
    }

pub backward : (path literal part : List ℕ) (place at : ℕ) → part ≡ drop place path → place ≤ at → OccursAt path literal at → OccursAt part literal (at - place)
backward path literal part place at is past occurs =
    let fits = occurs.fits in
    let lengths = ap length is ∙ length-drop place path in
    record {
      fits = omega arith;
      reads = λ j below.
          let there : place + (at - place + j) ≡ at + j = omega arith in
          ap (λ p. get_or p (at - place + j) 0) is ∙ get_or-drop place path (at - place + j) 0 ∙ ap (λ k. get_or path k 0) there ∙ occurs.reads j below;
    }

none_until : (path literal part : List ℕ) (place later end : ℕ) → part ≡ drop place path → end ≡ place + later → Nowhere (OccursAt path literal) 0 place → Nowhere (OccursAt part literal) 0 later → Nowhere (OccursAt path literal) 0 end
none_until path literal part place later end is sum none none_later =
    Nowhere-then none (λ at low high occurs. none_later (at - place) (omega arith) (omega arith) (backward path literal part place at is low occurs))

first_from : (path literal part : List ℕ) (place later end : ℕ) → part ≡ drop place path → place ≤ length path → end ≡ place + later → Nowhere (OccursAt path literal) 0 place → Nowhere (OccursAt part literal) 0 later → OccursAt part literal later → NoneBefore (OccursAt path literal) 0 (length path + 1) end × OccursAt path literal end
first_from path literal part place later end is within sum none none_later occurs =
    let there = subst (OccursAt path literal) (sym sum) (onward path literal part place later is within occurs) in
    let fits = there.fits in
    (record { low = omega arith; high = omega arith; before = none_until path literal part place later end is sum none none_later }, there)

pub none_onward : (path literal part : List ℕ) (place : ℕ) → part ≡ drop place path → place ≤ length path → Nowhere (OccursAt path literal) 0 place → Nowhere (OccursAt part literal) 0 (length part + 1) → Nowhere (OccursAt path literal) 0 (length path + 1)
none_onward path literal part place is within none none_later =
    let lengths = ap length is ∙ length-drop place path in
    none_until path literal part place (length part + 1) (length path + 1) is (omega arith) none none_later

pub first_here : (path literal part : List ℕ) (place : ℕ) → part ≡ drop place path → place ≤ length path → Nowhere (OccursAt path literal) 0 place → OccursAt part literal 0 → NoneBefore (OccursAt path literal) 0 (length path + 1) place × OccursAt path literal place
first_here path literal part place is within none occurs =
    first_from path literal part place 0 place is within (omega arith) none (λ at low below. absurd (omega arith)) occurs

pub first_onward : (path literal part : List ℕ) (place later : ℕ) → part ≡ drop place path → place ≤ length path → Nowhere (OccursAt path literal) 0 place → NoneBefore (OccursAt part literal) 0 (length part + 1) later → OccursAt part literal later → NoneBefore (OccursAt path literal) 0 (length path + 1) (place + later) × OccursAt path literal (place + later)
first_onward path literal part place later is within none none_later occurs =
    first_from path literal part place later (place + later) is within (omega arith) none none_later.before occurs

pub left_nowhere : (path literal : List ℕ) (place : ℕ) → place ≤ length path → Nowhere (OccursAt path literal) place (length path + 1) → Nowhere (OccursAt (drop place path) literal) 0 (length (drop place path) + 1)
left_nowhere path literal place within none at low high occurs =
    let lengths = length-drop place path in
    none (place + at) (omega arith) (omega arith) (onward path literal (drop place path) place at refl within occurs)

pub left_first : (path literal : List ℕ) (place first : ℕ) → place ≤ length path → NoneBefore (OccursAt path literal) place (length path + 1) first × OccursAt path literal first
    → NoneBefore (OccursAt (drop place path) literal) 0 (length (drop place path) + 1) (first - place) × OccursAt (drop place path) literal (first - place)
left_first path literal place first within found =
    let lengths = length-drop place path in
    let low = found.0.low in
    let high = found.0.high in (
      record { low = omega arith; high = omega arith; before = λ at from below occurs. found.0.before (place + at) (omega arith) (omega arith) (onward path literal (drop place path) place at refl within occurs) },
      backward path literal (drop place path) place first refl low found.1,
    )

pub from_nowhere : (path literal : List ℕ) (place : ℕ) → place ≤ length path → FindsNeedle (drop place path) literal 0 None → FindsNeedle path literal place None
from_nowhere path literal place within none at low high occurs =
    let lengths = length-drop place path in
    let fits = occurs.fits in
    none (at - place) (omega arith) (omega (arith, lengths, low, fits)) (backward path literal (drop place path) place at refl low occurs)

pub from_first : (path literal : List ℕ) (place first : ℕ) → place ≤ length path → FindsNeedle (drop place path) literal 0 (Some first) → FindsNeedle path literal place (Some (place + first))
from_first path literal place first within found =
    let lengths = length-drop place path in
    let high = found.0.high in (
      record { low = omega arith; high = omega (arith, high, lengths, within); before = λ at low below occurs. found.0.before (at - place) (omega arith) (omega (arith, low, below)) (backward path literal (drop place path) place at refl low occurs) },
      onward path literal (drop place path) place first refl within found.1,
    )

pub nowhere_after : (path literal : List ℕ) (place : ℕ) → place ≤ length path → FindsNeedle path literal place None → StandsNowhere (drop place path) literal
nowhere_after path literal place within none = nowhere_from (drop place path) literal (left_nowhere path literal place within none)

pub after_from : (path literal : List ℕ) (place first : ℕ) → place ≤ length path → FindsNeedle path literal place (Some first) → IsAfterFirst (drop place path) literal (drop (first + length literal) path)
after_from path literal place first within found =
    let there = left_first path literal place first within found in
    let low = found.0.low in
    let sum : place + (first - place + length literal) ≡ first + length literal = omega (arith, low) in
    subst (IsAfterFirst (drop place path) literal) (drop-drop (first - place + length literal) place path ∙ ap (λ n. drop n path) sum) (after_place (drop place path) literal (first - place) there.0 there.1)

-- ---- a literal of one octet

pub found_octet : (path literal : List ℕ) (found : Option ℕ) → length literal ≡ 1 → IsFirstByte (is_byte (get_or literal 0 0)) path found → FindsNeedle path literal 0 found
found_octet path literal None one none =
    λ at low high occurs.
    let fits = occurs.fits in
    none at low (omega arith) (byte-OccursAt path literal one at occurs)
found_octet path literal (Some place) one found =
    let high = found.0.high in (
      record { low = omega arith; high = omega arith; before = λ at low below occurs. found.0.before at low below (byte-OccursAt path literal one at occurs) },
      OccursAt-byte path literal one place high found.1,
    )
