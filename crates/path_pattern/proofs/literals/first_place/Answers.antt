-- The literal can't end before the first place of its last octet; from there on it is searched for.
use Rattle.std.proofs.Common.{◌≡◌, ◌+◌, ◌-◌, ◌≤◌, List, ℕ, length, take, sym, subst, arith, length-take-le}
use Rattle.std.proofs.lemmas.List.{take_rest}
use Rattle.memchr.specs.Find.{FindsNeedle}
use Rattle.path_pattern.proofs.PlaceLemmas.{first_here, first_onward, found_octet, none_anywhere, none_below, none_onward, place_within}
use Rattle.path_pattern.proofs.literals.first_place.Goals as goal

all_but_last : (literal : List ℕ) → 1 ≤ length literal → length (take (length literal - 1) literal) + 1 ≡ length literal
all_but_last literal some =
    let taken = length-take-le (length literal - 1) literal (omega arith) in
    omega arith

pub returns-in-len1 : goal.returns-in-len1
returns-in-len1 c =
    let least = c.in-len1.len_at_least in
    let below = c.in-len1.len_below in
    found_octet c.args.path.now c.args.literal.now c.memchr.result (omega arith) c.memchr.ensures

pub returns-in_err-place : goal.returns-in_err-place
returns-in_err-place c =
    let literal = c.args.literal.now in
    let path = c.args.path.now in
    let front = take (length literal - 1) literal in
    let many = all_but_last literal (omega arith) in
    subst (FindsNeedle path literal 0) (sym c.from_residual.ensures) (none_anywhere path literal _ (length front) (take_rest path (length front)) many c.in_err-place.ensures)

pub returns-then-begins_with : goal.returns-then-begins_with
returns-then-begins_with c =
    let literal = c.args.literal.now in
    let path = c.args.path.now in
    let place = c.in_ok-place.place in
    let front = take (length literal - 1) literal in
    let many = all_but_last literal (omega arith) in
    let found = c.in_ok-place.ensures.0 in
    let none = none_below path literal _ (length front) place (take_rest path (length front)) many found in
    let within = place_within path literal _ (length front) place (take_rest path (length front)) found in
    first_here path literal _ place (take_rest path place) within none (c.begins_with.ensures.0 c.if-begins_with.true)

pub returns-in_err-later : goal.returns-in_err-later
returns-in_err-later c =
    let literal = c.args.literal.now in
    let path = c.args.path.now in
    let place = c.in_ok-place.place in
    let front = take (length literal - 1) literal in
    let many = all_but_last literal (omega arith) in
    let found = c.in_ok-place.ensures.0 in
    let none = none_below path literal _ (length front) place (take_rest path (length front)) many found in
    let within = place_within path literal _ (length front) place (take_rest path (length front)) found in
    subst (FindsNeedle path literal 0) (sym c.from_residual-in_err-later.ensures)
    (none_onward path literal _ place (take_rest path place) within none c.in_err-later.ensures)

pub returns : goal.returns
returns c =
    let literal = c.args.literal.now in
    let path = c.args.path.now in
    let place = c.in_ok-place.place in
    let front = take (length literal - 1) literal in
    let many = all_but_last literal (omega arith) in
    let found = c.in_ok-place.ensures.0 in
    let none = none_below path literal _ (length front) place (take_rest path (length front)) many found in
    let within = place_within path literal _ (length front) place (take_rest path (length front)) found in
    first_onward path literal _ place c.in_ok-later.later (take_rest path place) within none c.in_ok-later.ensures.0 c.in_ok-later.ensures.1
