-- A text in normal form is its own normal form.
-- Used by `normal_path` and `normal_pattern`.
use Rattle.std.proofs.Common.{◌≡◌, ℕ, ◌+◌, ◌-◌, ◌*◌, ◌/◌, ◌%◌, ◌<◌, Bool, true, false, not, ◌&&◌, ◌||◌, ◌==◌, List, [], ◌∷◌, ◌++◌, length, get_or, take, drop, map, All, zero, suc, refl, sym, ap, ◌∙◌, ◌≤◌, append-nil, arith, length-append, eqb-true, None, Some}
use Rattle.std.specs.Prelude.{codes, if◌then◌else◌, nat_lt}
use Rattle.std.specs.List.{flat_map, list_any, position, position_or_len}
use Rattle.std.specs.Char.{digit_value, is_digit}
use Rattle.std.specs.Fmt.{digit_glyph}
use Rattle.std.proofs.lemmas.Bool.{cond-true, cond-false, and_parts, agree_below_at, true≢false}
use Rattle.std.proofs.lemmas.Bool.Decides.{nat_tests}
use Rattle.std.proofs.lemmas.List.Elements.{All-nil, All-cons, All-head, All-tail, All-append, All-get_or, All-take}
use Rattle.std.proofs.lemmas.List.{length-take, take_all, take_more}
use Rattle.std.proofs.lemmas.List.Sums.{fails_before_first, prefix_len-le-length}
use Rattle.std.proofs.Math.Seq.{take-append_seam}
use Rattle.percent_encoding.specs.Percent.{percent_encode_byte}
use Rattle.path_normal.specs.declared.normal.Octet.{Octet}
use Rattle.path_normal.specs.declared.normal.Role.{Role}
use Rattle.path_normal.specs.declared.normal.Role.TheVariants.{Pattern}
use Rattle.path_normal.specs.Normal.{octet_escaped, is_anchored, is_changed, is_escape, is_kept, is_kept_pattern, is_reserved, is_sign, is_unreserved, normal, normal_pattern, plain, spelled, unanchored, units}
use Rattle.path_normal.specs.Octets.{dollar_sign}
use Rattle.url.specs.Ascii.{percent_sign}

abbrev pub IsOctet : ℕ → Type 0
IsOctet octet = octet < 256

abbrev IsUnit : Octet → Type 0
IsUnit unit = IsOctet unit.value

-- ---- the units of a text of octets stand for octets

escaped_fits : (octet high low : ℕ) → is_escape octet high low ≡ true → IsUnit (octet_escaped high low)
escaped_fits octet high low is =
    let parts = and_parts (octet == percent_sign && is_digit high 16) (is_digit low 16) is in
    let first = and_parts (octet == percent_sign) (is_digit high 16) parts.0 in
    let high_fits : digit_value high < 16 = grind (arith, nat_tests) in
    let low_fits : digit_value low < 16 = grind (arith, nat_tests) in
    omega arith

chosen : (is : Bool) (octet high low : ℕ) (after other : List Octet) → is_escape octet high low ≡ is → IsOctet octet → All IsUnit after → All IsUnit other → All IsUnit (if is then octet_escaped high low ∷ after else plain octet ∷ other)
chosen true octet high low after other tested fits all all' = All-cons IsUnit (octet_escaped high low) after (escaped_fits octet high low tested) all
chosen false octet high low after other tested fits all all' = All-cons IsUnit (plain octet) other fits all'

units_fit : (text : List ℕ) → All IsOctet text → All IsUnit (units text)
units_fit [] all = All-nil IsUnit
units_fit (octet ∷ []) all = All-cons IsUnit (plain octet) [] (All-head IsOctet octet [] all) (All-nil IsUnit)
units_fit (octet ∷ next ∷ []) all =
    let rest = All-tail IsOctet octet (next ∷ []) all in
    All-cons IsUnit (plain octet) (plain next ∷ []) (All-head IsOctet octet (next ∷ []) all) (All-cons IsUnit (plain next) [] (All-head IsOctet next [] rest) (All-nil IsUnit))
units_fit (octet ∷ high ∷ low ∷ rest) all =
    let all' = All-tail IsOctet octet (high ∷ low ∷ rest) all in
    let all'' = All-tail IsOctet low rest (All-tail IsOctet high (low ∷ rest) all') in
    chosen (is_escape octet high low) octet high low (units rest) (units (high ∷ low ∷ rest)) refl (All-head IsOctet octet (high ∷ low ∷ rest) all) (units_fit rest all'') (units_fit (high ∷ low ∷ rest) all')

-- ---- one unit, written and read again

units_plain : (octet : ℕ) (rest : List ℕ) → (octet == percent_sign) ≡ false → units (octet ∷ rest) ≡ plain octet ∷ units rest
units_plain octet [] other = refl
units_plain octet (next ∷ []) other = refl
units_plain octet (high ∷ low ∷ rest) other = cond-false (is_escape octet high low) _ _ (ap (λ is. is && is_digit high 16 && is_digit low 16) other)

reads_back : ℕ → Bool
reads_back octet =
    is_escape percent_sign (digit_glyph true (octet / 16 % 16)) (digit_glyph true (octet % 16))
    && (16 * digit_value (digit_glyph true (octet / 16 % 16)) + digit_value (digit_glyph true (octet % 16)) == octet)

all_read_back : (octet : ℕ) → IsOctet octet → reads_back octet ≡ true
unfolding reads_back
all_read_back octet fits = agree_below_at reads_back (λ _. true) 256 octet refl fits

units_escape : (octet : ℕ) (rest : List ℕ) → IsOctet octet → units (percent_encode_byte octet ++ rest) ≡ record { escaped = true; value = octet } ∷ units rest
unfolding reads_back percent_encode_byte
units_escape octet rest fits =
    let parts = and_parts _ _ (all_read_back octet fits) in
    cond-true _ _ _ parts.0 ∙ ap (λ value. record { escaped = true; value = value } ∷ units rest) (eqb-true _ octet parts.1)

-- the unit as which its spelling is read
abbrev rewritten : Role → Octet → Octet
rewritten role unit = record { escaped = not (is_kept role unit); value = unit.value }

no_percent : (role : Role) (is : Bool) (octet : ℕ) → octet ≡ percent_sign → is_kept role (record { escaped = is; value = octet }) ≡ false
no_percent role true octet same = rw same refl
no_percent role false octet same = rw same refl

other_than : (tested : Bool) (role : Role) (unit : Octet) → (unit.value == percent_sign) ≡ tested → is_kept role unit ≡ true → tested ≡ false
other_than false role unit is kept = refl
other_than true role unit is kept =
    let none : is_kept role unit ≡ false = no_percent role unit.escaped unit.value (eqb-true unit.value percent_sign is) in
    cc

units_spelled_at : (kept : Bool) (role : Role) (unit : Octet) (rest : List ℕ) → is_kept role unit ≡ kept → IsUnit unit → units (spelled role unit ++ rest) ≡ record { escaped = not kept; value = unit.value } ∷ units rest
units_spelled_at true role unit rest is fits =
    ap (λ text. units (text ++ rest)) (cond-true (is_kept role unit) (unit.value ∷ []) (percent_encode_byte unit.value) is)
    ∙ units_plain unit.value rest (other_than (unit.value == percent_sign) role unit refl is)
units_spelled_at false role unit rest is fits =
    ap (λ text. units (text ++ rest)) (cond-false (is_kept role unit) (unit.value ∷ []) (percent_encode_byte unit.value) is)
    ∙ units_escape unit.value rest fits

same_choice : (unreserved escaped reserved sign : Bool) → (unreserved || (not (not (unreserved || (not escaped && reserved && not sign))) && reserved && not sign)) ≡ (unreserved || (not escaped && reserved && not sign))
same_choice true e r s = refl
same_choice false true r s = refl
same_choice false false true true = refl
same_choice false false true false = refl
same_choice false false false s = refl

spelled_again : (role : Role) (unit : Octet) → spelled role (rewritten role unit) ≡ spelled role unit
spelled_again role unit =
    ap (λ (kept : Bool). if kept then unit.value ∷ [] else percent_encode_byte unit.value) (same_choice (is_unreserved unit.value) unit.escaped (is_reserved unit.value) (is_sign role unit.value))

-- ---- all units

units_again : (role : Role) (all : List Octet) → All IsUnit all → units (flat_map (spelled role) all) ≡ map (rewritten role) all
units_again role [] fits = refl
units_again role (unit ∷ all) fits =
    units_spelled_at (is_kept role unit) role unit (flat_map (spelled role) all) refl (All-head IsUnit unit all fits)
    ∙ ap (λ us. rewritten role unit ∷ us) (units_again role all (All-tail IsUnit unit all fits))

all_spelled_again : (role : Role) (all : List Octet) → flat_map (spelled role) (map (rewritten role) all) ≡ flat_map (spelled role) all
all_spelled_again role [] = refl
all_spelled_again role (unit ∷ all) = λ i. spelled_again role unit i ++ all_spelled_again role all i

pub normal_again : (role : Role) (text : List ℕ) → All IsOctet text → normal role (normal role text) ≡ normal role text
normal_again role text fits =
    ap (flat_map (spelled role)) (units_again role (units text) (units_fit text fits)) ∙ all_spelled_again role (units text)

-- ---- octets that stay unchanged

is_kept_plain : (role : Role) (octet : ℕ) → is_changed role octet ≡ false → is_kept role (plain octet) ≡ true
is_kept_plain role octet same = by (is_kept role (plain octet)) refl
  where
    by : (kept : Bool) → is_kept role (plain octet) ≡ kept → kept ≡ true
    by true is = refl
    by false is = absurd (true≢false (ap not (sym is) ∙ same))

kept_first : (role : Role) (octet : ℕ) (rest : List ℕ) → is_changed role octet ≡ false → normal role (octet ∷ rest) ≡ octet ∷ normal role rest
kept_first role octet rest same =
    let kept = is_kept_plain role octet same in
    ap (flat_map (spelled role)) (units_plain octet rest (other_than (octet == percent_sign) role (plain octet) refl kept))
    ∙ ap (λ front. front ++ normal role rest) (cond-true (is_kept role (plain octet)) (octet ∷ []) (percent_encode_byte octet) kept)

pub kept_front : (role : Role) (n : ℕ) (text : List ℕ) → ((k : ℕ) → k < n → is_changed role (get_or text k 0) ≡ false) → n ≤ length text →
    normal role text ≡ take n text ++ normal role (drop n text)
kept_front role zero text same fits = refl
kept_front role (suc n) [] same fits = absurd (omega (arith, fits))
kept_front role (suc n) (octet ∷ text) same fits =
    kept_first role octet text (same 0 (omega arith))
    ∙ ap (λ rest. octet ∷ rest) (kept_front role n text (λ k less. same (suc k) (omega (arith, less))) (omega (arith, fits)))

none_below : (below : Bool) (n : ℕ) → (if below then Some n else None) ≡ None → below ≡ false
none_below true n is = grind arith
none_below false n is = refl

all_before : (m n : ℕ) → nat_lt m n ≡ false → m ≤ n → m ≡ n
all_before m n is fits = grind (arith, nat_tests)

pub none_changed : (role : Role) (text : List ℕ) → position (is_changed role) text ≡ None → (k : ℕ) → k < length text → is_changed role (get_or text k 0) ≡ false
none_changed role text none k less =
    let count = position_or_len (is_changed role) text in
    let all : count ≡ length text = all_before count (length text) (none_below (nat_lt count (length text)) count none) (prefix_len-le-length _ text) in
    fails_before_first (is_changed role) text k 0 (omega (arith, less, all))

-- ---- `$` in a pattern

abbrev IsNoDollar : ℕ → Type 0
IsNoDollar octet = (octet == dollar_sign) ≡ false

digits_no_dollar : (value : ℕ) → value < 16 → IsNoDollar (digit_glyph true value)
digits_no_dollar value fits = grind (arith, nat_tests)

kept_no_dollar : (octet : ℕ) (is : Bool) → octet ≡ dollar_sign → is_kept Pattern (record { escaped = is; value = octet }) ≡ false
kept_no_dollar octet true same = rw same refl
kept_no_dollar octet false same = rw same refl

dollar_not_kept : (tested : Bool) (unit : Octet) → (unit.value == dollar_sign) ≡ tested → is_kept Pattern unit ≡ true → tested ≡ false
dollar_not_kept false unit is kept = refl
dollar_not_kept true unit is kept =
    let none : is_kept Pattern unit ≡ false = kept_no_dollar unit.value unit.escaped (eqb-true unit.value dollar_sign is) in
    cc

spelled_no_dollar : (kept : Bool) (unit : Octet) → is_kept Pattern unit ≡ kept → IsUnit unit → All IsNoDollar (if kept then unit.value ∷ [] else percent_encode_byte unit.value)
unfolding percent_encode_byte
spelled_no_dollar true unit is fits = All-cons IsNoDollar unit.value [] (dollar_not_kept (unit.value == dollar_sign) unit refl is) (All-nil IsNoDollar)
spelled_no_dollar false unit is fits =
    let high = digit_glyph true (unit.value / 16 % 16) in
    let low = digit_glyph true (unit.value % 16) in
    let first : IsNoDollar high = digits_no_dollar (unit.value / 16 % 16) (omega arith) in
    let second : IsNoDollar low = digits_no_dollar (unit.value % 16) (omega arith) in
    All-cons IsNoDollar percent_sign (high ∷ low ∷ []) refl
    (All-cons IsNoDollar high (low ∷ []) first (All-cons IsNoDollar low [] second (All-nil IsNoDollar)))

no_dollar : (all : List Octet) → All IsUnit all → All IsNoDollar (flat_map (spelled Pattern) all)
no_dollar [] fits = All-nil IsNoDollar
no_dollar (unit ∷ all) fits =
    All-append IsNoDollar (spelled Pattern unit) (flat_map (spelled Pattern) all) (spelled_no_dollar (is_kept Pattern unit) unit refl (All-head IsUnit unit all fits)) (no_dollar all (All-tail IsUnit unit all fits))

ends_in_none : (text : List ℕ) → All IsNoDollar text → is_anchored text ≡ false
ends_in_none [] all = refl
ends_in_none (octet ∷ text) all = All-get_or IsNoDollar (octet ∷ text) (length (octet ∷ text) - 1) 0 (omega arith) all

length_before : (text : List ℕ) → length (text ++ codes "$") - 1 ≡ length text
length_before text = omega (arith, length-append text (codes "$"))

seam : (text : List ℕ) → get_or (text ++ codes "$") (length text) 0 ≡ dollar_sign
seam [] = refl
seam (octet ∷ text) = seam text

ends_in_one : (text : List ℕ) → is_anchored (text ++ codes "$") ≡ true
ends_in_one text = ap (λ n. get_or (text ++ codes "$") n 0 == dollar_sign) (length_before text) ∙ ap (λ octet. octet == dollar_sign) (seam text)

without_last : (text : List ℕ) → unanchored (text ++ codes "$") ≡ text
without_last text =
    cond-true _ _ _ (ends_in_one text) ∙ ap (λ n. take n (text ++ codes "$")) (length_before text) ∙ take-append_seam text (codes "$")

pub anchored_form : (pattern : List ℕ) → is_anchored pattern ≡ true → normal_pattern pattern ≡ normal Pattern (take (length pattern - 1) pattern) ++ codes "$"
anchored_form pattern is = rw is refl

pub open_form : (pattern : List ℕ) → is_anchored pattern ≡ false → normal_pattern pattern ≡ normal Pattern pattern
open_form pattern is = rw is (append-nil (normal Pattern pattern))

pub open_again : (text : List ℕ) → All IsOctet text → normal_pattern (normal Pattern text) ≡ normal Pattern text
open_again text fits =
    open_form (normal Pattern text) (ends_in_none (normal Pattern text) (no_dollar (units text) (units_fit text fits))) ∙ normal_again Pattern text fits

pub anchored_again : (text : List ℕ) → All IsOctet text → normal_pattern (normal Pattern text ++ codes "$") ≡ normal Pattern text ++ codes "$"
anchored_again text fits =
    let form = normal Pattern text in
    (λ i. normal Pattern (without_last form i) ++ (if ends_in_one form i then codes "$" else []))
    ∙ ap (λ t. t ++ codes "$") (normal_again Pattern text fits)

-- ---- a pattern's normal form is its own, at most three times as long

pub pattern_again : (tested : Bool) (pattern : List ℕ) → is_anchored pattern ≡ tested → All IsOctet pattern → normal_pattern (normal_pattern pattern) ≡ normal_pattern pattern
pattern_again true pattern is fits =
    let front = take (length pattern - 1) pattern in
    let form = anchored_form pattern is in
    ap normal_pattern form ∙ anchored_again front (All-take IsOctet (length pattern - 1) pattern fits) ∙ sym form
pattern_again false pattern is fits =
    let form = open_form pattern is in
    ap normal_pattern form ∙ open_again pattern fits ∙ sym form

few_units : (text : List ℕ) → length (units text) ≤ length text
few_units [] = omega arith
few_units (octet ∷ []) = omega arith
few_units (octet ∷ next ∷ []) = omega arith
few_units (octet ∷ high ∷ low ∷ rest) =
    by (is_escape octet high low) (few_units rest) (few_units (high ∷ low ∷ rest))
  where
    by : (is : Bool) → length (units rest) ≤ length rest → length (units (high ∷ low ∷ rest)) ≤ length (high ∷ low ∷ rest) →
        length (if is then octet_escaped high low ∷ units rest else plain octet ∷ units (high ∷ low ∷ rest)) ≤ length (octet ∷ high ∷ low ∷ rest)
    by true later next = omega arith
    by false later next = omega arith

spelled_small : (kept : Bool) (octet : ℕ) → length (if kept then octet ∷ [] else percent_encode_byte octet) ≤ 3
unfolding percent_encode_byte
spelled_small true octet = omega arith
spelled_small false octet = omega arith

all_small : (role : Role) (all : List Octet) → length (flat_map (spelled role) all) ≤ 3 * length all
all_small role [] = omega arith
all_small role (unit ∷ all) =
    omega (arith, length-append (spelled role unit) (flat_map (spelled role) all), spelled_small (is_kept role unit) unit.value, all_small role all)

normal_small : (role : Role) (text : List ℕ) → length (normal role text) ≤ 3 * length text
normal_small role text = omega (arith, all_small role (units text), few_units text)

pub pattern_small : (tested : Bool) (pattern : List ℕ) → is_anchored pattern ≡ tested → length (normal_pattern pattern) ≤ 3 * length pattern
pattern_small true [] is = omega arith
pattern_small true (octet ∷ pattern) is =
    let whole = octet ∷ pattern in
    let front = take (length whole - 1) whole in
    omega (arith, ap length (anchored_form whole is), length-append (normal Pattern front) (codes "$"), normal_small Pattern front, length-take (length whole - 1) whole)
pattern_small false pattern is = omega (arith, ap length (open_form pattern is), normal_small Pattern pattern)

-- ---- a pattern that keeps its octets is in normal form

none_any : (role : Role) (text : List ℕ) → list_any (is_changed role) text ≡ false → normal role text ≡ text
none_any role [] none = refl
none_any role (octet ∷ text) none =
    let parts = both_not (is_changed role octet) (list_any (is_changed role) text) none in
    kept_first role octet text parts.0 ∙ ap (λ rest. octet ∷ rest) (none_any role text parts.1)
  where
    both_not : (one other : Bool) → (one || other) ≡ false → (one ≡ false) × (other ≡ false)
    both_not true other is = absurd (true≢false is)
    both_not false other is = (refl, is)

with_last : (pattern : List ℕ) → is_anchored pattern ≡ true → take (length pattern - 1) pattern ++ codes "$" ≡ pattern
with_last [] is = cc
with_last (octet ∷ text) is =
    let pattern = octet ∷ text in
    let before = length pattern - 1 in
    let last = eqb-true (get_or pattern before 0) dollar_sign is in
    sym (ap (λ one. take before pattern ++ one ∷ []) last) ∙ sym (take_more pattern before 0 (omega arith)) ∙ take_all (before + 1) pattern (omega arith)

kept_by : (tested : Bool) (pattern : List ℕ) → is_anchored pattern ≡ tested → list_any (is_changed Pattern) (unanchored pattern) ≡ false → normal_pattern pattern ≡ pattern
kept_by true pattern is none =
    let front = take (length pattern - 1) pattern in
    let same = none_any Pattern front (ap (list_any (is_changed Pattern)) (sym (cond-true (is_anchored pattern) front pattern is)) ∙ none) in
    anchored_form pattern is ∙ ap (λ form. form ++ codes "$") same ∙ with_last pattern is
kept_by false pattern is none =
    let same = none_any Pattern pattern (ap (list_any (is_changed Pattern)) (sym (cond-false (is_anchored pattern) (take (length pattern - 1) pattern) pattern is)) ∙ none) in
    open_form pattern is ∙ same

pub kept_pattern : (pattern : List ℕ) → is_kept_pattern pattern ≡ true → normal_pattern pattern ≡ pattern
kept_pattern pattern kept = kept_by (is_anchored pattern) pattern refl (none_of (list_any (is_changed Pattern) (unanchored pattern)) kept)
  where
    none_of : (any : Bool) → not any ≡ true → any ≡ false
    none_of true is = absurd (true≢false (sym is))
    none_of false is = refl
