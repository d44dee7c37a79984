-- The max-age of a member, and the first of several.
-- Used by `max_age_of` and its parts, and by the proof that an input gives one reply.
use Rattle.std.proofs.Common.{◌≡◌, ◌+◌, ◌-◌, ◌⊎◌, inl, inr, ℕ, Bool, true, false, cond, List, [], ◌∷◌, ◌++◌, All, length, take, drop, map, Option, Some, None, refl, sym, ap, subst, ◌∙◌, arith, length-append, take-append-drop}
use Rattle.std.specs.Prelude.{◌&&◌, MatchOption, codes, min, nat_lt}
use Rattle.std.specs.Borrow.{Bor}
use Rattle.std.specs.Char.{to_ascii_lowercase}
use Rattle.std.specs.Str.{bytes_eq}
use Rattle.std.specs.Str.Parse.{digits_value}
use Rattle.std.proofs.Math.Seq.{drop-append_seam, take-append_seam}
use Rattle.std.proofs.lemmas.Bool.{true≢false}
use Rattle.std.proofs.lemmas.List.{append_cancel_right, length-map}
use Rattle.std.proofs.lemmas.List.Elements.{All-cons, All-head, All-nil, All-tail}
use Rattle.std.proofs.lemmas.Slice.Eq.{bytes_eq-Decides}
use Rattle.robots_text.specs.Words.{is_same_word}
use Rattle.http_wire.specs.Freshness.{IsFirstMaxAge, IsMaxAge, IsNoMaxAge, IsQuoted, TellsMaxAge, WritesSeconds, max_seconds, quotation_mark, delta_seconds}

-- ---- the seconds of an argument

no_and : (test : Bool) → (test && false) ≡ false
no_and true = refl
no_and false = refl

quoted_none : (argument text : List ℕ) → IsQuoted argument text → delta_seconds argument ≡ None
quoted_none argument text quoted =
    ap delta_seconds quoted
    ∙ ap (λ test. cond test (Some (min (digits_value 10 (quotation_mark ∷ (text ++ quotation_mark ∷ []))) max_seconds)) None)
    (no_and (nat_lt 0 (length (quotation_mark ∷ (text ++ quotation_mark ∷ [])))))

pub quoted_same : (argument a b : List ℕ) → IsQuoted argument a → IsQuoted argument b → a ≡ b
quoted_same argument a b x y = append_cancel_right a b (quotation_mark ∷ []) (ap (drop 1) (sym x ∙ y))

not_both : (seconds : Option ℕ) (n : ℕ) → seconds ≡ None → seconds ≡ Some n → ⊥
not_both seconds n none some = let both : ◌≡◌ {A = Option ℕ} None (Some n) = sym none ∙ some in cc

same_seconds : (seconds : Option ℕ) (a b : ℕ) → seconds ≡ Some a → seconds ≡ Some b → a ≡ b
same_seconds seconds a b x y = let both : ◌≡◌ {A = Option ℕ} (Some a) (Some b) = sym x ∙ y in cc

pub written_quoted : (argument text : List ℕ) (seconds : ℕ) → IsQuoted argument text → WritesSeconds argument seconds → delta_seconds text ≡ Some seconds
written_quoted argument text seconds quoted writes =
    elim writes.form [
      | inl same ↦ absurd (not_both (delta_seconds argument) seconds (quoted_none argument text quoted) (ap delta_seconds same ∙ writes.value))
      | inr own ↦ ap delta_seconds (quoted_same argument text writes.digits quoted own) ∙ writes.value
    ]

pub found_quoted : (argument opened : List ℕ) (found : Option (Bor (List ℕ))) → bytes_eq (take 1 argument) (quotation_mark ∷ []) ≡ true → opened ≡ drop 1 argument
    → MatchOption found (bytes_eq (drop (length opened - 1) opened) (quotation_mark ∷ []) ≡ false)
    (λ text. (bytes_eq (drop (length opened - 1) opened) (quotation_mark ∷ []) ≡ true) × (text.now ≡ take (length opened - 1) opened) × (length text.now + 1 ≡ length opened))
    → MatchOption found ((text : List ℕ) → ¬ (IsQuoted argument text)) (λ text. IsQuoted argument text.now)
found_quoted argument opened None mark behind none = λ text quoted.
    let same : opened ≡ text ++ quotation_mark ∷ [] = behind ∙ ap (drop 1) quoted in
    let len : length opened - 1 ≡ length text = omega (arith, ap length same, length-append text (quotation_mark ∷ [])) in
    let last : drop (length opened - 1) opened ≡ quotation_mark ∷ [] =
    ap (λ n. drop n opened) len ∙ ap (drop (length text)) same ∙ drop-append_seam text (quotation_mark ∷ []) in
    true≢false (sym ((bytes_eq-Decides (drop (length opened - 1) opened) (quotation_mark ∷ [])).1 last) ∙ none)
found_quoted argument opened (Some text) mark behind some =
    sym (take-append-drop 1 argument)
    ∙ ap (λ (front : List ℕ). front ++ drop 1 argument) ((bytes_eq-Decides (take 1 argument) (quotation_mark ∷ [])).0 mark)
    ∙ ap (λ (rest : List ℕ). quotation_mark ∷ rest) (sym behind ∙ sym (take-append-drop (length opened - 1) opened)
    ∙ ap (λ (back : List ℕ). take (length opened - 1) opened ++ back) ((bytes_eq-Decides (drop (length opened - 1) opened) (quotation_mark ∷ [])).0 some.0)
    ∙ ap (λ (front : List ℕ). front ++ quotation_mark ∷ []) (sym some.1))

written_unique : (argument : List ℕ) (a b : ℕ) → WritesSeconds argument a → WritesSeconds argument b → a ≡ b
written_unique argument a b x y =
    elim x.form [
      | inl same ↦ elim y.form [
        | inl own ↦ same_seconds (delta_seconds argument) a b (ap delta_seconds same ∙ x.value) (ap delta_seconds own ∙ y.value)
        | inr quoted ↦ absurd (not_both (delta_seconds argument) a (quoted_none argument y.digits quoted) (ap delta_seconds same ∙ x.value))
      ]
      | inr quoted ↦ same_seconds (delta_seconds x.digits) a b x.value (written_quoted argument x.digits b quoted y)
    ]

-- ---- the seconds of a member

same_length : (a b : List ℕ) → is_same_word a b ≡ true → length a ≡ length b
same_length a b same =
    sym (length-map a to_ascii_lowercase)
    ∙ ap length ((bytes_eq-Decides (map to_ascii_lowercase a) (map to_ascii_lowercase b)).0 same)
    ∙ length-map b to_ascii_lowercase

pub name_of : (member : List ℕ) (seconds : ℕ) (is : IsMaxAge member seconds) → is.name ≡ take 8 member
name_of member seconds is =
    sym (take-append_seam is.name is.argument) ∙ ap (λ n. take n (is.name ++ is.argument)) (same_length is.name (codes "max-age=") is.name_is)
    ∙ ap (take 8) (sym is.parts)

pub argument_of : (member : List ℕ) (seconds : ℕ) (is : IsMaxAge member seconds) → is.argument ≡ drop 8 member
argument_of member seconds is =
    sym (drop-append_seam is.name is.argument) ∙ ap (λ n. drop n (is.name ++ is.argument)) (same_length is.name (codes "max-age=") is.name_is)
    ∙ ap (drop 8) (sym is.parts)

pub max_age_told : (member name argument : List ℕ) (found : Option ℕ) → member ≡ name ++ argument → argument ≡ drop 8 member
    → is_same_word name (codes "max-age=") ≡ true
    → MatchOption found ((seconds : ℕ) → ¬ (WritesSeconds argument seconds)) (WritesSeconds argument)
    → MatchOption found (IsNoMaxAge member) (IsMaxAge member)
max_age_told member name argument None parts behind same none =
    λ seconds is. none seconds (subst (λ (text : List ℕ). WritesSeconds text seconds) (argument_of member seconds is ∙ sym behind) is.writes)
max_age_told member name argument (Some seconds) parts behind same writes =
    record { name = name; argument = argument; parts = parts; name_is = same; writes = writes }

member_unique : (member : List ℕ) (a b : ℕ) → IsMaxAge member a → IsMaxAge member b → a ≡ b
member_unique member a b x y =
    written_unique (drop 8 member) a b
    (subst (λ (text : List ℕ). WritesSeconds text a) (argument_of member a x) x.writes)
    (subst (λ (text : List ℕ). WritesSeconds text b) (argument_of member b y) y.writes)

-- ---- the first of several members

pub tells_first : (member : List ℕ) (members : List (List ℕ)) (seconds : ℕ) → IsMaxAge member seconds → TellsMaxAge (member ∷ members) (Some seconds)
tells_first member members seconds is = record { before = []; member = member; after = members; parts = refl; none = All-nil IsNoMaxAge; is = is }

pub tells_later : (member : List ℕ) (members : List (List ℕ)) (seconds : Option ℕ) → IsNoMaxAge member → TellsMaxAge members seconds → TellsMaxAge (member ∷ members) seconds
tells_later member members None other tells = All-cons IsNoMaxAge member members other tells
tells_later member members (Some seconds) other tells = record {
  before = member ∷ tells.before;
  member = tells.member;
  after = tells.after;
  parts = ap (λ rest. member ∷ rest) tells.parts;
  none = All-cons IsNoMaxAge member tells.before other tells.none;
  is = tells.is;
}

none_in_nothing : (before after : List (List ℕ)) (member : List ℕ) → [] ≡ before ++ member ∷ after → ⊥
none_in_nothing [] after member parts = let nothing : ◌≡◌ {A = List (List ℕ)} [] (member ∷ after) = parts in cc
none_in_nothing (first ∷ before) after member parts = let nothing : ◌≡◌ {A = List (List ℕ)} [] (first ∷ (before ++ member ∷ after)) = parts in cc

first_or_later : (first : List ℕ) (members : List (List ℕ)) (seconds : ℕ) (before : List (List ℕ)) (member : List ℕ) (after : List (List ℕ))
    → first ∷ members ≡ before ++ member ∷ after → All IsNoMaxAge before → IsMaxAge member seconds
    → IsMaxAge first seconds ⊎ (IsNoMaxAge first × IsFirstMaxAge members seconds)
first_or_later first members seconds [] member after parts none is =
    let both : ◌≡◌ {A = List (List ℕ)} (first ∷ members) (member ∷ after) = parts in
    let same : first ≡ member = cc in
    inl (subst (λ (text : List ℕ). IsMaxAge text seconds) (sym same) is)
first_or_later first members seconds (other ∷ before) member after parts none is =
    let both : ◌≡◌ {A = List (List ℕ)} (first ∷ members) (other ∷ (before ++ member ∷ after)) = parts in
    let same : first ≡ other = cc in
    let rest : members ≡ before ++ member ∷ after = cc in
    inr (
      subst IsNoMaxAge (sym same) (All-head IsNoMaxAge other before none),
      record { before = before; member = member; after = after; parts = rest; none = All-tail IsNoMaxAge other before none; is = is },
    )

tells_parts : (first : List ℕ) (members : List (List ℕ)) (seconds : Option ℕ) → TellsMaxAge (first ∷ members) seconds
    → ((n : ℕ) × (seconds ≡ Some n) × IsMaxAge first n) ⊎ (IsNoMaxAge first × TellsMaxAge members seconds)
tells_parts first members None none = inr (All-head IsNoMaxAge first members none, All-tail IsNoMaxAge first members none)
tells_parts first members (Some n) is =
    elim (first_or_later first members n is.before is.member is.after is.parts is.none is.is) [
      | inl here ↦ inl (n, refl, here)
      | inr later ↦ inr later
    ]

pub tells_unique : (members : List (List ℕ)) (a b : Option ℕ) → TellsMaxAge members a → TellsMaxAge members b → a ≡ b
tells_unique [] None None x y = refl
tells_unique [] (Some a) b x y = absurd (none_in_nothing x.before x.after x.member x.parts)
tells_unique [] None (Some b) x y = absurd (none_in_nothing y.before y.after y.member y.parts)
tells_unique (first ∷ members) a b x y =
    elim (tells_parts first members a x) [
      | inl here ↦ elim (tells_parts first members b y) [
        | inl own ↦ here.1 ∙ ap Some (member_unique first here.0 own.0 here.2 own.2) ∙ sym own.1
        | inr later ↦ absurd (later.0 here.0 here.2)
      ]
      | inr later ↦ elim (tells_parts first members b y) [
        | inl own ↦ absurd (later.0 own.0 own.2)
        | inr others ↦ tells_unique members a b later.1 others.1
      ]
    ]
