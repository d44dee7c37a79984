-- The whole lines of octets are their longest prefix that ends with a line end.
-- Used by `kept` and `RobotsText::of`.
use Rattle.std.proofs.Common.{◌≡◌, ◌≤◌, ◌<◌, ℕ, ◌+◌, ◌-◌, Bool, true, false, List, [], ◌∷◌, ◌++◌, length, take, drop, append_assoc, length-append, sym, refl, ap, ◌∙◌, subst, arith, inl, inr}
use Rattle.std.proofs.lemmas.List.{take-append-drop, length-take}
use Rattle.std.proofs.Math.Seq.{take-append-add, take-append_seam, take-length}
use Rattle.std.specs.Prelude.{◌||◌, cond, nat_le}
use Rattle.std.specs.List.{list_any}
use Rattle.robots_text.specs.Lines.{is_line_end, kept, text_limit, whole_lines, IsWholeFront, IsLongestFront}
use Rattle.robots_text.proofs.Cutting.{tells}

-- a prefix that ends with a line end, and a rest
record EndsWhole (octets : List ℕ) : Type 0 where
  rest : List ℕ
  split : octets ≡ whole_lines octets ++ rest
  before : List ℕ
  last : ℕ
  ends : whole_lines octets ≡ before ++ last ∷ []
  line_end : is_line_end last ≡ true

e_absurd : (b : Bool) → b ≡ true → b ≡ false → false ≡ true
e_absurd true e none = absurd (grind arith)
e_absurd false e none = e

first_is : (a b : Bool) → (a || b) ≡ true → b ≡ false → a ≡ true
first_is true b e none = refl
first_is false b e none = e_absurd b e none

none_whole : (octets : List ℕ) → list_any is_line_end octets ≡ false → whole_lines octets ≡ []
none_whole [] e = refl
none_whole (c ∷ octets) e = rw e refl

begins : (c : ℕ) (octets : List ℕ) → list_any is_line_end (c ∷ octets) ≡ true → whole_lines (c ∷ octets) ≡ c ∷ whole_lines octets
begins c octets e = rw e refl

some_whole : (octets : List ℕ) → list_any is_line_end octets ≡ true → EndsWhole octets
some_whole [] e = absurd (grind arith)
some_whole (c ∷ octets) e = elim (tells (list_any is_line_end octets)) [
  | inl more ↦ (let later = some_whole octets more in record {
    rest = later.rest;
    split = ap (λ t. c ∷ t) later.split ∙ ap (λ t. t ++ later.rest) (sym (begins c octets e));
    before = c ∷ later.before;
    last = later.last;
    ends = begins c octets e ∙ ap (λ t. c ∷ t) later.ends;
    line_end = later.line_end;
  })
  | inr none ↦ record {
    rest = octets;
    split = ap (λ t. (c ∷ t) ++ octets) (sym (none_whole octets none)) ∙ ap (λ t. t ++ octets) (sym (begins c octets e));
    before = [];
    last = c;
    ends = begins c octets e ∙ ap (λ t. c ∷ t) (none_whole octets none);
    line_end = first_is (is_line_end c) (list_any is_line_end octets) e none;
  }
]

or_true : (a : Bool) → (a || true) ≡ true
or_true true = refl
or_true false = refl

any_there : (before : List ℕ) (last : ℕ) (rest : List ℕ) → is_line_end last ≡ true → list_any is_line_end ((before ++ last ∷ []) ++ rest) ≡ true
any_there [] last rest e = rw e refl
any_there (c ∷ before) last rest e = rw (any_there before last rest e) (or_true (is_line_end c))

keeps : (before : List ℕ) (last : ℕ) (rest : List ℕ) → is_line_end last ≡ true → length (before ++ last ∷ []) ≤ length (whole_lines ((before ++ last ∷ []) ++ rest))
keeps [] last rest e = rw (begins last rest (any_there [] last rest e)) (omega arith)
keeps (c ∷ before) last rest e =
    rw (begins c ((before ++ last ∷ []) ++ rest) (any_there (c ∷ before) last rest e)) (omega (arith, keeps before last rest e))

keeps_front : (front within rest before : List ℕ) (last : ℕ) → within ≡ front ++ rest → front ≡ before ++ last ∷ [] → is_line_end last ≡ true → length front ≤ length (whole_lines within)
keeps_front front within rest before last split ends e =
    subst (λ w. length front ≤ length (whole_lines w)) (sym split)
    (subst (λ f. length f ≤ length (whole_lines (f ++ rest))) (sym ends) (keeps before last rest e))

some_octet : (front before : List ℕ) (last : ℕ) → front ≡ before ++ last ∷ [] → 0 < length front
some_octet front before last ends = subst (λ f. 0 < length f) (sym ends) (rw (length-append before (last ∷ [])) (omega arith))

front_within : (limit : ℕ) (body front rest : List ℕ) → body ≡ front ++ rest → length front ≤ limit → take limit body ≡ front ++ take (limit - length front) rest
front_within limit body front rest split fits =
    let sum : limit ≡ length front + (limit - length front) = omega (arith, fits) in
    ap (take limit) split ∙ ap (λ n. take n (front ++ rest)) sum ∙ take-append-add front rest (limit - length front)

no_longer : (body other : List ℕ) → IsWholeFront body other → length other ≤ length (whole_lines (take text_limit body))
no_longer body other front =
    keeps_front other (take text_limit body) (take (text_limit - length other) front.rest) front.before front.last
    (front_within text_limit body other front.rest front.split front.fits) front.ends front.line_end

split_more : (limit : ℕ) (body front rest : List ℕ) → take limit body ≡ front ++ rest → body ≡ front ++ (rest ++ drop limit body)
split_more limit body front rest split =
    sym (take-append-drop limit body) ∙ ap (λ t. t ++ drop limit body) split ∙ append_assoc front rest (drop limit body)

split_fits : (limit : ℕ) (body front rest : List ℕ) → take limit body ≡ front ++ rest → length front ≤ limit
split_fits limit body front rest split =
    let all : length (take limit body) ≡ length front + length rest = ap length split ∙ length-append front rest in
    omega (arith, all, length-take limit body)

is_front : (body : List ℕ) → list_any is_line_end (take text_limit body) ≡ true → IsWholeFront body (whole_lines (take text_limit body))
is_front body e =
    let whole = some_whole (take text_limit body) e in
    record {
      rest = whole.rest ++ drop text_limit body;
      split = split_more text_limit body _ whole.rest whole.split;
      fits = split_fits text_limit body _ whole.rest whole.split;
      before = whole.before;
      last = whole.last;
      ends = whole.ends;
      line_end = whole.line_end;
    }

no_front : (body other : List ℕ) → list_any is_line_end (take text_limit body) ≡ false → IsWholeFront body other → ⊥
no_front body other e front =
    let none : length (whole_lines (take text_limit body)) ≡ 0 = ap length (none_whole (take text_limit body) e) in
    absurd (omega (arith, none, no_longer body other front, some_octet other front.before front.last front.ends))

pub longest_front : (body : List ℕ) → IsLongestFront body (whole_lines (take text_limit body))
longest_front body = record {
  whole = elim (tells (list_any is_line_end (take text_limit body))) [
    | inl e ↦ inl (is_front body e)
    | inr e ↦ inr (none_whole (take text_limit body) e, λ other front. no_front body other e front)
  ];
  longest = no_longer body;
}

front_taken : (body front : List ℕ) → IsLongestFront body front → take (length front) body ≡ front
front_taken body front is = elim is.whole [
  | inl whole ↦ ap (take (length front)) whole.split ∙ take-append_seam front whole.rest
  | inr none ↦ subst (λ (f : List ℕ). take (length f) body ≡ f) (sym none.0) refl
]

pub kept_taken : (body : List ℕ) → take (length (kept body)) body ≡ kept body
kept_taken body = by (nat_le (length body) text_limit)
  where
    by : (fits : Bool) → take (length (cond fits body (whole_lines (take text_limit body)))) body ≡ cond fits body (whole_lines (take text_limit body))
    by true = take-length body
    by false = front_taken body (whole_lines (take text_limit body)) (longest_front body)
