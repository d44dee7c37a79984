-- Octets that move from one place to another.
-- Used by `LineReader`, `FailAt` and `write_all`.
use Rattle.std.proofs.Common.{◌≡◌, ◌≢◌, length-append, ℕ, suc, ◌+◌, ◌-◌, ◌<◌, ◌≤◌, List, [], ◌∷◌, ◌++◌, None, Some, refl, sym, ap, subst, ◌∙◌, inl, append_assoc, append-nil, length, take, drop, min, take-append-drop, arith, length-drop, drop-cons, true, false, Bool, nat_lt, slice_index_or}
use Rattle.std.specs.Prelude.{Option, Contains, slice_range, slice_index, if◌then◌else◌, ◌==◌}
use Rattle.std.proofs.lemmas.Bool.Decides.{nat_tests}
use Rattle.std.proofs.lemmas.Grind.{get_or_default_zero}
use Rattle.std.proofs.lemmas.List.{drop-take, drop-drop, get_or-drop, get_or-take, length-take, length-take-le}
use Rattle.std.proofs.lemmas.List.Elements.{All-append}
use Rattle.std.proofs.Math.Seq.{take-add, take-append_seam}
use Rattle.std.specs.Io.KnownBytes.{Appends, Consumes, prepend_known}
use Rattle.std.proofs.KnownBytes.{Appends-trans, Consumes-trans}
use Rattle.counted_io.specs.Lines.{HasNoLineFeed, LinesEnd, without_cr, without_end, MovesOpen, MovesLine, MovesTooLong, TakesLineTo, FindsTooLongTo}
use Rattle.counted_io.specs.declared.line_end.LineEnd.{LineEnd}
use Rattle.counted_io.specs.declared.line_end.LineEnd.TheVariants as ends

pub range-skip : (xs : List ℕ) (start end count : ℕ) → count ≤ end - start → drop count (slice_range xs start end) ≡ slice_range xs (start + count) end
range-skip xs start end count h =
    let e : end - start ≡ count + (end - (start + count)) = omega arith in
    ap (λ n. drop count (take n (drop start xs))) e
    ∙ drop-take count (end - (start + count)) (drop start xs)
    ∙ ap (take (end - (start + count))) (drop-drop count start xs)

pub prepend_known-taken : (left : Option (List ℕ)) (old new part : List ℕ) → old ≡ part ++ new
    → Consumes (prepend_known old left) (prepend_known new left) part
prepend_known-taken None old new part e = tt
prepend_known-taken (Some xs) old new part e = ap (λ l. l ++ xs) e ∙ append_assoc part new xs

pub taken-more : (all left : Option (List ℕ)) (old new line part : List ℕ) → Consumes all (prepend_known old left) line → old ≡ part ++ new
    → Consumes all (prepend_known new left) (line ++ part)
taken-more all left old new line part p e =
    Consumes-trans all (prepend_known old left) (prepend_known new left) line part p (prepend_known-taken left old new part e)

pub taken-still : (a b c : Option (List ℕ)) (line : List ℕ) → Consumes a b line → Consumes b c [] → Consumes a c line
taken-still a b c line p q = subst (Consumes a c) (append-nil line) (Consumes-trans a b c line [] p q)

pub moves_line-takes : (end : LineEnd) (limit : ℕ) (all left : Option (List ℕ)) (old new line added : List ℕ) → Consumes all (prepend_known old left) line → HasNoLineFeed line
    → MovesLine end limit old new line added → TakesLineTo end limit all (prepend_known new left) added
moves_line-takes end limit all left old new line added p clear m = record {
  raw = line ++ m.part;
  no_line_feed = All-append (λ octet. octet ≢ 10) line m.part clear m.no_line_feed;
  line_is = m.added_is;
  fits = m.fits;
  consumed =
      subst (Consumes all (prepend_known new left)) (sym (append_assoc line m.part (10 ∷ [])))
      (taken-more all left old new line (m.part ++ 10 ∷ []) p m.taken);
}

pub moves_too_long-finds : (end : LineEnd) (limit : ℕ) (all left : Option (List ℕ)) (old new line : List ℕ) → Consumes all (prepend_known old left) line → HasNoLineFeed line
    → length line ≤ limit + 1 → MovesTooLong end limit old new line → FindsTooLongTo end limit all new left
moves_too_long-finds end limit all left old new line p clear short m = record {
  raw = line ++ m.part;
  no_line_feed = All-append (λ octet. octet ≢ 10) line m.part clear m.no_line_feed;
  too_long = inl m.too_long;
  soon = omega (arith, length-append line m.part, m.within);
  consumed = taken-more all left old new line m.part p m.taken;
}

pub range_skipped : (xs now : List ℕ) (start end count : ℕ) → now ≡ slice_range xs start end → count ≤ length now → slice_range xs (start + count) end ≡ drop count now
range_skipped xs now start end count e h =
    let bound : count ≤ end - start = omega (arith, ap length e, length-take (end - start) (drop start xs)) in
    sym (ap (drop count) e ∙ range-skip xs start end count bound)

pub appends_piece : (a b c : Option (List ℕ)) (bytes : List ℕ) (done n : ℕ) → Appends a b (take done bytes) → Appends b c (take n (drop done bytes))
    → Appends a c (take (done + n) bytes)
appends_piece a b c bytes done n p q =
    subst (Appends a c) (sym (take-add done n bytes)) (Appends-trans a b c (take done bytes) (take n (drop done bytes)) p q)

nil_of : (l : List ℕ) → length l ≡ 0 → l ≡ []
nil_of [] e = refl
nil_of (x ∷ l) e = absurd (omega arith)

pub read_front : (bytes unread buffer copied : List ℕ) (at n : ℕ) → unread ≡ drop at bytes → copied ≡ take n unread → n ≤ length unread
    → unread ≡ take n (copied ++ drop n buffer) ++ drop (at + n) bytes
read_front bytes unread buffer copied at n is copy bound =
    let len : length copied ≡ n = ap length copy ∙ length-take-le n unread bound in
    let front : take n (copied ++ drop n buffer) ≡ copied = subst (λ m. take m (copied ++ drop n buffer) ≡ copied) len (take-append_seam copied (drop n buffer)) in
    let back : drop (at + n) bytes ≡ drop n unread = sym (ap (drop n) is ∙ drop-drop n at bytes) in
    sym (ap (λ l. l ++ drop (at + n) bytes) front ∙ ap (λ l. copied ++ l) back ∙ ap (λ l. l ++ drop n unread) copy ∙ take-append-drop n unread)

pub read_nothing : (bytes unread : List ℕ) (at n per_call room : ℕ) → unread ≡ drop at bytes → n ≡ min (min per_call room) (length unread) → 0 < per_call
    → n ≡ 0 → 0 < room → drop (at + n) bytes ≡ []
read_nothing bytes unread at n per_call room is count moves none some =
    let back : drop (at + n) bytes ≡ drop n unread = sym (ap (drop n) is ∙ drop-drop n at bytes) in
    back ∙ nil_of (drop n unread) (omega (arith, length-drop n unread))

long_without_cr : (limit : ℕ) (raw : List ℕ) → limit < length raw - 1 → limit < length (without_cr raw)
long_without_cr limit raw h =
    elim (slice_index raw (length raw - 1) == 13) as (λ b. limit < length (if b then take (length raw - 1) raw else raw)) [
      | true ↦ omega (arith, length-take (length raw - 1) raw)
      | false ↦ omega arith
    ]

pub long_without_end : (end : LineEnd) (limit : ℕ) (raw : List ℕ) → limit < length raw - 1 → limit < length (without_end end raw)
long_without_end ends.Lf limit raw h = omega arith
long_without_end ends.LfOrCrLf limit raw h = long_without_cr limit raw h

pub line_taken : (old mid new : List ℕ) (count : ℕ) → count < length old → slice_index old count ≡ 10 → mid ≡ drop count old → new ≡ drop 1 mid
    → old ≡ (take count old ++ 10 ∷ []) ++ new
line_taken old mid new count h feed mid_is new_is =
    let front : drop count old ≡ slice_index old count ∷ drop (suc count) old = drop-cons old count 0 h in
    let rest : new ≡ drop (suc count) old = new_is ∙ ap (drop 1) (mid_is ∙ front) in
    let tail : drop count old ≡ 10 ∷ new = front ∙ ap (λ x. x ∷ drop (suc count) old) feed ∙ ap (λ l. 10 ∷ l) (sym rest) in
    sym (take-append-drop count old) ∙ ap (λ l. take count old ++ l) tail ∙ sym (append_assoc (take count old) (10 ∷ []) new)

pub part_taken : (limit : ℕ) (all left : Option (List ℕ)) (old new line added : List ℕ) → Consumes all (prepend_known old left) line → HasNoLineFeed line
    → MovesOpen limit old new line added → Consumes all (prepend_known new left) added × HasNoLineFeed added
part_taken limit all left old new line added p clear m =
    let whole : old ≡ old ++ new = sym (append-nil old) ∙ ap (λ l. old ++ l) (sym m.empty) in (
      subst (Consumes all (prepend_known new left)) (sym m.added_is) (taken-more all left old new line old p whole),
      subst HasNoLineFeed (sym m.added_is) (All-append (λ octet. octet ≢ 10) line old clear m.no_line_feed),
    )

pub feed_absurd : (octets : List ℕ) → HasNoLineFeed octets → Contains octets 10 → ⊥
feed_absurd octets clear found = clear found.0 10 found.1 found.2

-- the octet at a place of a range
at_range : (xs now : List ℕ) (start end i : ℕ) → now ≡ slice_range xs start end → end ≤ length xs → i < length now → (start + i < end) × (slice_index_or now i 10 ≡ slice_index xs (start + i))
at_range xs now start end i e bound within =
    let len : length now ≡ length (take (end - start) (drop start xs)) = ap length e in
    let below : i < end - start = omega (arith, len, length-take (end - start) (drop start xs)) in
    let same : slice_index_or now i 10 ≡ slice_index_or xs (start + i) 10 = ap (λ l. slice_index_or l i 10) e ∙ get_or-take (end - start) (drop start xs) i 10 below ∙ get_or-drop start xs i 10 in
    (omega arith, same ∙ get_or_default_zero xs (start + i) 10 (omega arith))

pub feed_within : (xs now : List ℕ) (start end place : ℕ) → now ≡ slice_range xs start end → end ≤ length xs → LinesEnd xs end place → start < place → Contains now 10
feed_within xs now start end place e bound at before =
    let len : length now ≡ end - start = ap length e ∙ length-take-le (end - start) (drop start xs) (omega (arith, length-drop start xs)) in
    let within : place - 1 - start < length now = omega (arith, at.within) in
    let place_is : start + (place - 1 - start) ≡ place - 1 = omega arith in
    (place - 1 - start, within, (at_range xs now start end (place - 1 - start) e bound within).1 ∙ ap (slice_index xs) place_is ∙ at.feed (omega arith))

pub feed_before : (xs now : List ℕ) (start end place : ℕ) → now ≡ slice_range xs start end → end ≤ length xs → LinesEnd xs end place → Contains now 10 → nat_lt start place ≡ true
feed_before xs now start end place e bound at found = by (nat_lt start place) refl
  where
    by : (b : Bool) → nat_lt start place ≡ b → b ≡ true
    by true is = refl
    by false is =
        let later : place ≤ start = grind (arith, nat_tests, is) in
        let here = at_range xs now start end found.0 e bound found.1 in
        absurd (at.none (start + found.0) (omega arith) here.0 (sym here.1 ∙ found.2))
