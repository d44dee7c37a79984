-- A line's front: its octets before its first `#`.
-- Used by `cut_line`.
use Rattle.std.proofs.Common.{◌≡◌, ◌<◌, ◌+◌, ℕ, suc, Bool, true, false, List, [], ◌∷◌, length, take, drop, get_or, map, None, Some, sym, refl, ap, ◌∙◌, subst, arith, inl, inr}
use Rattle.std.specs.Prelude.{◌==◌, ◌||◌}
use Rattle.std.specs.List.{position_or_len, before_first}
use Rattle.std.proofs.lemmas.List.{drop-drop}
use Rattle.std.proofs.lemmas.List.Sums.{position_or_len_is}
use Rattle.memchr.specs.Find.{IsFirstByte}
use Rattle.robots_text.specs.Cut.{behind_end, ends_front}
use Rattle.robots_text.specs.Lines.{is_line_end, lines_from}
use Rattle.robots_text.specs.Octets.{carriage_return, line_feed, number_sign}
use Rattle.robots_text.specs.Records.{is_number_sign, record_in, record_of}
use Rattle.robots_text.proofs.Cutting.{first_at, tells}

-- ---- the first octet that a search finds

not_true : (b : Bool) → (b ≡ true → ⊥) → b ≡ false
not_true true fails = absurd (fails refl)
not_true false fails = refl

pub found_first : (p : ℕ → Bool) (xs : List ℕ) (i : ℕ) → IsFirstByte p xs (Some i) → position_or_len p xs ≡ i
found_first p xs i first =
    let high = first.0.high in
    position_or_len_is p xs i 0 (omega (arith, high)) (λ k less. not_true (p (get_or xs k 0)) (first.0.before k (omega arith) less)) (λ _. first.1)

pub found_none : (p : ℕ → Bool) (xs : List ℕ) → IsFirstByte p xs None → position_or_len p xs ≡ length xs
found_none p xs none =
    position_or_len_is p xs (length xs) 0 (omega arith) (λ k less. not_true (p (get_or xs k 0)) (none k (omega arith) less)) (λ less. absurd (omega (arith, less)))

-- ---- the first octet passes, or not

pub at_first : (p : ℕ → Bool) (c : ℕ) (text : List ℕ) → p c ≡ true → position_or_len p (c ∷ text) ≡ 0
at_first p c text e = rw e refl

pub behind_first : (p : ℕ → Bool) (c : ℕ) (text : List ℕ) → p c ≡ false → position_or_len p (c ∷ text) ≡ suc (position_or_len p text)
behind_first p c text e = rw e (omega arith)

-- ---- the front of a line

end_ends : (cr lf sign : Bool) → (cr || lf) ≡ true → (cr || lf || sign) ≡ true
end_ends true lf sign e = refl
end_ends false true sign e = refl
end_ends false false sign e = absurd cc

sign_ends : (cr lf sign : Bool) → sign ≡ true → (cr || lf || sign) ≡ true
sign_ends true lf sign e = refl
sign_ends false true sign e = refl
sign_ends false false sign e = e

none_ends : (cr lf sign : Bool) → (cr || lf) ≡ false → sign ≡ false → (cr || lf || sign) ≡ false
none_ends true lf sign plain e = plain
none_ends false true sign plain e = plain
none_ends false false sign plain e = e

no_end : (cr lf sign : Bool) → (cr || lf || sign) ≡ false → (cr || lf) ≡ false
no_end true lf sign e = e
no_end false true sign e = e
no_end false false sign e = refl

line_of_front : (text : List ℕ) → position_or_len is_line_end text ≡ position_or_len ends_front text + position_or_len is_line_end (drop (position_or_len ends_front text) text)
line_of_front [] = omega arith
line_of_front (c ∷ text) = elim (tells (ends_front c)) [
  | inl e ↦ subst (λ n. position_or_len is_line_end (c ∷ text) ≡ n + position_or_len is_line_end (drop n (c ∷ text))) (sym (at_first ends_front c text e)) (omega arith)
  | inr e ↦ (
      let more = behind_first ends_front c text e in
      let plain = behind_first is_line_end c text (no_end (c == carriage_return) (c == line_feed) (c == number_sign) e) in
      let rest = line_of_front text in
      subst (λ n. position_or_len is_line_end (c ∷ text) ≡ n + position_or_len is_line_end (drop n (c ∷ text))) (sym more) (omega (arith, plain, rest))
      )
]

front_of_line : (text : List ℕ) → before_first is_number_sign (take (position_or_len is_line_end text) text) ≡ take (position_or_len ends_front text) text
front_of_line [] = refl
front_of_line (c ∷ text) = elim (tells (is_line_end c)) [
  | inl e ↦ (
      let ends = at_first ends_front c text (end_ends (c == carriage_return) (c == line_feed) (c == number_sign) e) in
      ap (λ n. before_first is_number_sign (take n (c ∷ text))) (at_first is_line_end c text e) ∙ ap (λ n. take n (c ∷ text)) (sym ends)
      )
  | inr plain ↦ (
      let line = position_or_len is_line_end text in
      let longer = ap (λ n. before_first is_number_sign (take n (c ∷ text))) (behind_first is_line_end c text plain) in
      elim (tells (is_number_sign c)) [
        | inl e ↦ longer ∙ ap (λ n. take n (c ∷ take line text)) (at_first is_number_sign c (take line text) e)
            ∙ ap (λ n. take n (c ∷ text)) (sym (at_first ends_front c text (sign_ends (c == carriage_return) (c == line_feed) (c == number_sign) e)))
        | inr e ↦ longer ∙ ap (λ n. take n (c ∷ take line text)) (behind_first is_number_sign c (take line text) e)
            ∙ ap (λ rest. c ∷ rest) (front_of_line text)
            ∙ ap (λ n. take n (c ∷ text)) (sym (behind_first ends_front c text (none_ends (c == carriage_return) (c == line_feed) (c == number_sign) plain e)))
      ]
      )
]

pub front_at : (text : List ℕ) → 0 < length text →
    map record_of (lines_from false text)
    ≡ record_in (take (position_or_len ends_front text) text)
    ∷ map record_of (lines_from false (behind_end (drop (position_or_len is_line_end (drop (position_or_len ends_front text) text)) (drop (position_or_len ends_front text) text))))
front_at text some =
    let front = position_or_len ends_front text in
    let rest = position_or_len is_line_end (drop front text) in
    let whole = drop-drop rest front text ∙ ap (λ n. drop n text) (sym (line_of_front text)) in
    ap (map record_of) (first_at text some)
    ∙ (λ i. record_in (front_of_line text i) ∷ map record_of (lines_from false (behind_end (sym whole i))))
