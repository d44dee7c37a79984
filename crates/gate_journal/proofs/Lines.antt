-- What a crash leaves of lines, line by line.
-- Used by the law `a_crash_leaves_lines`.
use Rattle.std.proofs.Common.{◌≡◌, ℕ, zero, suc, pred, ◌+◌, ◌-◌, ◌<◌, ◌≤◌, inl, inr, List, [], ◌∷◌, ◌++◌, refl, sym, ap, subst, ◌∙◌, length, take, get_or, length-append, append_assoc, arith}
use Rattle.std.proofs.lemmas.Bool.{cases_lt}
use Rattle.std.proofs.lemmas.List.{take-append-le, take_all, length-take, get_or-take}
use Rattle.std.proofs.lemmas.List.Elements.{All-head, All-tail}
use Rattle.std.proofs.Math.Seq.{take-append-add}
use Rattle.counted_io.specs.Lines.{line_feed, HasNoLineFeed}
use Rattle.journal.specs.Crash.{MayLeave}
use Rattle.history_text.specs.SpellBase.{ended, lines_text}
use Rattle.crawl_audit.specs.Recovering.{IsCut}
use Rattle.gate_journal.specs.Crashes.{AreFirstLines, CrashLeavesLines}

ended_len : (line : List ℕ) → length (ended line) ≡ length line + 1
ended_len line = length-append line (line_feed ∷ [])

feed_at : (line rest : List ℕ) (d : ℕ) → get_or (ended line ++ rest) (length line) d ≡ 10
feed_at [] rest d = refl
feed_at (x ∷ line) rest d = feed_at line rest d

-- octets that begin with a line have a line feed
has_feed : (octets line rest : List ℕ) → octets ≡ ended line ++ rest → HasNoLineFeed octets → ⊥
has_feed octets line rest is clear =
    clear (length line) 0 (omega (arith, ap length is, length-append (ended line) rest, ended_len line))
    (ap (λ o. get_or o (length line) 0) is ∙ feed_at line rest 0)

-- a prefix of a line has none
clear_front : (line : List ℕ) (size : ℕ) → HasNoLineFeed line → HasNoLineFeed (take size line)
clear_front line size clear = λ k d within.
    let inside : k < length line = omega (arith, within, length-take size line) in
    let under : k < size = omega (arith, within, length-take size line) in
    λ feed. clear k d inside (sym (get_or-take size line k d under) ∙ feed)

-- texts that begin with a line begin with one alone
one_line : (l l' r r' : List ℕ) → HasNoLineFeed l → HasNoLineFeed l' → ended l ++ r ≡ ended l' ++ r' → (l ≡ l') × (r ≡ r')
one_line [] [] r r' clear clear' is = (refl, cc)
one_line [] (o ∷ l') r r' clear clear' is = absurd (All-head (λ (octet : ℕ). octet ≡ 10 → ⊥) o l' clear' (sym (ap (λ k. get_or k 0 0) is)))
one_line (o ∷ l) [] r r' clear clear' is = absurd (All-head (λ (octet : ℕ). octet ≡ 10 → ⊥) o l clear (ap (λ k. get_or k 0 0) is))
one_line (o ∷ l) (p ∷ l') r r' clear clear' is =
    let first : o ≡ p = cc in
    let rest : ended l ++ r ≡ ended l' ++ r' = cc in
    let same = one_line l l' r r' (All-tail (λ (octet : ℕ). octet ≡ 10 → ⊥) o l clear) (All-tail (λ (octet : ℕ). octet ≡ 10 → ⊥) p l' clear') rest in
    (ap (λ k. o ∷ k) same.0 ∙ ap (λ q. q ∷ l') first, same.1)

told_rest : (line : List ℕ) (lines : List (List ℕ)) (told kept : ℕ) → told ≤ length (line ∷ lines) → length (lines_text (take told (line ∷ lines))) ≤ kept
    → (pred told ≤ length lines) × (length (lines_text (take (pred told) lines)) ≤ kept - length (ended line)) × (0 < told → length (ended line) ≤ kept)
told_rest line lines zero kept fits long = (omega arith, omega arith, λ none. absurd (omega (arith, none)))
told_rest line lines (suc told) kept fits long =
    let sum = length-append (ended line) (lines_text (take told lines)) in
    (omega (arith, fits), omega (arith, long, sum), λ _. omega (arith, long, sum))

told_more : (told count : ℕ) → pred told ≤ count → told ≤ suc count
told_more zero count le = omega arith
told_more (suc told) count le = omega (arith, le)

first_more : (line : List ℕ) (lines : List (List ℕ)) (told : ℕ) (rest found : List (List ℕ)) → AreFirstLines lines (pred told) rest → found ≡ line ∷ rest → AreFirstLines (line ∷ lines) told found
first_more line lines told rest found first is = record {
  count = suc first.count;
  least = told_more told first.count first.least;
  within = omega (arith, first.within);
  found_are = is ∙ ap (λ l. line ∷ l) first.found_are;
}

no_line : (lines : List (List ℕ)) (told : ℕ) → (0 < told → ⊥) → AreFirstLines lines told []
no_line lines told none = record {
  count = 0;
  least = elim (cases_lt 0 told) [ inl some ↦ absurd (none some) | inr not ↦ not ];
  within = omega arith;
  found_are = refl;
}

-- of a line that is not left whole no octet is a line feed
torn_clear : (line : List ℕ) (lines : List (List ℕ)) (kept : ℕ) (left : List ℕ) → HasNoLineFeed line → (leaves : MayLeave (lines_text (line ∷ lines)) kept left)
    → leaves.size < length (ended line) → HasNoLineFeed left
torn_clear line lines kept left clear leaves torn =
    let part : left ≡ take leaves.size line =
    leaves.front ∙ take-append-le leaves.size (ended line) (lines_text lines) (omega (arith, torn))
    ∙ take-append-le leaves.size line (line_feed ∷ []) (omega (arith, torn, ended_len line)) in
    subst HasNoLineFeed (sym part) (clear_front line leaves.size clear)

-- behind a line that is left whole come the others
left_rest : (line : List ℕ) (lines : List (List ℕ)) (kept : ℕ) (left : List ℕ) (leaves : MayLeave (lines_text (line ∷ lines)) kept left)
    → length (ended line) ≤ leaves.size → (rest : List ℕ) × (left ≡ ended line ++ rest) × MayLeave (lines_text lines) (kept - length (ended line)) rest
left_rest line lines kept left leaves more =
    let size : ℕ = leaves.size - length (ended line) in
    let size_is : leaves.size ≡ length (ended line) + size = omega (arith, more) in (
      take size (lines_text lines),
      leaves.front ∙ ap (λ n. take n (lines_text (line ∷ lines))) size_is ∙ take-append-add (ended line) (lines_text lines) size,
      record { size = size; least = omega (arith, leaves.least, size_is); front = refl },
    )

-- the cut begins with the line that is left whole
cut_rest : (line left rest : List ℕ) (w : List ℕ) (found : List (List ℕ)) → HasNoLineFeed line → left ≡ ended line ++ rest → IsCut left (w ∷ found) → (w ≡ line) × IsCut rest found
cut_rest line left rest w found clear is cut =
    let text_is = sym (append_assoc (ended w) (lines_text found) cut.torn) ∙ sym cut.text_is ∙ is in
    let same = one_line w line (lines_text found ++ cut.torn) rest (All-head HasNoLineFeed w found cut.are_lines) clear text_is in (
      same.0,
      record {
        are_lines = All-tail HasNoLineFeed w found cut.are_lines;
        torn = cut.torn;
        no_line_feed = cut.no_line_feed;
        text_is = sym same.1;
      },
    )

pub leaves_lines : CrashLeavesLines
leaves_lines [] told kept left [] clear fits long leaves cut = no_line [] told (λ some. absurd (omega (arith, some, fits)))
leaves_lines [] told kept left (w ∷ found) clear fits long leaves cut =
    let empty : left ≡ [] = leaves.front ∙ take_all leaves.size [] (omega arith) in
    absurd (omega (arith, ap length empty, ap length cut.text_is, length-append (lines_text (w ∷ found)) cut.torn, length-append (ended w) (lines_text found), ended_len w))
leaves_lines (line ∷ lines) told kept left [] clear fits long leaves cut = elim (cases_lt leaves.size (length (ended line))) [
  | inl torn ↦ no_line (line ∷ lines) told (λ some. absurd (omega (arith, torn, leaves.least, (told_rest line lines told kept fits long).2 some)))
  | inr more ↦
      let rest = left_rest line lines kept left leaves more in
      absurd (has_feed cut.torn line rest.0 (sym cut.text_is ∙ rest.1) cut.no_line_feed)
]
leaves_lines (line ∷ lines) told kept left (w ∷ found) clear fits long leaves cut = elim (cases_lt leaves.size (length (ended line))) [
  | inl torn ↦
      absurd (has_feed left w (lines_text found ++ cut.torn) (cut.text_is ∙ append_assoc (ended w) (lines_text found) cut.torn)
      (torn_clear line lines kept left (All-head HasNoLineFeed line lines clear) leaves torn))
  | inr more ↦
      let rest = left_rest line lines kept left leaves more in
      let behind = cut_rest line left rest.0 w found (All-head HasNoLineFeed line lines clear) rest.1 cut in
      let less = told_rest line lines told kept fits long in
      let first = leaves_lines lines (pred told) (kept - length (ended line)) rest.0 found (All-tail HasNoLineFeed line lines clear) less.0 less.1 rest.2 behind.1 in
      first_more line lines told found (w ∷ found) first (ap (λ l. l ∷ found) behind.0)
]
