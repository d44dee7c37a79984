-- Where an input's robots text ends: no lines of URLs begin before a place.
-- Used by `split_input`.
use Rattle.std.proofs.Common.{◌≡◌, ◌≤◌, ◌<◌, ◌+◌, ◌-◌, inl, inr, ℕ, List, [], ◌∷◌, ◌++◌, length, take, drop, slice_index, slice_index_or, refl, sym, ap, subst, ◌∙◌, append_assoc, arith}
use Rattle.std.proofs.lemmas.Bool.{cases_lt}
use Rattle.std.proofs.lemmas.List.{get_or-take, length-append, length-drop, length-take-le, take-append-drop, take_more}
use Rattle.std.proofs.Math.Seq.{get_or-append_seam, take-add}
use Rattle.counted_io.specs.Lines.{IsPart, line_feed}
use Rattle.robots_check.specs.Input.{EndsLine, IsEmptyLine, IsLineLen, UrlsBehind, UrlsFirst, UrlsFollow, UrlsNowhere}

-- no lines of URLs begin before the place, and if an octet follows it a line begins there
pub record IsPassed (input : List ℕ) (place : ℕ) : Type 0 where
  pub within : place ≤ length input
  pub line : place < length input → EndsLine (take place input)
  pub none_before : (other more : List ℕ) → UrlsBehind input other more → place ≤ length other

between : (front left other more : List ℕ) → front ++ left ≡ other ++ more → length front ≤ length other → (gap : List ℕ) × (other ≡ front ++ gap) × (left ≡ gap ++ more)
between [] left other more same shorter = (other, refl, same)
between (x ∷ front) left [] more same shorter = absurd (omega (arith, shorter))
between (x ∷ front) left (y ∷ other) more same shorter =
    let rest = between front left other more (ap (drop 1) same) (omega (arith, shorter)) in
    let head : x ≡ y = ap (λ l. slice_index l 0) same in
    (rest.0, ap (λ l. y ∷ l) rest.1 ∙ ap (λ z. z ∷ (front ++ rest.0)) (sym head), rest.2)

some_octet : (empty : List ℕ) → IsEmptyLine empty → 0 < length empty
some_octet empty (inl e) = subst (λ l. 0 < length l) (sym e) (omega arith)
some_octet empty (inr e) = subst (λ l. 0 < length l) (sym e) (omega arith)

ends_behind : (front gap before : List ℕ) → 0 < length gap → front ++ gap ≡ before ++ line_feed ∷ [] → (b : List ℕ) × (gap ≡ b ++ line_feed ∷ [])
ends_behind front gap before some same =
    let lengths : length front + length gap ≡ length before + 1 = sym (length-append front gap) ∙ ap length same ∙ length-append before (line_feed ∷ []) in
    let rest = between front gap before (line_feed ∷ []) same (omega (arith, some, lengths)) in
    (rest.0, rest.2)

feed_at : (left b more : List ℕ) → left ≡ b ++ line_feed ∷ more → slice_index_or left (length b) line_feed ≡ line_feed
feed_at left b more split = ap (λ l. slice_index_or l (length b) line_feed) split ∙ get_or-append_seam b line_feed more line_feed

up_to_feed : (left b more : List ℕ) (before : ℕ) → IsPart left before → left ≡ b ++ line_feed ∷ more → before ≤ length b
up_to_feed left b more before part split = elim (cases_lt (length b) before) [
  | inl early ↦ (let stands : slice_index_or (take before left) (length b) line_feed ≡ line_feed = get_or-take before left (length b) line_feed early ∙ feed_at left b more split in
      absurd (part.no_line_feed (length b) line_feed (omega (arith, early, length-take-le before left part.within)) stands))
  | inr late ↦ late
]

longer_split : (left b more : List ℕ) → left ≡ b ++ line_feed ∷ more → length b < length left
longer_split left b more split = let lengths : length left ≡ length b + length (line_feed ∷ more) = ap length split ∙ length-append b (line_feed ∷ more) in omega (arith, lengths)

len_within : (left b : List ℕ) (len : ℕ) → (is : IsLineLen left len) → is.before ≤ length b → length b < length left → len ≤ length b + 1
len_within left b len is up less = let e = is.with_end (omega (arith, up, less)) in omega (arith, e, up)

past_line : (left more b : List ℕ) (len : ℕ) → IsLineLen left len → left ≡ (b ++ line_feed ∷ []) ++ more → len ≤ length (b ++ line_feed ∷ [])
past_line left more b len is split =
    let there : left ≡ b ++ line_feed ∷ more = split ∙ append_assoc b (line_feed ∷ []) more in
    let short = len_within left b len is (up_to_feed left b more is.before is.part there) (longer_split left b more there) in
    omega (arith, short, length-append b (line_feed ∷ []))

pub stops : (input : List ℕ) (place : ℕ) (front left lines : List ℕ) → IsPassed input place → place < length input → front ≡ take place input → left ≡ drop place input → UrlsFollow left lines → UrlsFirst input front lines
stops input place front left lines passed some front_is left_is follow = record {
  behind = record {
    left = left;
    split = sym (ap (λ l. l ++ left) front_is ∙ ap (λ l. take place input ++ l) left_is ∙ take-append-drop place input);
    ends = subst EndsLine (sym front_is) (passed.line some);
    follow = follow;
  };
  first = λ other more behind. let before = passed.none_before other more behind in omega (arith, before, ap length front_is, length-take-le place input passed.within);
}

-- if lines of URLs don't follow at once, the gap before them has the whole first line
gap_past : (front left other more lines gap : List ℕ) (len : ℕ) → ((rest : List ℕ) → UrlsFollow left rest → ⊥) → IsLineLen left len → other ≡ front ++ gap → left ≡ gap ++ more → EndsLine other → UrlsFollow more lines → len ≤ length gap
gap_past front left other more lines [] len none is other_is left_is ends follow = absurd (none lines (subst (λ l. UrlsFollow l lines) (sym left_is) follow))
gap_past front left other more lines (x ∷ gap) len none is other_is left_is (inl empty) follow =
    let lengths : 0 ≡ length front + length (x ∷ gap) = sym (ap length empty) ∙ ap length other_is ∙ length-append front (x ∷ gap) in absurd (omega (arith, lengths))
gap_past front left other more lines (x ∷ gap) len none is other_is left_is (inr (before, fed)) follow =
    let ended = ends_behind front (x ∷ gap) before (omega arith) (sym other_is ∙ fed) in
    subst (λ l. len ≤ length l) (sym ended.1) (past_line left more ended.0 len is (left_is ∙ ap (λ l. l ++ more) ended.1))

-- if no lines of URLs follow at once, none begin within the first line
still_none : (input : List ℕ) (place len : ℕ) (left : List ℕ) → IsPassed input place → left ≡ drop place input → ((rest : List ℕ) → UrlsFollow left rest → ⊥) → IsLineLen left len →
    (other lines : List ℕ) → UrlsBehind input other lines → place + len ≤ length other
still_none input place len left passed left_is none is other lines behind =
    let before = passed.none_before other lines behind in
    let fronts : take place input ++ left ≡ other ++ behind.left = ap (λ l. take place input ++ l) left_is ∙ take-append-drop place input ∙ behind.split in
    let front_len = length-take-le place input passed.within in
    let rest = between (take place input) left other behind.left fronts (omega (arith, before, front_len)) in
    let past = gap_past (take place input) left other behind.left lines rest.0 len none is rest.1 rest.2 behind.ends behind.follow in
    let lengths : length other ≡ length (take place input) + length rest.0 = ap length rest.1 ∙ length-append (take place input) rest.0 in
    omega (arith, past, front_len, lengths)

left_length : (input left : List ℕ) (place : ℕ) → left ≡ drop place input → length left ≡ length input - place
left_length input left place is = ap length is ∙ length-drop place input

line_behind : (input left : List ℕ) (place len : ℕ) → place ≤ length input → left ≡ drop place input → (is : IsLineLen left len) → place + len < length input → EndsLine (take (place + len) input)
line_behind input left place len within left_is is some =
    let lengths = left_length input left place left_is in
    elim (cases_lt is.before (length left)) [
      | inl fed ↦ (
          let e = is.with_end fed in
          let more : take len left ≡ take is.before left ++ line_feed ∷ [] = ap (λ n. take n left) e ∙ take_more left is.before 0 fed ∙ ap (λ x. take is.before left ++ x ∷ []) (is.part.then_line_feed fed) in
          inr (
            take place input ++ take is.before left,
            take-add place len input ∙ ap (λ l. take place input ++ take len l) (sym left_is) ∙ ap (λ l. take place input ++ l) more ∙ sym (append_assoc (take place input) (take is.before left) (line_feed ∷ [])),
          )
          )
      | inr whole ↦ (let e = is.without_end whole in absurd (omega (arith, e, whole, some, lengths)))
    ]

len_fits : (left : List ℕ) (len : ℕ) → IsLineLen left len → len ≤ length left
len_fits left len is = elim (cases_lt is.before (length left)) [
  | inl fed ↦ (let e = is.with_end fed in omega (arith, e, fed))
  | inr whole ↦ (let e = is.without_end whole in omega (arith, e, is.part.within))
]

pub passed_on : (input : List ℕ) (place len : ℕ) (left : List ℕ) → IsPassed input place → left ≡ drop place input → ((rest : List ℕ) → UrlsFollow left rest → ⊥) → IsLineLen left len → IsPassed input (place + len)
passed_on input place len left passed left_is none is = record {
  within = omega (arith, passed.within, len_fits left len is, left_length input left place left_is);
  line = line_behind input left place len passed.within left_is is;
  none_before = still_none input place len left passed left_is none is;
}

behind_short : (input other lines : List ℕ) → UrlsBehind input other lines → length other < length input
behind_short input other lines behind =
    let follow = behind.follow.follow in
    let some = some_octet follow.0 follow.1 in
    let lengths : length input ≡ length other + length behind.left = ap length behind.split ∙ length-append other behind.left in
    let parts : length behind.left ≡ length follow.0 + length lines = ap length follow.2 ∙ length-append follow.0 lines in
    omega (arith, some, lengths, parts)

pub nowhere : (input : List ℕ) (place : ℕ) → IsPassed input place → length input ≤ place → UrlsNowhere input input []
nowhere input place passed end = record {
  all = refl;
  none = refl;
  nowhere = λ other more behind. let before = passed.none_before other more behind in absurd (omega (arith, before, end, behind_short input other more behind));
}
