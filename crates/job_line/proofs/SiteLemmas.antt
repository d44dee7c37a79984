-- Indexes of several sites, and the words before and after a draw.
-- Used by `Steps`, `Plays` and the answers of `JobLine`.
use Rattle.std.proofs.Common.{◌≡◌, ℕ, zero, suc, ◌+◌, ◌<◌, ◌≤◌, Bool, true, false, List, [], ◌∷◌, ◌++◌, length, replicate, take, take-suc, ◌≢◌, ◌⊎◌, inl, inr, eqb, sym, refl, ap, ◌∙◌, arith}
use Rattle.std.specs.Prelude.{nat_lt, slice_index, slice_index_or, slice_set}
use Rattle.std.proofs.lemmas.Bool.{cond-false, cond-true, lt-ltb, le-ltb, ltb-true, ltb-false}
use Rattle.std.proofs.lemmas.Bool.Decides.{eqb_tells}
use Rattle.std.proofs.lemmas.List.{get_or-set_other}
use Rattle.job_line.specs.Sums.{begin_of, begins_from, jobs_in, weigh_below, weigh_firsts}
use Rattle.job_line.specs.Rule.{at_most, is_site, smaller}
use Rattle.job_line.proofs.SumLemmas.{weigh_below-one}

pub smaller-left : (n m : ℕ) → n < m → smaller n m ≡ n
smaller-left n m less = cond-true (nat_lt n m) n m (lt-ltb n m less)

pub smaller-right : (n m : ℕ) → m ≤ n → smaller n m ≡ m
smaller-right n m not_less = cond-false (nat_lt n m) n m (le-ltb n m not_less)

pub smaller-most : (n m : ℕ) → smaller n m ≤ m
smaller-most n m = step (nat_lt n m) refl
  where
    step : (b : Bool) → nat_lt n m ≡ b → smaller n m ≤ m
    step true is = let less = ltb-true n m is in let same = cond-true (nat_lt n m) n m is in omega (arith, less, same)
    step false is = let same = cond-false (nat_lt n m) n m is in omega (arith, same)

below-next : (weight : ℕ → ℕ) (word jobs : ℕ) → word < jobs → weigh_below weight (smaller (word + 1) jobs) ≡ weigh_below weight (smaller word jobs) + weight word
below-next weight word jobs less =
    let next : smaller (word + 1) jobs ≡ suc word = step (nat_lt (word + 1) jobs) refl in
    ap (weigh_below weight) next ∙ sym (ap (λ n. weigh_below weight n + weight word) (smaller-left word jobs less))
  where
    step : (b : Bool) → nat_lt (word + 1) jobs ≡ b → smaller (word + 1) jobs ≡ suc word
    step true is = cond-true (nat_lt (word + 1) jobs) (word + 1) jobs is ∙ omega arith
    step false is = let at = ltb-false (word + 1) jobs is in cond-false (nat_lt (word + 1) jobs) (word + 1) jobs is ∙ omega (arith, at, less)

-- the words after a draw at a site
abbrev pub next_words : List ℕ → ℕ → List ℕ
next_words words site = slice_set words site (slice_index words site + 1)

pub word_grows : (words : List ℕ) (site other : ℕ) → slice_index words other ≤ slice_index (next_words words site) other
word_grows [] site other = omega arith
word_grows (word ∷ words) zero zero = omega arith
word_grows (word ∷ words) zero (suc other) = omega arith
word_grows (word ∷ words) (suc site) zero = omega arith
word_grows (word ∷ words) (suc site) (suc other) = word_grows words site other

word_most : (words : List ℕ) (site other : ℕ) → slice_index (next_words words site) other ≤ slice_index words other + 1
word_most [] site other = omega arith
word_most (word ∷ words) zero zero = omega arith
word_most (word ∷ words) zero (suc other) = omega arith
word_most (word ∷ words) (suc site) zero = omega arith
word_most (word ∷ words) (suc site) (suc other) = word_most words site other

pub word_next : (words : List ℕ) (site other : ℕ) → slice_index (next_words words site) other ≤ slice_index words other + is_site other site
word_next words site other = tells (eqb_tells other site)
  where
    tells : ((eqb other site ≡ true) × (other ≡ site)) ⊎ ((eqb other site ≡ false) × (other ≢ site)) → slice_index (next_words words site) other ≤ slice_index words other + is_site other site
    tells (inl is) = let one : is_site other site ≡ 1 = cond-true (eqb other site) 1 0 is.0 in omega (arith, word_most words site other, one)
    tells (inr is) =
        let same : slice_index (next_words words site) other ≡ slice_index words other = get_or-set_other words site other (slice_index words site + 1) 0 is.1 in
        omega (arith, same)

pub word_drew : (counts words : List ℕ) (site other more : ℕ) → slice_index words site < slice_index counts site → slice_index words other ≤ slice_index counts other + more
    → slice_index (next_words words site) other ≤ slice_index counts other + more
word_drew counts [] site other more less most = most
word_drew [] (word ∷ words) site other more less most = absurd (omega (arith, less))
word_drew (count ∷ counts) (word ∷ words) zero zero more less most = omega (arith, less)
word_drew (count ∷ counts) (word ∷ words) zero (suc other) more less most = most
word_drew (count ∷ counts) (word ∷ words) (suc site) zero more less most = most
word_drew (count ∷ counts) (word ∷ words) (suc site) (suc other) more less most = word_drew counts words site other more less most

pub firsts-next : (weight : ℕ → ℕ) (counts words : List ℕ) (site : ℕ) → site < length words → slice_index words site < slice_index counts site
    → weigh_firsts weight counts (at_most counts (next_words words site)) ≡ weigh_firsts weight counts (at_most counts words) + weight (begin_of counts site + slice_index words site)
firsts-next weight [] words site there less = absurd (omega (arith, less))
firsts-next weight (count ∷ counts) [] site there less = absurd (omega (arith, there))
firsts-next weight (count ∷ counts) (word ∷ words) zero there less =
    let at : weight (0 + word) ≡ weight word = ap weight (omega arith) in
    let more = below-next weight word count less in
    omega (arith, at, more)
firsts-next weight (count ∷ counts) (word ∷ words) (suc site) there less =
    let at : weight (count + begin_of counts site + slice_index words site) ≡ weight (count + (begin_of counts site + slice_index words site)) = ap weight (omega arith) in
    let more = firsts-next (λ index. weight (count + index)) counts words site (omega (arith, there)) less in
    omega (arith, at, more)

pub at_most-same : (counts words : List ℕ) (site : ℕ) → slice_index counts site ≤ slice_index words site → at_most counts (next_words words site) ≡ at_most counts words
at_most-same [] words site end = refl
at_most-same (count ∷ counts) [] site end = refl
at_most-same (count ∷ counts) (word ∷ words) zero end =
    ap (λ first. first ∷ at_most counts words) (smaller-right (word + 1) count (omega (arith, end)) ∙ sym (smaller-right word count end))
at_most-same (count ∷ counts) (word ∷ words) (suc site) end = ap (λ firsts. smaller word count ∷ firsts) (at_most-same counts words site end)

pub at_most-within : (counts words : List ℕ) (site : ℕ) → slice_index (at_most counts words) site ≤ slice_index counts site
at_most-within [] words site = omega arith
at_most-within (count ∷ counts) [] zero = omega arith
at_most-within (count ∷ counts) [] (suc site) = at_most-within counts [] site
at_most-within (count ∷ counts) (word ∷ words) zero = smaller-most word count
at_most-within (count ∷ counts) (word ∷ words) (suc site) = at_most-within counts words site

pub at_most-all : (counts words : List ℕ) (site : ℕ) → slice_index counts site ≤ slice_index words site → slice_index (at_most counts words) site ≡ slice_index counts site
at_most-all [] words site end = refl
at_most-all (count ∷ counts) [] zero end = omega (arith, end)
at_most-all (count ∷ counts) [] (suc site) end = at_most-all counts [] site (omega (arith, end))
at_most-all (count ∷ counts) (word ∷ words) zero end = smaller-right word count end
at_most-all (count ∷ counts) (word ∷ words) (suc site) end = at_most-all counts words site end

pub at_most-whole : (counts words : List ℕ) → ((site : ℕ) → site < length counts → slice_index counts site ≤ slice_index words site) → at_most counts words ≡ counts
at_most-whole [] words ends = refl
at_most-whole (count ∷ counts) [] ends =
    let none : 0 ≡ count = let end = ends 0 (omega arith) in omega (arith, end) in
    let later : at_most counts [] ≡ counts = at_most-whole counts [] (λ site there. let end = ends (suc site) (omega (arith, there)) in omega (arith, end)) in
    λ i. none i ∷ later i
at_most-whole (count ∷ counts) (word ∷ words) ends =
    let here = smaller-right word count (ends 0 (omega arith)) in
    let later = at_most-whole counts words (λ site there. ends (suc site) (omega (arith, there))) in
    λ i. here i ∷ later i

below-add : (weight : ℕ → ℕ) (n m : ℕ) → weigh_below weight (n + m) ≡ weigh_below weight n + weigh_below (λ index. weight (n + index)) m
below-add weight n zero =
    let same : weigh_below weight (n + 0) ≡ weigh_below weight n = let is : n + 0 ≡ n = omega arith in ap (weigh_below weight) is in
    omega (arith, same)
below-add weight n (suc m) =
    let same : weigh_below weight (n + suc m) ≡ weigh_below weight (suc (n + m)) = let is : n + suc m ≡ suc (n + m) = omega arith in ap (weigh_below weight) is in
    let fewer = below-add weight n m in
    omega (arith, same, fewer)

pub firsts-whole : (weight : ℕ → ℕ) (counts : List ℕ) → weigh_firsts weight counts counts ≡ weigh_below weight (jobs_in counts)
firsts-whole weight [] = refl
firsts-whole weight (count ∷ counts) =
    let later = firsts-whole (λ index. weight (count + index)) counts in
    let both = below-add weight count (jobs_in counts) in
    omega (arith, later, both)

pub firsts-one : (counts words : List ℕ) → weigh_firsts (λ _. 1) counts (at_most counts words) ≤ jobs_in counts
firsts-one [] words = omega arith
firsts-one (count ∷ counts) [] = let later = firsts-one counts [] in omega (arith, later)
firsts-one (count ∷ counts) (word ∷ words) =
    let here = weigh_below-one (smaller word count) in
    let most = smaller-most word count in
    let later = firsts-one counts words in
    omega (arith, here, most, later)

pub firsts-none : (weight : ℕ → ℕ) (counts : List ℕ) (n : ℕ) → weigh_firsts weight counts (at_most counts (replicate n 0)) ≡ 0
firsts-none weight [] n = refl
firsts-none weight (count ∷ counts) zero = let later = firsts-none (λ index. weight (count + index)) counts zero in omega (arith, later)
firsts-none weight (count ∷ counts) (suc n) =
    let none : weigh_below weight (smaller 0 count) ≡ 0 = ap (weigh_below weight) (smaller-none count) in
    let later = firsts-none (λ index. weight (count + index)) counts n in
    omega (arith, none, later)
  where
    smaller-none : (n : ℕ) → smaller 0 n ≡ 0
    smaller-none zero = refl
    smaller-none (suc n) = smaller-left 0 (suc n) (omega arith)

pub word-none : (n site : ℕ) → slice_index (replicate n 0) site ≡ 0
word-none zero site = refl
word-none (suc n) zero = refl
word-none (suc n) (suc site) = word-none n site

pub begin-fits : (counts : List ℕ) (site : ℕ) → begin_of counts site + slice_index counts site ≤ jobs_in counts
begin-fits [] site = omega arith
begin-fits (count ∷ counts) zero = omega arith
begin-fits (count ∷ counts) (suc site) = let later = begin-fits counts site in omega (arith, later)

pub begins-at : (begin : ℕ) (counts : List ℕ) (site : ℕ) → site < length counts → slice_index (begins_from begin counts) site ≡ begin + begin_of counts site
begins-at begin [] site there = absurd (omega (arith, there))
begins-at begin (count ∷ counts) zero there = omega arith
begins-at begin (count ∷ counts) (suc site) there = let later = begins-at (begin + count) counts site (omega (arith, there)) in omega (arith, later)

pub length-begins : (begin : ℕ) (counts : List ℕ) → length (begins_from begin counts) ≡ length counts
length-begins begin [] = refl
length-begins begin (count ∷ counts) = ap suc (length-begins (begin + count) counts)

pub jobs_in-push : (counts : List ℕ) (count : ℕ) → jobs_in (counts ++ count ∷ []) ≡ jobs_in counts + count
jobs_in-push [] count = omega arith
jobs_in-push (first ∷ counts) count = let later = jobs_in-push counts count in omega (arith, later)

pub begins-push : (begin : ℕ) (counts : List ℕ) (count : ℕ) → begins_from begin (counts ++ count ∷ []) ≡ begins_from begin counts ++ (begin + jobs_in counts) ∷ []
begins-push begin [] count = ap (λ n. n ∷ []) (omega arith)
begins-push begin (first ∷ counts) count =
    ap (λ rest. begin ∷ rest) (begins-push (begin + first) counts count) ∙ ap (λ n. begin ∷ (begins_from (begin + first) counts ++ n ∷ [])) (omega arith)

pub taken-next : (counts : List ℕ) (n : ℕ) → n < length counts → take (n + 1) counts ≡ take n counts ++ slice_index counts n ∷ []
taken-next counts n there = let is : n + 1 ≡ suc n = omega arith in ap (λ m. take m counts) is ∙ take-suc counts n 0 there

pub taken-fits : (counts : List ℕ) (n : ℕ) → n < length counts → jobs_in (take n counts) + slice_index counts n ≤ jobs_in counts
taken-fits [] n there = absurd (omega (arith, there))
taken-fits (count ∷ counts) zero there = omega arith
taken-fits (count ∷ counts) (suc n) there = let later = taken-fits counts n (omega (arith, there)) in omega (arith, later)

pub none_ended : (ended : List Bool) (n site : ℕ) → ended ≡ replicate n false → slice_index_or ended site false ≡ false
none_ended ended n site is = ap (λ ended. slice_index_or ended site false) is ∙ all_false n site
  where
    all_false : (n site : ℕ) → slice_index_or (replicate n false) site false ≡ false
    all_false zero site = refl
    all_false (suc n) zero = refl
    all_false (suc n) (suc site) = all_false n site
