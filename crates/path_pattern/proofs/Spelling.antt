-- Texts are ordered as the numbers of their first octets.
-- Used by `compare_texts`, and by keys.
use Rattle.std.proofs.Common.{◌≡◌, ◌⊎◌, ℕ, ◌+◌, ◌-◌, ◌*◌, ◌^◌, ◌<◌, ◌≤◌, true, false, inl, inr, List, [], ◌∷◌, length, take, drop, get_or, refl, sym, ap, ◌∙◌, zero, suc, arith}
use Rattle.std.specs.declared.cmp.Ordering.{Ordering}
use Rattle.std.specs.declared.cmp.Ordering.TheVariants.{Less, Equal, Greater}
use Rattle.std.specs.Cmp.{nat_cmp_is}
use Rattle.std.specs.Ordering.{is_ne, nat_cmp, ordering_then}
use Rattle.std.specs.Cmp.Lexicographic.{slice_cmp}
use Rattle.std.proofs.lemmas.Bool.{cases_order, true≢false}
use Rattle.std.proofs.lemmas.List.{get_or-drop, length-drop, take_all}
use Rattle.path_pattern.specs.Texts.{AreOctets, spelled_number}

abbrev pub words : List ℕ → List ℕ → Ordering
words = slice_cmp nat_cmp

pub later : (octet : ℕ) (text : List ℕ) → AreOctets (octet ∷ text) → AreOctets text
later octet text are i = are (suc i)

pub none : AreOctets []
none i = omega arith

pub spell_less : (n a b : ℕ) (p q : List ℕ) → a < b → AreOctets p → AreOctets q → spelled_number n a p < spelled_number n b q
spell_less zero a b p q less are also = less
spell_less (suc n) a b [] [] less are also = spell_less n (a * 256) (b * 256) [] [] (omega (arith, less)) none none
spell_less (suc n) a b [] (y ∷ q) less are also = spell_less n (a * 256) (b * 256 + y) [] q (omega (arith, less)) none (later y q also)
spell_less (suc n) a b (x ∷ p) [] less are also = spell_less n (a * 256 + x) (b * 256) p [] (let small : x < 256 = are 0 in omega (arith, less, small)) (later x p are) none
spell_less (suc n) a b (x ∷ p) (y ∷ q) less are also =
    spell_less n (a * 256 + x) (b * 256 + y) p q (let small : x < 256 = are 0 in omega (arith, less, small)) (later x p are) (later y q also)

pub spell_least : (n a b : ℕ) (q : List ℕ) → a ≤ b → spelled_number n a [] ≤ spelled_number n b q
spell_least zero a b q less = less
spell_least (suc n) a b [] less = spell_least n (a * 256) (b * 256) [] (omega (arith, less))
spell_least (suc n) a b (y ∷ q) less = spell_least n (a * 256) (b * 256 + y) q (omega (arith, less))

pub is_less : (x y : ℕ) → x < y → nat_cmp x y ≡ Less
is_less x y less = sym (nat_cmp_is x y Less less)

pub is_equal : (x y : ℕ) → x ≡ y → nat_cmp x y ≡ Equal
is_equal x y same = sym (nat_cmp_is x y Equal same)

pub is_greater : (x y : ℕ) → y < x → nat_cmp x y ≡ Greater
is_greater x y less = sym (nat_cmp_is x y Greater less)

pub by_numbers : (n a : ℕ) (p q : List ℕ) → n ≤ length p → n ≤ length q → AreOctets p → AreOctets q →
    words p q ≡ ordering_then (nat_cmp (spelled_number n a p) (spelled_number n a q)) (words (drop n p) (drop n q))
by_numbers zero a p q here there are also = ap (λ (o : Ordering). ordering_then o (words p q)) (sym (is_equal a a refl))
by_numbers (suc n) a [] q here there are also = absurd (omega (arith, here))
by_numbers (suc n) a (x ∷ p) [] here there are also = absurd (omega (arith, there))
by_numbers (suc n) a (x ∷ p) (y ∷ q) here there are also = by (by_numbers n (a * 256 + x) p q (omega (arith, here)) (omega (arith, there)) (later x p are) (later y q also)) (cases_order x y)
  where
    behind : Ordering
    behind = words (drop n p) (drop n q)

    by : words p q ≡ ordering_then (nat_cmp (spelled_number n (a * 256 + x) p) (spelled_number n (a * 256 + x) q)) behind → (x ≡ y) ⊎ ((x < y) ⊎ (y < x)) →
        ordering_then (nat_cmp x y) (words p q) ≡ ordering_then (nat_cmp (spelled_number n (a * 256 + x) p) (spelled_number n (a * 256 + y) q)) behind
    by next (inl same) =
        ap (λ (o : Ordering). ordering_then o (words p q)) (is_equal x y same)
        ∙ next
        ∙ ap (λ (z : ℕ). ordering_then (nat_cmp (spelled_number n (a * 256 + x) p) (spelled_number n (a * 256 + z) q)) behind) same
    by next (inr (inl less)) =
        ap (λ (o : Ordering). ordering_then o (words p q)) (is_less x y less)
        ∙ ap (λ (o : Ordering). ordering_then o behind)
        (sym (is_less (spelled_number n (a * 256 + x) p) (spelled_number n (a * 256 + y) q)
        (spell_less n (a * 256 + x) (a * 256 + y) p q (omega (arith, less)) (later x p are) (later y q also))))
    by next (inr (inr more)) =
        ap (λ (o : Ordering). ordering_then o (words p q)) (is_greater x y more)
        ∙ ap (λ (o : Ordering). ordering_then o behind)
        (sym (is_greater (spelled_number n (a * 256 + x) p) (spelled_number n (a * 256 + y) q)
        (spell_less n (a * 256 + y) (a * 256 + x) q p (omega (arith, more)) (later y q also) (later x p are))))

pub first_eight : (a : ℕ) (text : List ℕ) → spelled_number 8 a text
    ≡ ((((((((a * 256 + get_or text 0 0) * 256 + get_or text 1 0) * 256 + get_or text 2 0) * 256 + get_or text 3 0) * 256 + get_or text 4 0) * 256 + get_or text 5 0) * 256 + get_or text 6 0) * 256
    + get_or text 7 0)
first_eight n [] = omega arith
first_eight n (a ∷ []) = omega arith
first_eight n (a ∷ b ∷ []) = omega arith
first_eight n (a ∷ b ∷ c ∷ []) = omega arith
first_eight n (a ∷ b ∷ c ∷ d ∷ []) = omega arith
first_eight n (a ∷ b ∷ c ∷ d ∷ e ∷ []) = omega arith
first_eight n (a ∷ b ∷ c ∷ d ∷ e ∷ f ∷ []) = omega arith
first_eight n (a ∷ b ∷ c ∷ d ∷ e ∷ f ∷ g ∷ []) = omega arith
first_eight n (a ∷ b ∷ c ∷ d ∷ e ∷ f ∷ g ∷ h ∷ text) = omega arith

two_halves : (text : List ℕ) → spelled_number 16 0 text ≡ spelled_number 8 (spelled_number 8 0 text) (drop 8 text)
two_halves [] = refl
two_halves (a ∷ []) = refl
two_halves (a ∷ b ∷ []) = refl
two_halves (a ∷ b ∷ c ∷ []) = refl
two_halves (a ∷ b ∷ c ∷ d ∷ []) = refl
two_halves (a ∷ b ∷ c ∷ d ∷ e ∷ []) = refl
two_halves (a ∷ b ∷ c ∷ d ∷ e ∷ f ∷ []) = refl
two_halves (a ∷ b ∷ c ∷ d ∷ e ∷ f ∷ g ∷ []) = refl
two_halves (a ∷ b ∷ c ∷ d ∷ e ∷ f ∷ g ∷ h ∷ text) = refl

pub halves : (text : List ℕ) → spelled_number 16 0 text ≡ spelled_number 8 0 text * 2 ^ 64 + spelled_number 8 0 (drop 8 text)
halves text =
    let front = spelled_number 8 0 text in
    let rest = drop 8 text in
    two_halves text ∙ (let whole = first_eight front rest in let half = first_eight 0 rest in omega (arith, whole, half))

pub by_front : (n a : ℕ) (p q : List ℕ) → AreOctets p → AreOctets q → words p q ≡ ordering_then (nat_cmp (spelled_number n a p) (spelled_number n a q)) (words p q)
by_front zero a p q are also = ap (λ (o : Ordering). ordering_then o (words p q)) (sym (is_equal a a refl))
by_front (suc n) a [] [] are also = by_front n (a * 256) [] [] none none
by_front (suc n) a [] (y ∷ q) are also =
    by_least (spelled_number n (a * 256) []) (spelled_number n (a * 256 + y) q) (spell_least n (a * 256) (a * 256 + y) q (omega arith)) (cases_order (spelled_number n (a * 256) []) (spelled_number n (a * 256 + y) q))
  where
    by_least : (low high : ℕ) → low ≤ high → (low ≡ high) ⊎ ((low < high) ⊎ (high < low)) → Less ≡ ordering_then (nat_cmp low high) Less
    by_least low high order (inl same) = ap (λ (o : Ordering). ordering_then o Less) (sym (is_equal low high same))
    by_least low high order (inr (inl less)) = ap (λ (o : Ordering). ordering_then o Less) (sym (is_less low high less))
    by_least low high order (inr (inr more)) = absurd (omega (arith, order, more))
by_front (suc n) a (x ∷ p) [] are also =
    by_least (spelled_number n (a * 256) []) (spelled_number n (a * 256 + x) p) (spell_least n (a * 256) (a * 256 + x) p (omega arith)) (cases_order (spelled_number n (a * 256) []) (spelled_number n (a * 256 + x) p))
  where
    by_least : (low high : ℕ) → low ≤ high → (low ≡ high) ⊎ ((low < high) ⊎ (high < low)) → Greater ≡ ordering_then (nat_cmp high low) Greater
    by_least low high order (inl same) = ap (λ (o : Ordering). ordering_then o Greater) (sym (is_equal high low (sym same)))
    by_least low high order (inr (inl less)) = ap (λ (o : Ordering). ordering_then o Greater) (sym (is_greater high low less))
    by_least low high order (inr (inr more)) = absurd (omega (arith, order, more))
by_front (suc n) a (x ∷ p) (y ∷ q) are also = by (by_front n (a * 256 + x) p q (later x p are) (later y q also)) (cases_order x y)
  where
    by : words p q ≡ ordering_then (nat_cmp (spelled_number n (a * 256 + x) p) (spelled_number n (a * 256 + x) q)) (words p q) → (x ≡ y) ⊎ ((x < y) ⊎ (y < x)) →
        ordering_then (nat_cmp x y) (words p q)
        ≡ ordering_then (nat_cmp (spelled_number n (a * 256 + x) p) (spelled_number n (a * 256 + y) q)) (ordering_then (nat_cmp x y) (words p q))
    by next (inl same) =
        let tie : ordering_then (nat_cmp x y) (words p q) ≡ words p q = ap (λ (o : Ordering). ordering_then o (words p q)) (is_equal x y same) in
        tie
        ∙ next
        ∙ (λ i. ordering_then (nat_cmp (spelled_number n (a * 256 + x) p) (spelled_number n (a * 256 + same i) q)) (sym tie i))
    by next (inr (inl less)) =
        let first : ordering_then (nat_cmp x y) (words p q) ≡ Less = ap (λ (o : Ordering). ordering_then o (words p q)) (is_less x y less) in
        first
        ∙ ap (λ (o : Ordering). ordering_then o (ordering_then (nat_cmp x y) (words p q)))
        (sym (is_less (spelled_number n (a * 256 + x) p) (spelled_number n (a * 256 + y) q)
        (spell_less n (a * 256 + x) (a * 256 + y) p q (omega (arith, less)) (later x p are) (later y q also))))
    by next (inr (inr more)) =
        let first : ordering_then (nat_cmp x y) (words p q) ≡ Greater = ap (λ (o : Ordering). ordering_then o (words p q)) (is_greater x y more) in
        first
        ∙ ap (λ (o : Ordering). ordering_then o (ordering_then (nat_cmp x y) (words p q)))
        (sym (is_greater (spelled_number n (a * 256 + x) p) (spelled_number n (a * 256 + y) q)
        (spell_less n (a * 256 + y) (a * 256 + x) q p (omega (arith, more)) (later y q also) (later x p are))))

pub unequal_first : (first second : Ordering) → is_ne first ≡ true → ordering_then first second ≡ first
unequal_first Less second is = refl
unequal_first Equal second is = absurd (true≢false (sym is))
unequal_first Greater second is = refl

pub equal_first : (first second : Ordering) → is_ne first ≡ false → ordering_then first second ≡ second
equal_first Less second is = absurd (true≢false is)
equal_first Equal second is = refl
equal_first Greater second is = absurd (true≢false is)

pub rest_of : (n : ℕ) (text : List ℕ) → take (length text - n) (drop n text) ≡ drop n text
rest_of n text = take_all (length text - n) (drop n text) (let len = length-drop n text in omega (arith, len))

pub rest_octets : (n : ℕ) (text : List ℕ) → AreOctets text → AreOctets (drop n text)
rest_octets n text are i = let at = get_or-drop n text i 0 in let small = are (n + i) in omega (arith, at, small)
