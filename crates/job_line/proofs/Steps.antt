-- Each kind of step keeps the rule.
-- Used by the answers of `JobLine`.
use Rattle.std.proofs.Common.{◌≡◌, ℕ, zero, suc, ◌+◌, ◌<◌, ◌≤◌, false, true, List, [], ◌∷◌, ◌++◌, length, ◌≢◌, ◌⊎◌, inl, inr, eqb, sym, ap, ◌∙◌, subst, arith, rules}
use Rattle.std.specs.Prelude.{All, slice_set, slice_index}
use Rattle.std.proofs.lemmas.Bool.{cond-false, cond-true}
use Rattle.std.proofs.lemmas.Bool.Decides.{eqb_tells}
use Rattle.std.proofs.lemmas.List.{length-set}
use Rattle.std.proofs.lemmas.List.Elements.{All-head, All-tail, All-set, All-weaker}
use mathlib.Core.Option.{some, some-injective, some-ne-none}
use lib.ListN.{get_elem?}
use Rattle.atomic_table.specs.Table.{State}
use Rattle.job_line.specs.declared.rule.Hand.{Hand}
use Rattle.job_line.specs.Sums.{begin_of, jobs_in, weigh, weigh_firsts}
use Rattle.job_line.specs.Rule.{at_most, ends_at, is_site, total, Fits, Holds}
use Rattle.job_line.proofs.SumLemmas.{total-put, total-at, total-le, weigh-append, weigh-one}
use Rattle.job_line.proofs.SiteLemmas.{at_most-same, begin-fits, firsts-next, firsts-one, next_words, word_drew, word_grows, word_next}

pub apart : false ≡ true → ⊥
apart e = search rules

pub All-at : (counts words : List ℕ) (hands : List Hand) (id : ℕ) (hand : Hand) → get_elem? hands id ≡ some hand → All (Fits counts words) hands → Fits counts words hand
All-at counts words [] id hand at each = absurd (some-ne-none hand (sym at))
All-at counts words (first ∷ hands) zero hand at each = subst (Fits counts words) (some-injective first hand at) (All-head (Fits counts words) first hands each)
All-at counts words (first ∷ hands) (suc id) hand at each = All-at counts words hands id hand at (All-tail (Fits counts words) first hands each)

pub small : (counts : List ℕ) (s : State (Unit {0}) Hand) (site : ℕ) → Holds counts s → slice_index s.words site ≤ 4112
small counts s site holds =
    let few = total-le (ends_at site) (λ hand. hand.parts) s.views (All-weaker (Fits counts s.words) (λ hand. ends_at site hand ≤ hand.parts) (λ hand fits. fits.few site) s.views holds.each) in
    omega (arith, few, holds.over site, holds.parts, holds.limit, begin-fits counts site)

fits_later : (counts words : List ℕ) (site : ℕ) (hand : Hand) → Fits counts words hand → Fits counts (next_words words site) hand
fits_later counts words site hand fits = record {
  same = fits.same;
  ends = λ other found. let at = fits.ends other found in let grows = word_grows words site other in omega (arith, at, grows);
  few = fits.few;
  idle = fits.idle;
}

-- the hand after a draw that found a job, and after one that found the end
abbrev pub hand_drew : Hand → ℕ → Hand
hand_drew hand index = record hand { drawn = hand.drawn ++ index ∷ [] }

abbrev pub hand_ended : Hand → ℕ → Hand
hand_ended hand site = record hand { ends = site ∷ hand.ends }

-- the state after a draw
abbrev pub after_draw : State (Unit {0}) Hand → ℕ → ℕ → Hand → State (Unit {0}) Hand
after_draw s site id hand = record { words = next_words s.words site; homes = s.homes; views = slice_set s.views id hand }

pub drew : (counts : List ℕ) (s : State (Unit {0}) Hand) (site id : ℕ) (hand : Hand) → Holds counts s → get_elem? s.views id ≡ some hand → 0 < hand.parts
    → site < length s.words → slice_index s.words site < slice_index counts site → Holds counts (after_draw s site id (hand_drew hand (begin_of counts site + slice_index s.words site)))
drew counts s site id hand holds at some_part there job =
    let new = hand_drew hand (begin_of counts site + slice_index s.words site) in
    let own = All-at counts s.words s.views id hand at holds.each in
    record {
      limit = holds.limit;
      words = omega (arith, holds.words, length-set s.words site (slice_index s.words site + 1));
      parts = omega (arith, total-put (λ hand. hand.parts) s.views id hand new at, holds.parts);
      drawn = λ weight. drawn_more weight (total-put (λ hand. weigh weight hand.drawn) s.views id hand new at);
      over = λ other. over_same other (total-put (ends_at other) s.views id hand new at);
      each = All-set (Fits counts (next_words s.words site)) s.views id new (fits own) (All-weaker (Fits counts s.words) (Fits counts (next_words s.words site)) (fits_later counts s.words site) s.views holds.each);
    }
  where
    fits : Fits counts s.words hand → Fits counts (next_words s.words site) (hand_drew hand (begin_of counts site + slice_index s.words site))
    fits own = let later = fits_later counts s.words site hand own in record {
      same = later.same;
      ends = later.ends;
      few = later.few;
      idle = λ none. absurd (omega (arith, none, some_part));
    }

    over_same : (other : ℕ) → total (ends_at other) (slice_set s.views id (hand_drew hand (begin_of counts site + slice_index s.words site))) + ends_at other hand ≡ total (ends_at other) s.views + ends_at other hand
        → slice_index (next_words s.words site) other ≤ slice_index counts other + total (ends_at other) (slice_set s.views id (hand_drew hand (begin_of counts site + slice_index s.words site)))
    over_same other put =
        let most = word_drew counts s.words site other (total (ends_at other) s.views) job (holds.over other) in
        omega (arith, put, most)

    drawn_more : (weight : ℕ → ℕ) → total (λ hand. weigh weight hand.drawn) (slice_set s.views id (hand_drew hand (begin_of counts site + slice_index s.words site))) + weigh weight hand.drawn ≡ total (λ hand. weigh weight hand.drawn) s.views + weigh weight (hand.drawn ++ (begin_of counts site + slice_index s.words site) ∷ [])
        → total (λ hand. weigh weight hand.drawn) (slice_set s.views id (hand_drew hand (begin_of counts site + slice_index s.words site))) ≡ weigh_firsts weight counts (at_most counts (next_words s.words site))
    drawn_more weight put =
        omega (arith, put, weigh-append weight hand.drawn ((begin_of counts site + slice_index s.words site) ∷ []), holds.drawn weight, firsts-next weight counts s.words site there job)

pub found_end : (counts : List ℕ) (s : State (Unit {0}) Hand) (site id : ℕ) (hand : Hand) → Holds counts s → get_elem? s.views id ≡ some hand → 0 < hand.parts → ends_at site hand ≡ 0
    → slice_index counts site ≤ slice_index s.words site → Holds counts (after_draw s site id (hand_ended hand site))
found_end counts s site id hand holds at some_part goes end =
    let new = hand_ended hand site in
    let own = All-at counts s.words s.views id hand at holds.each in
    record {
      limit = holds.limit;
      words = omega (arith, holds.words, length-set s.words site (slice_index s.words site + 1));
      parts = omega (arith, total-put (λ hand. hand.parts) s.views id hand new at, holds.parts);
      drawn = λ weight. drawn_same weight (total-put (λ hand. weigh weight hand.drawn) s.views id hand new at);
      over = λ other. over_more other (total-put (ends_at other) s.views id hand new at);
      each = All-set (Fits counts (next_words s.words site)) s.views id new (fits own) (All-weaker (Fits counts s.words) (Fits counts (next_words s.words site)) (fits_later counts s.words site) s.views holds.each);
    }
  where
    ended : (other : ℕ) → is_site other site ≡ 0 ⊎ (slice_index counts other ≤ slice_index s.words other) × (is_site other site ≡ 1) × (ends_at other hand ≡ 0)
    ended other = tells (eqb_tells other site)
      where
        tells : ((eqb other site ≡ true) × (other ≡ site)) ⊎ ((eqb other site ≡ false) × (other ≢ site)) → is_site other site ≡ 0 ⊎ (slice_index counts other ≤ slice_index s.words other) × (is_site other site ≡ 1) × (ends_at other hand ≡ 0)
        tells (inl is) = inr (subst (λ n. slice_index counts n ≤ slice_index s.words n) (sym is.1) end, cond-true (eqb other site) 1 0 is.0, ap (λ n. ends_at n hand) is.1 ∙ goes)
        tells (inr is) = inl (cond-false (eqb other site) 1 0 is.0)

    fits : Fits counts s.words hand → Fits counts (next_words s.words site) (hand_ended hand site)
    fits own = let later = fits_later counts s.words site hand own in record {
      same = later.same;
      ends = λ other found. ends_here other found (ended other);
      few = λ other. few_here other (own.few other) (ended other);
      idle = λ none. absurd (omega (arith, none, some_part));
    }
      where
        ends_here : (other : ℕ) → 0 < is_site other site + ends_at other hand → is_site other site ≡ 0 ⊎ (slice_index counts other ≤ slice_index s.words other) × (is_site other site ≡ 1) × (ends_at other hand ≡ 0)
            → slice_index counts other ≤ slice_index (next_words s.words site) other
        ends_here other found (inl none) = (fits_later counts s.words site hand own).ends other (omega (arith, found, none))
        ends_here other found (inr is) = let grows = word_grows s.words site other in omega (arith, is.0, grows)

        few_here : (other : ℕ) → ends_at other hand ≤ hand.parts → is_site other site ≡ 0 ⊎ (slice_index counts other ≤ slice_index s.words other) × (is_site other site ≡ 1) × (ends_at other hand ≡ 0)
            → is_site other site + ends_at other hand ≤ hand.parts
        few_here other few (inl none) = omega (arith, few, none)
        few_here other few (inr is) = omega (arith, is.1, is.2, some_part)

    over_more : (other : ℕ) → total (ends_at other) (slice_set s.views id (hand_ended hand site)) + ends_at other hand ≡ total (ends_at other) s.views + (is_site other site + ends_at other hand)
        → slice_index (next_words s.words site) other ≤ slice_index counts other + total (ends_at other) (slice_set s.views id (hand_ended hand site))
    over_more other put = let next = word_next s.words site other in omega (arith, put, next, holds.over other)

    drawn_same : (weight : ℕ → ℕ) → total (λ hand. weigh weight hand.drawn) (slice_set s.views id (hand_ended hand site)) + weigh weight hand.drawn ≡ total (λ hand. weigh weight hand.drawn) s.views + weigh weight hand.drawn
        → total (λ hand. weigh weight hand.drawn) (slice_set s.views id (hand_ended hand site)) ≡ weigh_firsts weight counts (at_most counts (next_words s.words site))
    drawn_same weight put =
        let same : total (λ hand. weigh weight hand.drawn) (slice_set s.views id (hand_ended hand site)) ≡ total (λ hand. weigh weight hand.drawn) s.views = omega (arith, put) in
        same ∙ holds.drawn weight ∙ sym (ap (weigh_firsts weight counts) (at_most-same counts s.words site end))

pub drawn_fit : (counts : List ℕ) (s : State (Unit {0}) Hand) (id : ℕ) (hand : Hand) → Holds counts s → get_elem? s.views id ≡ some hand → length hand.drawn ≤ jobs_in counts
drawn_fit counts s id hand holds at =
    let most = total-at (λ hand. weigh (λ _. 1) hand.drawn) s.views id hand at in
    omega (arith, most, holds.drawn (λ _. 1), weigh-one hand.drawn, firsts-one counts s.words)
