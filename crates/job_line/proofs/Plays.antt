-- Each step keeps the rule in any state of the table.
-- Used by the answers of `JobLine`.
use Rattle.std.proofs.Common.{◌≡◌, ℕ, zero, suc, ◌+◌, ◌%◌, ◌^◌, ◌<◌, ◌≤◌, Bool, true, false, List, [], ◌∷◌, ◌++◌, length, replicate, sym, refl, ap, ◌∙◌, subst, arith}
use Rattle.std.specs.Prelude.{nat_lt, slice_set, slice_index}
use Rattle.std.proofs.lemmas.Bool.{cond-false, cond-true, ltb-true, ltb-false}
use Rattle.std.proofs.lemmas.List.Elements.{All-set, All-weaker, All-append, All-cons, All-nil}
use Rattle.std.proofs.lemmas.List.{length-replicate, set-get_or}
use Rattle.std.proofs.Math.Nat.{mod-eq_of_lt}
use mathlib.Core.Option.{some, none, some-ne-none}
use lib.ListN.{get_elem?}
use Rattle.atomic_table.specs.Table.{State, Me, Act, opening, keeps, Valid, carried_after, stepped, Allows, Splits, Joins, step}
use Rattle.atomic_table.proofs.Lists.{set_else, set_again}
use Rattle.job_line.specs.declared.rule.Hand.{Hand}
use Rattle.job_line.specs.Sums.{begin_of, jobs_in, weigh, weigh_firsts}
use Rattle.job_line.specs.Rule.{at_most, ends_at, is_site, total, Fits, Holds, Draws, IsAll, Learns, first_hand, hand_after, hand_left, hand_dealt, hand_of_both, spent_hand}
use Rattle.job_line.proofs.SumLemmas.{total-put, total-push, total-owner, weigh-append}
use Rattle.job_line.proofs.SiteLemmas.{at_most-all, at_most-whole, at_most-within, firsts-none, firsts-whole, word-none}
use Rattle.job_line.proofs.Steps.{All-at, after_draw, drawn_fit, drew, found_end, hand_drew, hand_ended, small}

put_here : (hands : List Hand) (id : ℕ) (old new : Hand) → get_elem? hands id ≡ some old → get_elem? (slice_set hands id new) id ≡ some new
put_here [] id old new at = absurd (some-ne-none old (sym at))
put_here (first ∷ hands) zero old new at = refl
put_here (first ∷ hands) (suc id) old new at = put_here hands id old new at

-- the state after a step that brings this word
abbrev after_word : State (Unit {0}) Hand → ℕ → ℕ → ℕ → Hand → State (Unit {0}) Hand
after_word s site word id hand = record { words = slice_set s.words site word; homes = s.homes; views = slice_set s.views id hand }

pub allows_draw : (counts : List ℕ) (slots id site : ℕ) (me : Me (Unit {0}) Hand) → 0 < me.0.parts → site < length me.0.counts → ends_at site me.0 ≡ 0
    → Allows (Holds counts) slots id me site (λ n. (n + 1) % 2 ^ 64) (Draws (step slots site 1 0 none) me)
allows_draw counts slots id site me some_part inside goes s holds homes at bound = cases (nat_lt (slice_index s.words site) (slice_index me.0.counts site)) refl
  where
    whole : (slice_index s.words site + 1) % 2 ^ 64 ≡ slice_index s.words site + 1
    whole = let most = small counts s site holds in mod-eq_of_lt (omega (arith, most))

    same : me.0.counts ≡ counts
    same = (All-at counts s.words s.views id me.0 at holds.each).same some_part

    same_count : slice_index me.0.counts site ≡ slice_index counts site
    same_count = ap (λ counts. slice_index counts site) same

    there : site < length s.words
    there = let many = ap length same in omega (arith, inside, holds.words, many)

    done : (new : Hand) → new ≡ hand_after me.0 site (slice_index s.words site) → Holds counts (after_draw s site id new)
        → (w : Hand) × (a : Act (Unit {0})) × Valid s.homes me.1 a × Holds counts (stepped s site ((slice_index s.words site + 1) % 2 ^ 64) id me.1 w a) × Draws (step slots site 1 0 none) me (slice_index s.words site) (w, carried_after me.1 a)
    done new is kept =
        let fit = drawn_fit counts (after_draw s site id new) id new kept (put_here s.views id me.0 new at) in
        (new, keeps, tt, subst (λ word. Holds counts (after_word s site word id new)) (sym whole) kept, (is, refl, let all = ap jobs_in same in omega (arith, fit, all)))

    cases : (b : Bool) → nat_lt (slice_index s.words site) (slice_index me.0.counts site) ≡ b
        → (w : Hand) × (a : Act (Unit {0})) × Valid s.homes me.1 a × Holds counts (stepped s site ((slice_index s.words site + 1) % 2 ^ 64) id me.1 w a) × Draws (step slots site 1 0 none) me (slice_index s.words site) (w, carried_after me.1 a)
    cases true is =
        let less = ltb-true (slice_index s.words site) (slice_index me.0.counts site) is in
        done (hand_drew me.0 (begin_of counts site + slice_index s.words site))
        (ap (λ counts. hand_drew me.0 (begin_of counts site + slice_index s.words site)) (sym same) ∙ sym (cond-true (nat_lt (slice_index s.words site) (slice_index me.0.counts site)) _ _ is))
        (drew counts s site id me.0 holds at some_part there (omega (arith, less, same_count)))
    cases false is =
        let most = ltb-false (slice_index s.words site) (slice_index me.0.counts site) is in
        done (hand_ended me.0 site) (sym (cond-false (nat_lt (slice_index s.words site) (slice_index me.0.counts site)) _ _ is)) (found_end counts s site id me.0 holds at some_part goes (omega (arith, most, same_count)))

pub splits_deal : (counts : List ℕ) (id : ℕ) (hand : Hand) → 1 < hand.parts → ((site : ℕ) → ends_at site hand ≡ 0) → Splits (Holds counts) id hand (hand_left hand) (hand_dealt hand)
splits_deal counts id hand more goes s holds at =
    let own = All-at counts s.words s.views id hand at holds.each in
    let same = own.same (omega (arith, more)) in
    let left = slice_set s.views id (hand_left hand) in
    record {
      limit = holds.limit;
      words = holds.words;
      parts = omega (arith, total-put (λ hand. hand.parts) s.views id hand (hand_left hand) at, total-push (λ hand. hand.parts) left (hand_dealt hand), holds.parts, more);
      drawn = λ weight. sum_same (λ hand. weigh weight hand.drawn) refl refl ∙ holds.drawn weight;
      over = λ site. let sums = sum_same (ends_at site) refl refl in omega (arith, sums, holds.over site);
      each = All-append (Fits counts s.words) left (hand_dealt hand ∷ []) (All-set (Fits counts s.words) s.views id (hand_left hand) (fits_left own) holds.each) (All-cons (Fits counts s.words) (hand_dealt hand) [] (fits_dealt same) (All-nil (Fits counts s.words)));
    }
  where
    fits_left : Fits counts s.words hand → Fits counts s.words (hand_left hand)
    fits_left own = record {
      same = λ some_part. own.same (omega (arith, more));
      ends = own.ends;
      few = λ site. let none = goes site in omega (arith, none, more);
      idle = λ no_part. absurd (omega (arith, no_part, more));
    }

    fits_dealt : hand.counts ≡ counts → Fits counts s.words (hand_dealt hand)
    fits_dealt same = record {
      same = λ _. same;
      ends = λ site found. absurd (omega (arith, found));
      few = λ site. omega arith;
      idle = λ _. refl;
    }

    sum_same : (f : Hand → ℕ) → f (hand_left hand) ≡ f hand → f (hand_dealt hand) ≡ 0 → total f (slice_set s.views id (hand_left hand) ++ hand_dealt hand ∷ []) ≡ total f s.views
    sum_same f left dealt = let put = total-put f s.views id hand (hand_left hand) at in let push = total-push f (slice_set s.views id (hand_left hand)) (hand_dealt hand) in omega (arith, put, push, left, dealt)

pub one_of : (n m : ℕ) (P : Type 0) → 0 < n + m → (0 < n → P) → (0 < m → P) → P
one_of zero m P some_of one other = other (omega (arith, some_of))
one_of (suc n) m P some_of one other = one (omega arith)

pub joins_take_in : (counts : List ℕ) (id other : ℕ) (one taken : Hand) → 0 < one.parts → Joins (Holds counts) id one other taken (hand_of_both one taken) spent_hand
joins_take_in counts id other one taken some_part s holds at apart_from there =
    let both = hand_of_both one taken in
    let own = All-at counts s.words s.views id one at holds.each in
    let before = sym (set_else s.views id other both apart_from) ∙ there in
    let theirs = All-at counts s.words s.views other taken before holds.each in
    let middle = slice_set s.views id both in
    record {
      limit = holds.limit;
      words = holds.words;
      parts = sum_same (λ hand. hand.parts) refl refl ∙ holds.parts;
      drawn = λ weight. sum_same (λ hand. weigh weight hand.drawn) (weigh-append weight one.drawn taken.drawn) refl ∙ holds.drawn weight;
      over = λ site. let sums = sum_same (ends_at site) (weigh-append (is_site site) one.ends taken.ends) refl in omega (arith, sums, holds.over site);
      each = All-set (Fits counts s.words) middle other spent_hand fits_spent (All-set (Fits counts s.words) s.views id both (fits_both own theirs) holds.each);
    }
  where
    fits_spent : Fits counts s.words spent_hand
    fits_spent = record {
      same = λ some_of_none. absurd (omega (arith, some_of_none));
      ends = λ site found. absurd (omega (arith, found));
      few = λ site. omega arith;
      idle = λ _. refl;
    }

    fits_both : Fits counts s.words one → Fits counts s.words taken → Fits counts s.words (hand_of_both one taken)
    fits_both own theirs = record {
      same = λ _. own.same some_part;
      ends = λ site found. one_of (ends_at site one) (ends_at site taken) (slice_index counts site ≤ slice_index s.words site) (let all = weigh-append (is_site site) one.ends taken.ends in omega (arith, found, all)) (own.ends site) (theirs.ends site);
      few = λ site. let all = weigh-append (is_site site) one.ends taken.ends in omega (arith, all, own.few site, theirs.few site);
      idle = λ no_part. absurd (omega (arith, no_part, some_part));
    }

    sum_same : (f : Hand → ℕ) → f (hand_of_both one taken) ≡ f one + f taken → f spent_hand ≡ 0 → total f (slice_set (slice_set s.views id (hand_of_both one taken)) other spent_hand) ≡ total f s.views
    sum_same f sums spent =
        let put = total-put f s.views id one (hand_of_both one taken) at in
        let taken_out = total-put f (slice_set s.views id (hand_of_both one taken)) other taken spent_hand there in
        omega (arith, put, taken_out, sums, spent)

is_all : (counts : List ℕ) (s : State (Unit {0}) Hand) (id : ℕ) (hand : Hand) → Holds counts s → get_elem? s.views id ≡ some hand → hand.parts ≡ 16 → hand.counts ≡ counts → IsAll hand
is_all counts s id hand holds at all_parts same = subst IsAllOf (sym same) all_of
  where
    IsAllOf : List ℕ → Type 0
    IsAllOf counts = IsAll (record hand { counts = counts })

    own : Fits counts s.words hand
    own = All-at counts s.words s.views id hand at holds.each

    each_one : (weight : ℕ → ℕ) → weigh weight hand.drawn ≡ weigh_firsts weight counts (at_most counts s.words)
    each_one weight = sym (total-owner (λ hand. hand.parts) (λ hand. weigh weight hand.drawn) s.views id hand at (All-weaker (Fits counts s.words) (λ hand. hand.parts ≡ 0 → weigh weight hand.drawn ≡ 0) (λ hand fits no_part. ap (weigh weight) (fits.idle no_part)) s.views holds.each) (holds.parts ∙ sym all_parts)) ∙ holds.drawn weight

    all_of : IsAll (record hand { counts = counts })
    all_of = record {
      firsts = at_most counts s.words;
      within = at_most-within counts s.words;
      each = each_one;
      all = λ site found. at_most-all counts s.words site (own.ends site found);
      all_sites = λ found weight. each_one weight ∙ ap (weigh_firsts weight counts) (at_most-whole counts s.words (λ site there. own.ends site (found site there))) ∙ firsts-whole weight counts;
    }

pub allows_learn : (counts : List ℕ) (slots id : ℕ) (me : Me (Unit {0}) Hand) → Allows (Holds counts) slots id me 0 (λ n. n) (Learns (step slots 0 0 0 none) me)
allows_learn counts slots id me s holds homes at bound =
    (me.0, keeps, tt, kept, (refl, λ all_parts. is_all counts s id me.0 holds at all_parts ((All-at counts s.words s.views id me.0 at holds.each).same (omega (arith, all_parts)))))
  where
    kept : Holds counts (after_word s 0 (slice_index s.words 0) id me.0)
    kept = subst (λ (t : State (Unit {0}) Hand). Holds counts t) (λ i. record { words = sym (set-get_or s.words 0 0) i; homes = s.homes; views = sym (set_again s.views id me.0 at) i }) holds

pub opens : (counts : List ℕ) (n : ℕ) → jobs_in counts ≤ 4096 → length counts ≤ n → Holds counts (opening (replicate n 0) [] (first_hand counts))
opens counts n limit many = record {
  limit = limit;
  words = let words = length-replicate {A = ℕ} n 0 in omega (arith, many, words);
  parts = refl;
  drawn = λ weight. sym (firsts-none weight counts n);
  over = λ site. let none = word-none n site in omega (arith, none);
  each = All-cons (Fits counts (replicate n 0)) (first_hand counts) [] (record {
    same = λ _. refl;
    ends = λ site found. absurd (omega (arith, found));
    few = λ site. omega arith;
    idle = λ _. refl;
  }) (All-nil (Fits counts (replicate n 0)));
}
