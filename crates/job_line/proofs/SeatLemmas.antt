-- Lists of seats: one more, all their parts, and what is known when all are taken in.
-- Used by the answers of `JobLine`.
use Rattle.std.proofs.Common.{◌≡◌, ℕ, zero, suc, ◌+◌, ◌<◌, ◌∙◌, Bool, true, false, List, [], ◌∷◌, ◌++◌, length, refl, sym, ap, subst, arith}
use Rattle.std.specs.Prelude.{All, ◌||◌, nat_lt, slice_index, slice_index_or}
use Rattle.std.proofs.lemmas.Bool.{cond-true, lt-ltb}
use Rattle.std.proofs.lemmas.Grind.{get_or_default_zero}
use Rattle.std.proofs.lemmas.List.Elements.{All-head, All-tail, All-cons, All-nil}
use Rattle.std.proofs.lemmas.List.Folds.{list_any-append}
use Rattle.std.specs.List.{list_all, list_any}
use Rattle.atomic_table.specs.Seated.{TableId}
use Rattle.atomic_table.specs.Table.{Me}
use Rattle.job_line.specs.declared.rule.Hand.{Hand}
use Rattle.job_line.specs.declared.seat.JobSeat.TheInside.{Inside}
use Rattle.job_line.specs.Limits.{max_workers}
use Rattle.job_line.specs.Sums.{begin_of, begins_from, weigh, weigh_all}
use Rattle.job_line.specs.Rule.{IsAll, ends_at, hand_after, hand_of_both, is_site}
use Rattle.job_line.specs.Covers.{Covers, SeatView, end_found, ended_at, has_ended, lists_of, parts_of}
use Rattle.job_line.specs.Seats.{HasTaken, IsSeated, seat_view}
use Rattle.job_line.proofs.SumLemmas.{weigh-append}
use Rattle.job_line.proofs.SiteLemmas.{begins-at, length-begins}
use Rattle.job_line.proofs.Steps.{apart}

pub parts_of-push : (seats : List SeatView) (seat : SeatView) → parts_of (seats ++ seat ∷ []) ≡ parts_of seats + seat.parts
parts_of-push [] seat = omega arith
parts_of-push (first ∷ seats) seat = let later = parts_of-push seats seat in omega (arith, later)

weigh_all-push : (weight : ℕ → ℕ) (seats : List SeatView) (seat : SeatView) → weigh_all weight (lists_of (seats ++ seat ∷ [])) ≡ weigh_all weight (lists_of seats) + weigh weight seat.drawn
weigh_all-push weight [] seat = omega arith
weigh_all-push weight (first ∷ seats) seat = let later = weigh_all-push weight seats seat in omega (arith, later)

or_false : (b : Bool) → b ≡ (b || false)
or_false true = refl
or_false false = refl

either_true : (a b : Bool) (P : Type 0) → (a || b) ≡ true → (a ≡ true → P) → (b ≡ true → P) → P
either_true true b P e one other = one refl
either_true false b P e one other = other e

pub lists_of-push : (seats : List SeatView) (seat : SeatView) → lists_of (seats ++ seat ∷ []) ≡ lists_of seats ++ seat.drawn ∷ []
lists_of-push [] seat = refl
lists_of-push (first ∷ seats) seat = ap (λ lists. first.drawn ∷ lists) (lists_of-push seats seat)

All-front : (P : SeatView → Type 0) (xs ys : List SeatView) → All P (xs ++ ys) → All P xs
All-front P [] ys all = All-nil P
All-front P (x ∷ xs) ys all = All-cons P x xs (All-head P x (xs ++ ys) all) (All-front P xs ys (All-tail P x (xs ++ ys) all))

pub All-middle : (P : SeatView → Type 0) (xs : List SeatView) (x : SeatView) (ys : List SeatView) → All P (xs ++ x ∷ ys) → P x
All-middle P [] x ys all = All-head P x ys all
All-middle P (first ∷ xs) x ys all = All-middle P xs x ys (All-tail P first (xs ++ x ∷ ys) all)

each_true : (ended : List Bool) (site : ℕ) → list_all (λ ended. ended) ended ≡ true → site < length ended → slice_index_or ended site false ≡ true
each_true [] site all there = absurd (omega (arith, there))
each_true (true ∷ ended) zero all there = refl
each_true (true ∷ ended) (suc site) all there = each_true ended site all (omega (arith, there))
each_true (false ∷ ended) site all there = absurd (apart all)

knows_each : (s : Inside) (counts : List ℕ) → IsSeated s → s.counts.items ≡ counts → has_ended (seat_view s) ≡ true → (site : ℕ) → site < length counts → 0 < ends_at site s.seat.me.0
knows_each s counts seated same all site there =
    let many = ap length same in
    seated.ends site (each_true s.ended.items site all (omega (arith, there, seated.sites, many)))

pub takes_itself : (line : TableId) (s : Inside) → IsSeated s → s.seat.table_id ≡ line → HasTaken line s.seat.table_id s.seat.me (seat_view s ∷ [])
takes_itself line s seated its_line = record {
  its_line = its_line;
  bare = seated.bare;
  some = seated.some;
  parts = omega arith;
  ends = λ site found. seated.ends site (or_false (slice_index_or s.ended.items site false) ∙ found);
  one_ended = λ counts same all. knows_each s counts seated (All-head (λ (seat : SeatView). seat.counts ≡ counts) (seat_view s) [] same) (or_false (has_ended (seat_view s)) ∙ all);
  drawn = λ weight. let same = ap (weigh weight) seated.drawn in omega (arith, same);
  counts = λ counts same. seated.counts ∙ All-head (λ (seat : SeatView). seat.counts ≡ counts) (seat_view s) [] same;
}

pub takes_more : (line id : TableId) (me : Me (Unit {0}) Hand) (taken : List SeatView) (s : Inside) → HasTaken line id me taken → IsSeated s
    → HasTaken line id (hand_of_both me.0 s.seat.me.0, me.1) (taken ++ seat_view s ∷ [])
takes_more line id me taken s has seated = record {
  its_line = has.its_line;
  bare = has.bare;
  some = omega (arith, has.some);
  parts = omega (arith, has.parts, parts_of-push taken (seat_view s));
  ends = λ site found. either site (sym (list_any-append (ended_at site) taken (seat_view s ∷ [])) ∙ found);
  one_ended = λ counts same all site there. either_all counts same (sym (list_any-append has_ended taken (seat_view s ∷ [])) ∙ all) site there;
  drawn = λ weight. more weight (has.drawn weight) (ap (weigh weight) seated.drawn);
  counts = λ counts same. has.counts counts (All-front (λ (seat : SeatView). seat.counts ≡ counts) taken (seat_view s ∷ []) same);
}
  where
    either : (site : ℕ) → (end_found site taken || (slice_index_or s.ended.items site false || false)) ≡ true → 0 < weigh (is_site site) (me.0.ends ++ s.seat.me.0.ends)
    either site found = either_true (end_found site taken) (slice_index_or s.ended.items site false || false) (0 < weigh (is_site site) (me.0.ends ++ s.seat.me.0.ends)) found
        (λ one. let some_of = has.ends site one in let all = weigh-append (is_site site) me.0.ends s.seat.me.0.ends in omega (arith, some_of, all))
        (λ other. let some_of = seated.ends site (or_false (slice_index_or s.ended.items site false) ∙ other) in let all = weigh-append (is_site site) me.0.ends s.seat.me.0.ends in omega (arith, some_of, all))

    either_all : (counts : List ℕ) → All (λ seat. seat.counts ≡ counts) (taken ++ seat_view s ∷ []) → (list_any has_ended taken || (has_ended (seat_view s) || false)) ≡ true
        → (site : ℕ) → site < length counts → 0 < weigh (is_site site) (me.0.ends ++ s.seat.me.0.ends)
    either_all counts same all site there = either_true (list_any has_ended taken) (has_ended (seat_view s) || false) (0 < weigh (is_site site) (me.0.ends ++ s.seat.me.0.ends)) all
        (λ one. let some_of = has.one_ended counts (All-front (λ (seat : SeatView). seat.counts ≡ counts) taken (seat_view s ∷ []) same) one site there in
        let all = weigh-append (is_site site) me.0.ends s.seat.me.0.ends in omega (arith, some_of, all))
        (λ other. let some_of = knows_each s counts seated (All-middle (λ (seat : SeatView). seat.counts ≡ counts) taken (seat_view s) [] same) (or_false (has_ended (seat_view s)) ∙ other) site there in
        let all = weigh-append (is_site site) me.0.ends s.seat.me.0.ends in omega (arith, some_of, all))

    more : (weight : ℕ → ℕ) → weigh weight me.0.drawn ≡ weigh_all weight (lists_of taken) → weigh weight s.seat.me.0.drawn ≡ weigh weight s.drawn.items
        → weigh weight (me.0.drawn ++ s.seat.me.0.drawn) ≡ weigh_all weight (lists_of (taken ++ seat_view s ∷ []))
    more weight so_far this = omega (arith, so_far, this, weigh-append weight me.0.drawn s.seat.me.0.drawn, weigh_all-push weight taken (seat_view s))

pub covers_all : (line id : TableId) (me : Me (Unit {0}) Hand) (seats : List SeatView) (counts : List ℕ) → HasTaken line id me seats → (me.0.parts ≡ max_workers → IsAll me.0)
    → All (λ seat. seat.counts ≡ counts) seats → parts_of seats ≡ max_workers → Covers counts seats
covers_all line id me seats counts has learned same all_parts = subst (λ counts. Covers counts seats) (has.counts counts same) covers
  where
    all : IsAll me.0
    all = learned (has.parts ∙ all_parts)

    covers : Covers me.0.counts seats
    covers = record {
      firsts = all.firsts;
      within = all.within;
      each = λ weight. sym (has.drawn weight) ∙ all.each weight;
      all = λ site found. all.all site (has.ends site found);
      all_sites = λ found weight. sym (has.drawn weight) ∙ all.all_sites (λ site there. has.ends site (found site there)) weight;
      one_ended = λ one weight. sym (has.drawn weight) ∙ all.all_sites (λ site there. has.one_ended counts same one site (let many = ap length (has.counts counts same) in omega (arith, there, many))) weight;
    }

pub read_at : (xs : List ℕ) (site read : ℕ) → site < length xs → read ≡ slice_index_or xs site read → slice_index xs site ≡ read
read_at xs site read there is = sym (is ∙ get_or_default_zero xs site read there)

pub begin_read : (begins counts : List ℕ) (site read : ℕ) → begins ≡ begins_from 0 counts → site < length counts → read ≡ slice_index_or begins site read → read ≡ begin_of counts site
begin_read begins counts site read are there is =
    let many = ap length are in
    let length_is = length-begins 0 counts in
    let at : slice_index begins site ≡ read = read_at begins site read (omega (arith, there, many, length_is)) is in
    let same : slice_index begins site ≡ slice_index (begins_from 0 counts) site = ap (λ begins. slice_index begins site) are in
    let begin = begins-at 0 counts site there in
    omega (arith, at, same, begin)

pub hand_gains : (hand new : Hand) (counts : List ℕ) (site found begin : ℕ) → new ≡ hand_after hand site found → hand.counts ≡ counts → found < slice_index counts site → begin ≡ begin_of counts site
    → new ≡ record hand { drawn = hand.drawn ++ (begin + found) ∷ [] }
hand_gains hand new counts site found begin is same less begins =
    let count : slice_index hand.counts site ≡ slice_index counts site = ap (λ counts. slice_index counts site) same in
    let at : begin_of hand.counts site ≡ begin = ap (λ counts. begin_of counts site) same ∙ sym begins in
    is ∙ cond-true (nat_lt found (slice_index hand.counts site)) (record hand { drawn = hand.drawn ++ (begin_of hand.counts site + found) ∷ [] }) (record hand { ends = site ∷ hand.ends }) (lt-ltb found (slice_index hand.counts site) (omega (arith, less, count)))
    ∙ ap (λ begin. record hand { drawn = hand.drawn ++ (begin + found) ∷ [] }) at
