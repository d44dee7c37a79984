-- What all workers hand over.
-- Used by `Crew::do_all`.
use Rattle.std.proofs.Common.{◌≡◌, ◌∙◌, ℕ, suc, ◌≤◌, true, List, [], ◌∷◌, length, ap, sym, refl, subst, arith}
use Rattle.std.specs.Prelude.{All, map}
use Rattle.std.specs.List.{AllZip, list_any}
use Rattle.std.proofs.lemmas.List.{length-map}
use Rattle.std.proofs.lemmas.List.Elements.{All-cons, All-head, All-nil, All-tail}
use Rattle.atomic_table.specs.Seated.{TableId}
use Rattle.worker_pool.specs.Pools.{ReturnEach}
use Rattle.gate_marks.specs.Marks.{Receipt}
use Rattle.job_line.specs.Covers.{IsNew, SeatView, has_ended, lists_of, parts_of}
use Rattle.job_line.specs.Limits.{max_workers}
use Rattle.job_line.specs.Sums.{weigh_all}
use Rattle.crawl_workers.specs.declared.crew.Done.{Done}
use Rattle.crawl_job.specs.declared.job.Job.{Job}
use Rattle.crawl_workers.specs.Crews.{AreAllDone, EachHasDone, Ends, HandoverView, HandsOver, HasEnded, StaysAt, WorkView}
use Rattle.crawl_workers.specs.Orders.{weigh_at}
use Rattle.page_worker.specs.World.{World}

-- the seat of a worker, what it drew, and what it did
abbrev seat_of : WorkView → SeatView
seat_of work = work.seat

abbrev drawn_by : WorkView → List ℕ
drawn_by work = work.drawn

abbrev done_by : WorkView → List Done
done_by work = work.done

-- each worker stayed at its seat
abbrev StayEach : List SeatView → List WorkView → Type 0
StayEach seats works = AllZip (λ seat work. StaysAt seat work.seat) seats works

stay_each : (world : World) (jobs : List Job) (order : List ℕ) (seats : List SeatView) (works : List WorkView) (receipts : List Receipt)
    → ReturnEach (Ends world jobs order) seats works receipts → StayEach seats works
stay_each world jobs order [] [] [] each = tt
stay_each world jobs order [] [] (r ∷ rs) each = absurd each
stay_each world jobs order [] (w ∷ ws) receipts each = absurd each
stay_each world jobs order (s ∷ ss) [] receipts each = absurd each
stay_each world jobs order (s ∷ ss) (w ∷ ws) [] each = absurd each
stay_each world jobs order (s ∷ ss) (w ∷ ws) (r ∷ rs) each = (each.0.0, stay_each world jobs order ss ws rs each.1)

-- workers with receipts did what they drew, and found the end of each site
abbrev HaveEnded : World → List Job → List ℕ → List WorkView → List Receipt → Type 0
HaveEnded world jobs order works receipts = AllZip (HasEnded world jobs order) works receipts

have_ended : (world : World) (jobs : List Job) (order : List ℕ) (seats : List SeatView) (works : List WorkView) (receipts : List Receipt)
    → ReturnEach (Ends world jobs order) seats works receipts → HaveEnded world jobs order works receipts
have_ended world jobs order [] [] [] each = tt
have_ended world jobs order [] [] (r ∷ rs) each = absurd each
have_ended world jobs order [] (w ∷ ws) receipts each = absurd each
have_ended world jobs order (s ∷ ss) [] receipts each = absurd each
have_ended world jobs order (s ∷ ss) (w ∷ ws) [] each = absurd each
have_ended world jobs order (s ∷ ss) (w ∷ ws) (r ∷ rs) each = (each.0.1, have_ended world jobs order ss ws rs each.1)

pub as_many : (seats : List SeatView) (works : List WorkView) → StayEach seats works → length works ≡ length seats
as_many [] [] each = refl
as_many [] (w ∷ ws) each = absurd each
as_many (s ∷ ss) [] each = absurd each
as_many (s ∷ ss) (w ∷ ws) each = ap suc (as_many ss ws each.1)

pub works_as_many : (world : World) (jobs : List Job) (order : List ℕ) (seats : List SeatView) (works : List WorkView) (receipts : List Receipt)
    → ReturnEach (Ends world jobs order) seats works receipts → length works ≡ length seats
works_as_many world jobs order seats works receipts each = as_many seats works (stay_each world jobs order seats works receipts each)

still_at_line : (line : TableId) (counts : List ℕ) (seats : List SeatView) (works : List WorkView)
    → All (IsNew line counts) seats → StayEach seats works → All (λ seat. seat.line ≡ line) (map seat_of works)
still_at_line line counts [] [] new each = All-nil (λ (seat : SeatView). seat.line ≡ line)
still_at_line line counts [] (w ∷ ws) new each = absurd each
still_at_line line counts (s ∷ ss) [] new each = absurd each
still_at_line line counts (s ∷ ss) (w ∷ ws) new each =
    All-cons (λ (seat : SeatView). seat.line ≡ line) w.seat (map seat_of ws) (each.0.same_line ∙ (All-head (IsNew line counts) s ss new).its_line)
    (still_at_line line counts ss ws (All-tail (IsNew line counts) s ss new) each.1)

still_counts : (line : TableId) (counts : List ℕ) (seats : List SeatView) (works : List WorkView)
    → All (IsNew line counts) seats → StayEach seats works → All (λ seat. seat.counts ≡ counts) (map seat_of works)
still_counts line counts [] [] new each = All-nil (λ (seat : SeatView). seat.counts ≡ counts)
still_counts line counts [] (w ∷ ws) new each = absurd each
still_counts line counts (s ∷ ss) [] new each = absurd each
still_counts line counts (s ∷ ss) (w ∷ ws) new each =
    All-cons (λ (seat : SeatView). seat.counts ≡ counts) w.seat (map seat_of ws) (each.0.same_counts ∙ (All-head (IsNew line counts) s ss new).its_counts)
    (still_counts line counts ss ws (All-tail (IsNew line counts) s ss new) each.1)

still_parts : (seats : List SeatView) (works : List WorkView) → StayEach seats works → parts_of (map seat_of works) ≡ parts_of seats
still_parts [] [] each = refl
still_parts [] (w ∷ ws) each = absurd each
still_parts (s ∷ ss) [] each = absurd each
still_parts (s ∷ ss) (w ∷ ws) each = let later = still_parts ss ws each.1 in omega (arith, later, each.0.same_parts)

each_did : (world : World) (jobs : List Job) (order : List ℕ) (works : List WorkView) (receipts : List Receipt)
    → HaveEnded world jobs order works receipts → EachHasDone world jobs (map drawn_by works) (map done_by works) receipts
each_did world jobs order [] [] ended = tt
each_did world jobs order [] (r ∷ rs) ended = absurd ended
each_did world jobs order (w ∷ ws) [] ended = absurd ended
each_did world jobs order (w ∷ ws) (r ∷ rs) ended = (ended.0.has_worked.has_done, each_did world jobs order ws rs ended.1)

each_drew : (world : World) (jobs : List Job) (order : List ℕ) (works : List WorkView) (receipts : List Receipt) → HaveEnded world jobs order works receipts
    → (weight : ℕ → ℕ) → weigh_all weight (map drawn_by works) ≡ weigh_all (weigh_at order weight) (lists_of (map seat_of works))
each_drew world jobs order [] [] ended weight = refl
each_drew world jobs order [] (r ∷ rs) ended weight = absurd ended
each_drew world jobs order (w ∷ ws) [] ended weight = absurd ended
each_drew world jobs order (w ∷ ws) (r ∷ rs) ended weight =
    let later = each_drew world jobs order ws rs ended.1 weight in omega (arith, later, ended.0.has_worked.has_drawn weight)

first_ended : (world : World) (jobs : List Job) (order : List ℕ) (works : List WorkView) (receipts : List Receipt) → 1 ≤ length works → HaveEnded world jobs order works receipts
    → list_any has_ended (map seat_of works) ≡ true
first_ended world jobs order [] receipts some ended = absurd (omega (arith, some))
first_ended world jobs order (w ∷ ws) [] some ended = absurd ended
first_ended world jobs order (w ∷ ws) (r ∷ rs) some ended = rw ended.0.all_ended

pub all_did : (world : World) (jobs : List Job) (order : List ℕ) (line : TableId) (counts : List ℕ) (seats : List SeatView) (works : List WorkView) (receipts : List Receipt) (workers : ℕ) (h : HandoverView)
    → 1 ≤ workers → length seats ≡ workers → All (IsNew line counts) seats → parts_of seats ≡ max_workers
    → ReturnEach (Ends world jobs order) seats works receipts → HandsOver works receipts h → AreAllDone world jobs order line counts workers h
all_did world jobs order line counts seats works receipts workers h some many new parts each hands =
    let stay = stay_each world jobs order seats works receipts each in
    let ended = have_ended world jobs order seats works receipts each in
    let so_many = as_many seats works stay ∙ many in record {
      all_workers = ap length hands.drawn_are ∙ length-map works drawn_by ∙ so_many;
      have_done = subst (λ (rs : List Receipt). EachHasDone world jobs h.drawn h.done rs) (sym hands.receipts_are)
          (subst (λ (ns : List (List ℕ)). EachHasDone world jobs ns h.done receipts) (sym hands.drawn_are)
          (subst (λ (ds : List (List Done)). EachHasDone world jobs (map drawn_by works) ds receipts) (sym hands.done_are)
          (each_did world jobs order works receipts ended)));
      all_seats = ap length hands.seats_are ∙ length-map works seat_of ∙ so_many;
      at_line = subst (All (λ (seat : SeatView). seat.line ≡ line)) (sym hands.seats_are) (still_at_line line counts seats works new stay);
      same_counts = subst (All (λ (seat : SeatView). seat.counts ≡ counts)) (sym hands.seats_are) (still_counts line counts seats works new stay);
      all_parts = ap parts_of hands.seats_are ∙ still_parts seats works stay ∙ parts;
      one_ended = ap (list_any has_ended) hands.seats_are ∙ first_ended world jobs order works receipts (omega (arith, some, so_many)) ended;
      have_drawn = λ weight. ap (weigh_all weight) hands.drawn_are ∙ each_drew world jobs order works receipts ended weight
          ∙ sym (ap (λ (ss : List SeatView). weigh_all (weigh_at order weight) (lists_of ss)) hands.seats_are);
    }
