-- The rule holds of a new line, and is kept as seats are dealt.
-- Used by `JobLine::of_sites`.
use Rattle.std.proofs.Common.{◌∙◌, [], ◌∷◌, ap, sym, refl, subst, arith}
use Rattle.std.specs.Prelude.{All}
use Rattle.std.proofs.lemmas.List.Elements.{All-append, All-cons, All-nil}
use Rattle.job_line.specs.Covers.{IsNew, SeatView, dealt_seat, parts_of}
use Rattle.job_line.proofs.SeatLemmas.{parts_of-push}
use Rattle.job_line.proofs.line.JobLine.of_sites.Goals as goal

pub loop-preserved : goal.loop-preserved
loop-preserved c =
    let so_far = c.loop.invariant in
    let line = c.line.inside.table.shared.table_id in
    let dealt = (c.in_ok-deal.ensures {u = tt}).dealt in
    let left = (c.in_ok-deal.ensures {u = tt}).left in
    let items = c.push_reserved.ensures.items in
    let fresh : IsNew line c.args.counts.now (dealt_seat c.loop.last) = record { its_line = so_far.its_line; its_counts = so_far.its_counts; some_part = omega arith; goes = so_far.goes; nothing = refl } in
    record {
      its_line = ap (λ (seat : SeatView). seat.line) left ∙ so_far.its_line;
      its_counts = ap (λ (seat : SeatView). seat.counts) left ∙ so_far.its_counts;
      goes = ap (λ (seat : SeatView). seat.ended) left ∙ so_far.goes;
      nothing = ap (λ (seat : SeatView). seat.drawn) left ∙ so_far.nothing;
      left = omega (arith, ap (λ (seat : SeatView). seat.parts) left, so_far.left, so_far.count, c.push_reserved.ensures.len, c.loop-test.true, c.requires.workers);
      count = omega (arith, so_far.count, c.push_reserved.ensures.len);
      dealt = subst (All (IsNew line c.args.counts.now)) (sym items) (All-append (IsNew line c.args.counts.now) c.loop.seats.items (c.in_ok-deal.field-0 ∷ []) so_far.dealt
          (All-cons (IsNew line c.args.counts.now) c.in_ok-deal.field-0 [] (subst (IsNew line c.args.counts.now) (sym dealt) fresh) (All-nil (IsNew line c.args.counts.now))));
      parts = ap parts_of items ∙ parts_of-push c.loop.seats.items c.in_ok-deal.field-0 ∙ omega (arith, so_far.parts, ap (λ (seat : SeatView). seat.parts) dealt, c.push_reserved.ensures.len);
      room = omega (arith, so_far.room, c.push_reserved.ensures.capacity);
    }

pub returns-clause-seats : goal.returns-clause-seats
returns-clause-seats c =
    let so_far = c.loop.invariant in
    let counts = c.args.counts.now in
    let line = c.line.inside.table.shared.table_id in
    let last : IsNew line counts c.loop.last = record { its_line = so_far.its_line; its_counts = so_far.its_counts; some_part = omega (arith, so_far.left, so_far.count, c.loop.auto.counter-end, c.requires.workers); goes = so_far.goes; nothing = so_far.nothing } in
    let all = All-append (IsNew line counts) c.loop.seats.items (c.loop.last ∷ []) so_far.dealt (All-cons (IsNew line counts) c.loop.last [] last (All-nil (IsNew line counts))) in
    subst (λ line. All (IsNew line counts) c.push_reserved-2.new.self.items) c.line.view_is (subst (All (IsNew line counts)) (sym c.push_reserved-2.ensures.items) all)

pub returns-clause-parts : goal.returns-clause-parts
returns-clause-parts c =
    let so_far = c.loop.invariant in
    ap parts_of c.push_reserved-2.ensures.items ∙ parts_of-push c.loop.seats.items c.loop.last ∙ omega (arith, so_far.parts, so_far.left)
