-- A draw keeps the rule, and the seat knows what it drew.
-- Used by `JobLine::draw_at`.
use Rattle.std.proofs.Common.{◌≡◌, ◌+◌, ◌<◌, ◌∙◌, ◌∷◌, ◌++◌, [], length, ap, sym, arith}
use Rattle.std.specs.Prelude.{slice_index, slice_index_or}
use Rattle.atomic_table.specs.Seated.{TableId}
use Rattle.job_line.specs.declared.rule.Hand.{Hand}
use Rattle.job_line.specs.Sums.{begin_of, jobs_in}
use Rattle.job_line.specs.Rule.{ends_at}
use Rattle.job_line.specs.Covers.{SeatView}
use Rattle.job_line.proofs.Plays.{allows_draw}
use Rattle.job_line.proofs.SiteLemmas.{begin-fits, length-begins}
use Rattle.job_line.proofs.SeatLemmas.{begin_read, hand_gains, read_at}
use Rattle.job_line.proofs.line.JobLine.draw_at.Goals as goal

pub fetch_add-number-requires : goal.fetch_add-number-requires
fetch_add-number-requires c =
    let seated = c.seat.invariant in
    let line = ap (λ (seat : SeatView). seat.line) c.seat.view_is ∙ c.requires ∙ sym c.self.view_is in
    let words = ap (λ (id : TableId). id.words) line in
    let count = ap length seated.counts in
    let goes = ap (λ ended. slice_index_or c.seat.inside.ended.items c.args.site ended) (sym c.if-index.false) ∙ sym c.index.ensures ∙ c.if-index.false in (
      line,
      omega (arith, c.if-site-len.false, c.len.ensures, seated.words, words, c.seat.inside.counts.ok),
      allows_draw _ _ _ _ c.seat.inside.seat.me seated.some (omega (arith, c.if-site-len.false, c.len.ensures, count, c.seat.inside.counts.ok)) (seated.goes c.args.site goes),
    )

pub index-requires-then-number-index : goal.index-requires-then-number-index
index-requires-then-number-index c =
    let many = ap length c.seat.invariant.begins in
    omega (arith, c.if-site-len.false, c.len.ensures, many, length-begins 0 c.seat.inside.counts.items, c.seat.inside.counts.ok, c.seat.inside.begins.ok)

pub overflow_add-index : goal.overflow_add-index
overflow_add-index c =
    let counts = c.seat.inside.counts.items in
    let there : c.args.site < length counts = omega (arith, c.if-site-len.false, c.len.ensures, c.seat.inside.counts.ok) in
    let begin = begin_read c.seat.inside.begins.items counts c.args.site c.index-then-number-index.result.now c.seat.invariant.begins there c.index-then-number-index.ensures in
    let count = read_at counts c.args.site c.index-2.result.now there c.index-2.ensures in
    omega (arith, begin, count, c.if-number-index.true, begin-fits counts c.args.site, c.seat.invariant.limit)

pub invariant_of-seat : goal.invariant_of-seat
invariant_of-seat c =
    let seated = c.seat.invariant in
    let counts = c.seat.inside.counts.items in
    let there : c.args.site < length counts = omega (arith, c.if-site-len.false, c.len.ensures, c.seat.inside.counts.ok) in
    let begin = begin_read c.seat.inside.begins.items counts c.args.site c.index-then-number-index.result.now seated.begins there c.index-then-number-index.ensures in
    let count = read_at counts c.args.site c.index-2.result.now there c.index-2.ensures in
    let is = hand_gains c.seat.inside.seat.me.0 c.fetch_add-number.new.seat.me.0 counts c.args.site c.fetch_add-number.result c.index-then-number-index.result.now c.fetch_add-number.ensures.2.0 seated.counts (omega (arith, c.if-number-index.true, count)) begin in
    let words = ap (λ (id : TableId). id.words) c.fetch_add-number.ensures.0 in
    let parts = ap (λ (hand : Hand). hand.parts) is in
    record {
      counts = ap (λ (hand : Hand). hand.counts) is ∙ seated.counts;
      limit = seated.limit;
      words = omega (arith, seated.words, words);
      begins = seated.begins;
      sites = seated.sites;
      goes = λ site still. ap (ends_at site) is ∙ seated.goes site still;
      ends = λ site ended. let same = ap (ends_at site) is in let some_of = seated.ends site ended in omega (arith, same, some_of);
      drawn = ap (λ (hand : Hand). hand.drawn) is ∙ ap (λ drawn. drawn ++ (c.index-then-number-index.result.now + c.fetch_add-number.result) ∷ []) seated.drawn ∙ sym c.push_reserved.ensures.items;
      some = omega (arith, seated.some, parts);
      bare = c.fetch_add-number.ensures.2.1 ∙ seated.bare;
      room = omega (arith, seated.room, c.push_reserved.ensures.capacity);
    }

pub returns-then-number-index-clause-some : goal.returns-then-number-index-clause-some
returns-then-number-index-clause-some c =
    let seated = c.seat.invariant in
    let counts = c.seat.inside.counts.items in
    let there : c.args.site < length counts = omega (arith, c.if-site-len.false, c.len.ensures, c.seat.inside.counts.ok) in
    let begin = begin_read c.seat.inside.begins.items counts c.args.site c.index-then-number-index.result.now seated.begins there c.index-then-number-index.ensures in
    let count = read_at counts c.args.site c.index-2.result.now there c.index-2.ensures in
    let is = hand_gains c.seat.inside.seat.me.0 c.fetch_add-number.new.seat.me.0 counts c.args.site c.fetch_add-number.result c.index-then-number-index.result.now c.fetch_add-number.ensures.2.0 seated.counts (omega (arith, c.if-number-index.true, count)) begin in
    let jobs : jobs_in counts ≡ jobs_in c.args.seat.now.counts = ap (λ (seat : SeatView). jobs_in seat.counts) c.seat.view_is in (
      omega (arith, begin, count, c.if-number-index.true, begin-fits counts c.args.site, jobs),
      λ i. record {
        line = (c.fetch_add-number.ensures.0 ∙ ap (λ (seat : SeatView). seat.line) c.seat.view_is) i;
        counts = (c.seat.view_is i).counts;
        parts = (ap (λ (hand : Hand). hand.parts) is ∙ ap (λ (seat : SeatView). seat.parts) c.seat.view_is) i;
        ended = (c.seat.view_is i).ended;
        drawn = (c.push_reserved.ensures.items ∙ ap (λ (seat : SeatView). seat.drawn ++ (c.index-then-number-index.result.now + c.fetch_add-number.result) ∷ []) c.seat.view_is) i;
      },
    )

pub returns-then-number-index-clause-site : goal.returns-then-number-index-clause-site
returns-then-number-index-clause-site c =
    let counts = c.seat.inside.counts.items in
    let there : c.args.site < length counts = omega (arith, c.if-site-len.false, c.len.ensures, c.seat.inside.counts.ok) in
    let begin = begin_read c.seat.inside.begins.items counts c.args.site c.index-then-number-index.result.now c.seat.invariant.begins there c.index-then-number-index.ensures in
    let count = read_at counts c.args.site c.index-2.result.now there c.index-2.ensures in
    let begins : begin_of counts c.args.site ≡ begin_of c.args.seat.now.counts c.args.site = ap (λ (seat : SeatView). begin_of seat.counts c.args.site) c.seat.view_is in
    let its_count : slice_index counts c.args.site ≡ slice_index c.args.seat.now.counts c.args.site = ap (λ (seat : SeatView). slice_index seat.counts c.args.site) c.seat.view_is in
    record {
      from = omega (arith, begin, begins);
      to = omega (arith, begin, begins, count, its_count, c.if-number-index.true);
    }
