-- Taking in seats keeps the rule, and all parts together have all lists.
-- Used by `JobLine::gather`.
use Rattle.std.proofs.Common.{Vec, Global, ℕ, ◌≡◌, ◌∙◌, List, [], ◌∷◌, ◌++◌, length, length-append, append_assoc, append-nil, ap, sym, refl, subst, arith}
use Rattle.std.specs.Prelude.{All, map}
use Rattle.std.proofs.lemmas.List.{map-append}
use Rattle.atomic_table.specs.Seated.{TableId}
use Rattle.atomic_table.specs.Table.{Me}
use Rattle.job_line.specs.declared.rule.Hand.{Hand}
use Rattle.job_line.specs.Rule.{hand_of_both}
use Rattle.job_line.specs.Covers.{SeatView, lists_of}
use Rattle.job_line.specs.Seats.{HasTaken}
use Rattle.job_line.proofs.Plays.{allows_learn, joins_take_in}
use Rattle.job_line.proofs.SeatLemmas.{All-middle, covers_all, lists_of-push, takes_itself, takes_more}
use Rattle.job_line.proofs.line.JobLine.gather.Goals as goal

pub push_reserved-requires-in-loop-seat : goal.push_reserved-requires-in-loop-seat
push_reserved-requires-in-loop-seat c =
    let so_far = c.loop-seat.invariant in
    let all = ap length (so_far.all ∙ ap (λ rest. so_far.taken ++ rest) c.in-Some-seat.ensures.steps.0) in
    omega (arith, so_far.count, so_far.room, all, length-append so_far.taken (c.in-Some-seat.seat ∷ c.next-in-loop-seat.new.self.rest.items), c.requires.few)

pub join_seat-requires : goal.join_seat-requires
join_seat-requires c =
    let so_far = c.loop-seat.invariant in
    let all = so_far.all ∙ ap (λ rest. so_far.taken ++ rest) c.in-Some-seat.ensures.steps.0 in
    let own = subst (All (λ (seat : SeatView). seat.line ≡ c.args.self)) all c.requires.own in
    let its_line = All-middle (λ (seat : SeatView). seat.line ≡ c.args.self) so_far.taken c.in-Some-seat.seat c.next-in-loop-seat.new.self.rest.items own in (
      so_far.has.its_line,
      ap (λ (seat : SeatView). seat.line) c.seat.view_is ∙ its_line ∙ sym c.self.view_is,
      c.seat.invariant.bare,
      c.self.invariant.some_word,
      joins_take_in _ _ _ _ _ so_far.has.some,
    )

pub load-requires : goal.load-requires
load-requires c = (
  c.loop-seat.invariant.has.its_line,
  c.self.invariant.some_word,
  allows_learn _ _ _ c.loop-seat.hand.me,
)

abbrev octets_of : List (Vec ℕ Global) → List (List ℕ)
octets_of lists = map (λ (list : Vec ℕ Global). list.items) lists

pub loop-seat-init : goal.loop-seat-init
loop-seat-init c =
    let line = c.self.inside.table.shared.table_id in
    let all : c.args.seats.items ≡ c.in-Some.first ∷ c.into_iter-seat-iterator.result.rest.items =
    sym c.into_iter-seats.ensures.rest ∙ c.in-Some.ensures.items ∙ ap (λ rest. c.in-Some.first ∷ rest.rest.items) (sym c.into_iter-seat-iterator.ensures.into_iter_gives) in
    let own = subst (All (λ (seat : SeatView). seat.line ≡ c.args.self)) all c.requires.own in
    let its_line = ap (λ (seat : SeatView). seat.line) c.first.view_is ∙ All-middle (λ (seat : SeatView). seat.line ≡ c.args.self) [] c.in-Some.first c.into_iter-seat-iterator.result.rest.items own ∙ sym c.self.view_is in
    let items = c.push_reserved.ensures.items ∙ ap (λ lists. lists ++ c.first.inside.drawn ∷ []) c.self.invariant.empty in
    record {
      taken = c.in-Some.first ∷ [];
      all = all;
      has = subst (λ (seat : SeatView). HasTaken line c.first.inside.seat.table_id c.first.inside.seat.me (seat ∷ [])) c.first.view_is (takes_itself line c.first.inside c.first.invariant its_line);
      lists = ap octets_of items ∙ ap (λ (seat : SeatView). seat.drawn ∷ []) c.first.view_is;
      count = omega (arith, c.push_reserved.ensures.len, ap length c.self.invariant.empty);
      room = omega (arith, c.push_reserved.ensures.capacity, c.self.invariant.room);
    }

pub loop-seat-preserved : goal.loop-seat-preserved
loop-seat-preserved c =
    let so_far = c.loop-seat.invariant in
    let line = c.self.inside.table.shared.table_id in
    let seat = c.in-Some-seat.seat in
    let more = takes_more line c.loop-seat.hand.table_id c.loop-seat.hand.me so_far.taken c.seat.inside so_far.has c.seat.invariant in
    let named = subst (λ (s : SeatView). HasTaken line c.loop-seat.hand.table_id (hand_of_both c.loop-seat.hand.me.0 c.seat.inside.seat.me.0, c.loop-seat.hand.me.1) (so_far.taken ++ s ∷ [])) c.seat.view_is more in
    let with_me = subst (λ (me : Me (Unit {0}) Hand). HasTaken line c.loop-seat.hand.table_id me (so_far.taken ++ seat ∷ [])) (sym c.join_seat.ensures.2) named in
    record {
      taken = so_far.taken ++ seat ∷ [];
      all = so_far.all ∙ ap (λ rest. so_far.taken ++ rest) c.in-Some-seat.ensures.steps.0 ∙ sym (append_assoc so_far.taken (seat ∷ []) c.next-in-loop-seat.new.self.rest.items);
      has = subst (λ (id : TableId). HasTaken line id c.join_seat.new.seat.me (so_far.taken ++ seat ∷ [])) (sym c.join_seat.ensures.0) with_me;
      lists = ap octets_of c.push_reserved-in-loop-seat.ensures.items ∙ map-append (λ (list : Vec ℕ Global). list.items) c.loop-seat.lists.items (c.seat.inside.drawn ∷ [])
          ∙ (λ i. so_far.lists i ++ (c.seat.view_is i).drawn ∷ []) ∙ sym (lists_of-push so_far.taken seat);
      count = omega (arith, so_far.count, c.push_reserved-in-loop-seat.ensures.len, length-append so_far.taken (seat ∷ []));
      room = omega (arith, so_far.room, c.push_reserved-in-loop-seat.ensures.capacity);
    }

whole : (all taken rest : List SeatView) → all ≡ taken ++ rest → rest ≡ [] → taken ≡ all
whole all taken rest is none = sym (is ∙ ap (λ (r : List SeatView). taken ++ r) none ∙ append-nil taken)

no_more : (rest : List SeatView) → length rest ≡ 0 → rest ≡ []
no_more [] none = refl
no_more (seat ∷ rest) none = absurd (omega (arith, none))

pub returns-clause-lists : goal.returns-clause-lists
returns-clause-lists c =
    let so_far = c.loop-seat.invariant in
    so_far.lists ∙ ap lists_of (whole c.args.seats.items so_far.taken c.loop-seat.seat-iterator.rest.items so_far.all (no_more c.loop-seat.seat-iterator.rest.items (omega (arith, c.in-None.ensures.steps.0, c.loop-seat.seat-iterator.rest.ok))))

pub returns-clause-covers : goal.returns-clause-covers
returns-clause-covers c counts same all_parts =
    let so_far = c.loop-seat.invariant in
    let taken = whole c.args.seats.items so_far.taken c.loop-seat.seat-iterator.rest.items so_far.all (no_more c.loop-seat.seat-iterator.rest.items (omega (arith, c.in-None.ensures.steps.0, c.loop-seat.seat-iterator.rest.ok))) in
    let has = subst (HasTaken c.self.inside.table.shared.table_id c.loop-seat.hand.table_id c.loop-seat.hand.me) taken so_far.has in
    covers_all c.self.inside.table.shared.table_id c.loop-seat.hand.table_id c.loop-seat.hand.me c.args.seats.items counts has c.load.ensures.2.1 same all_parts
