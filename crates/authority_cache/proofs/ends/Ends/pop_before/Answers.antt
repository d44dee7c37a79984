-- The first of the heap is the first end.
use Rattle.std.proofs.Common.{rules, ◌≡◌, ◌<◌, ap, Option, IfSome, length, subst, sym, arith, ℕ}
use Rattle.std.specs.BinaryHeap.{heap_items, heap_len}
use Rattle.std.specs.declared.cmp.Reverse.{Reverse}
use Rattle.std.proofs.lemmas.List.{length-map}
use Rattle.authority_cache.specs.Ends.{End, KeptEnds, NoneBefore, Takes, kept_of}
use Rattle.authority_cache.proofs.EndLaws.{end_taken, none_before, none_empty, same_first}
use Rattle.authority_cache.proofs.ends.Ends.pop_before.Goals as goal
use Rattle.authority_cache.proofs.ends.Ends.pop_before.Goals.{in_default-via-in-Some+else-last-moment, in_default-via-in_default}
use Rattle.authority_cache.proofs.ends.Ends.pop_before.Goals.{in-Some-pop, in-None}

pub returns-in_default-clause-none : goal.returns-in_default-clause-none
returns-in_default-clause-none c =
    let items = heap_items c.self.inside.heap in
    let many : heap_len c.self.inside.heap ≡ length items = search rules in
    subst (λ (k : KeptEnds). NoneBefore c.args.moment k) c.self.view_is
    (elim c.in_default.branch [
      | in_default-via-in-Some+else-last-moment w ↦ none_before c.args.moment w.in-Some.field-0.now items (w.in-Some.ensures.greatest c.self.invariant) w.if-last-moment.false
      | in_default-via-in_default w ↦ none_empty c.args.moment items (let none : heap_len c.self.inside.heap ≡ 0 = search (rules, w.in_default.ensures.variant) in omega (arith, many, none))
    ])

pub returns-clause-some : goal.returns-clause-some
returns-clause-some c =
    let old = c.self.inside.heap in
    let new = c.pop.new.self in
    let was : heap_len old ≡ length (heap_items old) = search rules in
    let is : heap_len new ≡ length (heap_items new) = search rules in
    let first = length-map (heap_items old) (λ (r : Reverse End). r.0) in
    let then = length-map (heap_items new) (λ (r : Reverse End). r.0) in
    subst (λ (k : KeptEnds). IfSome c.match-pop.result (λ site. Takes c.args.moment k site (kept_of (record { heap = new })))) c.self.view_is
    (elim c.match-pop.branch [
      | in-Some-pop w ↦
          let x = w.in-Some-pop.field-0 in
          let some : 0 < length (heap_items old) = omega (arith, was, w.in-Some-pop.ensures.len) in
          let same = same_first (heap_items old) c.in-Some.field-0.now x some c.in-Some.ensures.lookup w.in-Some-pop.ensures.top in
          let last : c.in-Some.field-0.now.0.0 ≡ x.0.0 = ap (λ (r : Reverse End). r.0.0) same in
          subst (λ (o : Option ℕ). IfSome o (λ site. Takes c.args.moment (kept_of c.self.inside) site (kept_of (record { heap = new })))) (sym w.result-is)
          (record {
            last = x.0.0;
            before = omega (arith, last, c.if-last-moment.true);
            ends = λ e. end_taken e x (heap_items old) (heap_items new) w.in-Some-pop.ensures.permutation;
            many = omega (arith, was, is, first, then, w.in-Some-pop.ensures.len);
            room = w.in-Some-pop.ensures.capacity;
          })
      | in-None w ↦ subst (λ (o : Option ℕ). IfSome o (λ site. Takes c.args.moment (kept_of c.self.inside) site (kept_of (record { heap = new })))) (sym w.result-is) tt
    ])
