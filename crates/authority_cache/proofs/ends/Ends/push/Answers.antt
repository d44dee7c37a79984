-- There is room, so the heap takes the end.
use Rattle.std.proofs.Common.{rules, ◌≡◌, ◌<◌, length, map, subst, sym, arith}
use Rattle.std.specs.BinaryHeap.{heap_capacity, heap_items, heap_len}
use Rattle.std.specs.declared.cmp.Reverse.{Reverse}
use Rattle.std.proofs.lemmas.List.{length-map}
use Rattle.authority_cache.specs.Ends.{Adds, End, KeptEnds, kept_of}
use Rattle.authority_cache.proofs.EndLaws.{done, end_added}
use Rattle.authority_cache.proofs.ends.Ends.push.Goals as goal

pub returns : goal.returns
returns c =
    let old = c.self.inside.heap in
    let new = c.push.new.self in
    let was : heap_len old ≡ length (heap_items old) = search rules in
    let is : heap_len new ≡ length (heap_items new) = search rules in
    let first = length-map (heap_items old) (λ (r : Reverse End). r.0) in
    let then = length-map (heap_items new) (λ (r : Reverse End). r.0) in
    let requires : length (map (λ (r : Reverse End). r.0) (heap_items old)) < heap_capacity old = subst (λ (k : KeptEnds). length k.ends < k.room) (sym c.self.view_is) c.requires in
    let fits = c.push.ensures.succeeds (omega (arith, requires, was, first)) in
    let more = done c.push.result fits c.push.ensures.len in
    subst (λ (k : KeptEnds). Adds k (c.args.last, c.args.site) (kept_of (record { heap = new }))) c.self.view_is
    (record {
      ends = λ e. end_added e (record { 0 = (c.args.last, c.args.site) }) (heap_items old) (heap_items new) (done c.push.result fits c.push.ensures.permutation);
      many = omega (arith, was, is, first, then, more);
      room = c.push.ensures.capacity;
    })
