-- Both tables count what the history left open.
-- By the lemmas of `Keeping`.
use Rattle.std.proofs.Common.{ap, arith}
use Rattle.gate_core.specs.Gate.{Gate, history, promised}
use Rattle.gate_core.proofs.Keeping.{few_promised, flights_many, running_many, unspent_many}
use Rattle.gate_core.proofs.book.Book.promised.Goals as goal

pub overflow_add-result : goal.overflow_add-result
overflow_add-result c =
    let few = few_promised c.self.inside c.self.invariant in
    let flights = flights_many c.self.inside c.self.invariant c.flight_count.ensures.apart in
    let out = unspent_many c.self.inside c.self.invariant in
    omega (arith, c.flight_count.ensures.value, c.unspent_count.ensures.value, few, flights, out)

pub overflow_add-result-2 : goal.overflow_add-result-2
overflow_add-result-2 c =
    let few = few_promised c.self.inside c.self.invariant in
    let flights = flights_many c.self.inside c.self.invariant c.flight_count.ensures.apart in
    let out = unspent_many c.self.inside c.self.invariant in
    let runs = running_many c.self.inside c.self.invariant in
    omega (arith, c.flight_count.ensures.value, c.unspent_count.ensures.value, c.running_count.ensures.value, few, flights, out, runs)

pub returns-clause-value : goal.returns-clause-value
returns-clause-value c =
    let flights = flights_many c.self.inside c.self.invariant c.flight_count.ensures.apart in
    let out = unspent_many c.self.inside c.self.invariant in
    let runs = running_many c.self.inside c.self.invariant in
    omega (arith, c.flight_count.ensures.value, c.unspent_count.ensures.value, c.running_count.ensures.value, flights, out, runs, ap (λ (g : Gate). promised (history g)) c.self.view_is)
