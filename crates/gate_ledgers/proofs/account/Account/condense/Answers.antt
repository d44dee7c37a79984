-- What is counted stays.
use Rattle.std.proofs.Common.{◌≡◌, length, map, take, refl, ap, sym, ◌∙◌, arith, rules}
use Rattle.gate_marks.specs.Marks.{AreSealed, SealedView, sealed_with}
use Rattle.gate_marks.proofs.CallerLemmas.{keeps_count, taken_in}
use Rattle.gate_ledgers.specs.Accounts.{AccountView}
use Rattle.gate_ledgers.proofs.account.Account.condense.Goals as goal

pub invariant_of-self : goal.invariant_of-self
invariant_of-self g c =
    let below : AreSealed c.args.sealed (map (λ m. m.place) (take c.count_below-count.result c.self.inside.marks.items)) = search rules in
    let taken = taken_in c.take_in.result c.args.sealed c.count_below-count.result c.self.inside.sealed c.take_in.new.self
    c.self.inside.marks.items c.take_in.new.marks.items c.take_in.ensures.ok c.take_in.ensures.err below in
    let keeps = keeps_count c.args.sealed c.self.inside.sealed c.take_in.new.self c.self.inside.marks.items c.take_in.new.marks.items taken in
    let count = keeps.0 in
    let starts = keeps.1 in
    let entries_are = c.self.invariant.entries_are in
    let starts_are = c.self.invariant.starts_are in
    let before = ap (λ (s : SealedView). s.before) taken.sealed_are in
    record {
      entries_are = omega (arith, entries_are, count, before);
      starts_are = omega (arith, starts_are, starts);
      handed_are = c.self.invariant.handed_are ∙ sym (ap (λ (s : SealedView). s.handed) taken.sealed_are);
    }
