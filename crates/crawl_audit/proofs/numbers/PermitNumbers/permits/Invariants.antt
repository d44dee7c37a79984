-- The lists have what the entries so far have.
use Rattle.std.proofs.Common.{◌≡◌, take}
use Rattle.crawl_audit.specs.Tables.{running_under, unspent_under}
use Rattle.crawl_audit.proofs.ListedNumbers.{all_of}
use Rattle.crawl_audit.proofs.numbers.PermitNumbers.permits.Given as goal

abbrev pub invariant-loop-index : goal.invariant-loop-index
invariant-loop-index l =
    let es = take l.index l.self.out.entries in
    (l.unspent.items ≡ all_of unspent_under es) × (l.running.items ≡ all_of running_under es)
