-- The list has what the entries so far have.
use Rattle.std.proofs.Common.{◌≡◌, take}
use Rattle.crawl_audit.specs.Tables.{grants_under}
use Rattle.crawl_audit.proofs.ListedNumbers.{all_of}
use Rattle.crawl_audit.proofs.numbers.PermitNumbers.slot_grants.Given as goal

abbrev pub invariant-loop-index : goal.invariant-loop-index
invariant-loop-index l = l.grants.items ≡ all_of grants_under (take l.index l.self.by_slot.entries)
