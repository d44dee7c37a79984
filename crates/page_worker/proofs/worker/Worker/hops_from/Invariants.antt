-- The desk has followed redirects so far, and there is room for the hops to come.
use Rattle.std.proofs.Common.{◌≡◌, ◌≤◌, ◌-◌, length, vec_capacity}
use Rattle.gate_lock.specs.Desks.{KeepsOut}
use Rattle.page_worker.specs.Limits.{max_hops}
use Rattle.page_worker.proofs.Chains.{HasCome}
use Rattle.page_worker.specs.World.{world_of}
use Rattle.page_worker.proofs.worker.Worker.hops_from.Given as goal

abbrev pub invariant-loop-hop : goal.invariant-loop-hop
invariant-loop-hop g l = record {
  come : HasCome (world_of (g.F.Fetcher.gives l.self.fetcher.now) (g.F.Fetcher.follows l.self.fetcher.now) (g.C.Clock.reads l.self.clock.now)) l.token l.fn.url l.hops.items l.url l.fn.desk l.desk;
  same : l.desk.no ≡ l.fn.desk.no;
  out : KeepsOut l.fn.desk l.desk;
  room : max_hops ≤ vec_capacity l.hops;
  newcomers : l.newcomers ≤ l.fn.newcomers;
}

abbrev pub decreases-loop-hop : goal.decreases-loop-hop
decreases-loop-hop g l = max_hops - length l.hops.items
