-- Each redirect that is followed adds a hop, and the last hops end the list.
use Rattle.std.proofs.Common.{◌≡◌, ◌∙◌, length, arith, rules}
use Rattle.page_worker.proofs.Chains.{come_on, come_to_stop}
use Rattle.page_worker.specs.World.{world_of}
use Rattle.page_worker.proofs.worker.Worker.hops_from.Goals as goal

pub loop-hop-preserved : goal.loop-hop-preserved
loop-hop-preserved g c =
    let count : c.len.result ≡ length c.loop-hop.hops.items = omega (arith, c.len.ensures, c.loop-hop.hops.ok.0) in
    record {
      come = come_on (world_of (g.F.Fetcher.gives c.args.self.now.fetcher.now) (g.F.Fetcher.follows c.args.self.now.fetcher.now) (g.C.Clock.reads c.args.self.now.clock.now)) c.args.token.now c.args.url c.loop-hop.url c.in-Leads.next
          c.loop-hop.hops.items c.push_reserved-in-Leads.new.self.items c.in-Leads.hop c.len.result c.args.desk.now
          c.loop-hop.desk c.hop_at.new.desk count c.push_reserved-in-Leads.ensures.items c.loop-hop.invariant.come c.in-Leads.ensures.tells;
      same = search rules;
      out = record { permits_are = omega arith; runs_are = omega arith; turns_are = omega arith; sealed_are = c.hop_at.ensures.out.sealed_are ∙ c.loop-hop.invariant.out.sealed_are };
      room = omega arith;
      newcomers = omega arith;
    }

pub returns-in-Stops-clause-tells : goal.returns-in-Stops-clause-tells
returns-in-Stops-clause-tells g c =
    let count : c.len.result ≡ length c.loop-hop.hops.items = omega (arith, c.len.ensures, c.loop-hop.hops.ok.0) in
    come_to_stop (world_of (g.F.Fetcher.gives c.args.self.now.fetcher.now) (g.F.Fetcher.follows c.args.self.now.fetcher.now) (g.C.Clock.reads c.args.self.now.clock.now)) c.args.token.now c.args.url c.loop-hop.url c.loop-hop.hops.items
    c.push_reserved-in-Stops.new.self.items c.push_reserved-in-Stops-2.new.self.items c.in-Stops.hop c.in-Stops.stop
    c.new-body.result.items c.len.result c.args.desk.now c.loop-hop.desk c.hop_at.new.desk count
    c.push_reserved-in-Stops.ensures.items c.push_reserved-in-Stops-2.ensures.items c.new-body.ensures.items
    c.loop-hop.invariant.come c.in-Stops.ensures.tells
