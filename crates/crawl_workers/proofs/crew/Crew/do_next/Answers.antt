-- The drawn job is done after the others.
-- Used by `Crew::do_next`.
use Rattle.std.proofs.Common.{◌≡◌, ◌∙◌, ◌++◌, ◌∷◌, [], ap, sym}
use Rattle.std.specs.Prelude.{map}
use Rattle.std.proofs.lemmas.List.{map-append}
use Rattle.crawl_workers.specs.declared.crew.Done.{Done}
use Rattle.crawl_workers.specs.Crews.{WorkView}
use Rattle.page_worker.specs.Refreshes.{entries_of}
use Rattle.page_worker.specs.World.{world_of}
use Rattle.crawl_workers.proofs.Doing.{did_another}
use Rattle.crawl_workers.proofs.crew.Crew.do_next.Goals as goal

pub returns-clause-ok : goal.returns-clause-ok
returns-clause-ok g c =
    let so_far = c.requires.so_far in
    let work = c.args.work.now in
    let did = c.in_ok-did.did in
    let this = (c.in_ok-did.ensures {u = tt}).ok in
    let world = world_of (g.F.Fetcher.gives c.args.self.now.fetcher.now) (g.F.Fetcher.follows c.args.self.now.fetcher.now) (g.C.Clock.reads c.args.self.now.clock.now) in
    let items : c.push_reserved-2.new.self.items ≡ work.done ++ did ∷ [] =
    c.push_reserved-2.ensures.items ∙ ap (λ xs. xs ++ did ∷ []) (c.reserve-2.ensures.items ∙ ap (λ (w : WorkView). w.done) c.work.view_is) in
    let numbers : c.push_reserved.new.self.items ≡ work.drawn ++ c.args.number ∷ [] =
    c.push_reserved.ensures.items ∙ ap (λ xs. xs ++ c.args.number ∷ []) (c.reserve.ensures.items ∙ ap (λ (w : WorkView). w.drawn) c.work.view_is) in
    let number : map (λ (d : Done). d.number) (did ∷ []) ≡ c.args.number ∷ [] = ap (λ n. n ∷ []) (c.in_ok-did.ensures {u = tt}).number in
    record {
      numbers = ap (map (λ (d : Done). d.number)) items ∙ map-append (λ (d : Done). d.number) work.done (did ∷ [])
          ∙ (λ i. so_far.numbers i ++ number i) ∙ sym numbers;
      are_done = did_another world c.args.self.now.jobs.now work.done c.push_reserved-2.new.self.items did (entries_of c.args.desk.now.marks) this.0 (entries_of c.do_job.new.desk.marks) items this.1.0 so_far.are_done this.1.1;
      are_all = (c.in_ok-did.ensures {u = tt}).out.sealed_are ∙ so_far.are_all;
    }
