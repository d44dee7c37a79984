-- A turn that began brings its answer; a mere look makes no turn, and a refusal has its cause.
use Rattle.std.proofs.Common.{inl, subst}
use Rattle.std.specs.Prelude.{Err, Ok, Option}
use Rattle.path_normal.specs.PageText.{authority_of}
use Rattle.gate_core.specs.declared.refusal.BeginRefusal.{BeginRefusal}
use Rattle.gate_core.specs.declared.refusal.BeginRefusal.TheVariants as begin
use Rattle.gate_lock.specs.Desks.{Errand}
use Rattle.crawl_job.specs.declared.hop.Refusal.TheVariants as refusals
use Rattle.page_worker.specs.Refreshes.{MayBeginErrand}
use Rattle.page_worker.specs.World.{world_of}
use Rattle.page_worker.proofs.Hops.{answer_brought, refreshed}
use Rattle.page_worker.proofs.Seeing.{BeginsSomewhere, in_flight, in_force, turn_refused}
use Rattle.page_worker.proofs.worker.Worker.find_answer.Goals as goal

pub returns-in-Ok-Some-clause-refreshed : goal.returns-in-Ok-Some-clause-refreshed
returns-in-Ok-Some-clause-refreshed g c =
    let world = world_of (g.F.Fetcher.gives c.args.self.now.fetcher.now) (g.F.Fetcher.follows c.args.self.now.fetcher.now) (g.C.Clock.reads c.args.self.now.clock.now) in
    let P : Option Errand → Type 0 = λ may. MayBeginErrand world (authority_of c.args.url.now) (Ok may) c.args.desk.now c.begin_stale.new.desk in
    refreshed world (authority_of c.args.url.now)
    c.in-Ok-Some.turn c.bring_answer.result c.args.desk.now c.begin_stale.new.desk c.bring_answer.new.desk
    (subst P c.in-Ok-Some.field-0-is c.in-Ok-Some.ensures.begins) c.bring_answer.ensures.brings

pub returns-in-Ok-Some-clause-finds : goal.returns-in-Ok-Some-clause-finds
returns-in-Ok-Some-clause-finds g c =
    let world = world_of (g.F.Fetcher.gives c.args.self.now.fetcher.now) (g.F.Fetcher.follows c.args.self.now.fetcher.now) (g.C.Clock.reads c.args.self.now.clock.now) in
    let P : Option Errand → Type 0 = λ may. MayBeginErrand world (authority_of c.args.url.now) (Ok may) c.args.desk.now c.begin_stale.new.desk in
    inl (answer_brought world (authority_of c.args.url.now)
    c.in-Ok-Some.turn c.bring_answer.result c.args.desk.now c.begin_stale.new.desk c.bring_answer.new.desk
    (subst P c.in-Ok-Some.field-0-is c.in-Ok-Some.ensures.begins) c.bring_answer.ensures.brings)

pub returns-in-Ok-None-clause-finds : goal.returns-in-Ok-None-clause-finds
returns-in-Ok-None-clause-finds g c =
    let P : Option Errand → Type 0 = λ may. BeginsSomewhere (world_of (g.F.Fetcher.gives c.args.self.now.fetcher.now) (g.F.Fetcher.follows c.args.self.now.fetcher.now) (g.C.Clock.reads c.args.self.now.clock.now)) (authority_of c.args.url.now) c.now.result c.args.newcomers.now (Ok may)
    c.begin_stale.new.newcomers c.args.desk.now c.begin_stale.new.desk in
    in_force (world_of (g.F.Fetcher.gives c.args.self.now.fetcher.now) (g.F.Fetcher.follows c.args.self.now.fetcher.now) (g.C.Clock.reads c.args.self.now.clock.now)) (authority_of c.args.url.now) c.now.result c.args.newcomers.now c.begin_stale.new.newcomers c.args.desk.now
    c.begin_stale.new.desk c.now.ensures (subst P c.in-Ok-None.field-0-is c.in-Ok-None.ensures.step)

pub returns-in-Err-LogFull-clause-finds : goal.returns-in-Err-LogFull-clause-finds
returns-in-Err-LogFull-clause-finds g c =
    let P : BeginRefusal → Type 0 = λ why. BeginsSomewhere (world_of (g.F.Fetcher.gives c.args.self.now.fetcher.now) (g.F.Fetcher.follows c.args.self.now.fetcher.now) (g.C.Clock.reads c.args.self.now.clock.now)) (authority_of c.args.url.now) c.now.result c.args.newcomers.now (Err why)
    c.begin_stale.new.newcomers c.args.desk.now c.begin_stale.new.desk in
    turn_refused (world_of (g.F.Fetcher.gives c.args.self.now.fetcher.now) (g.F.Fetcher.follows c.args.self.now.fetcher.now) (g.C.Clock.reads c.args.self.now.clock.now)) (authority_of c.args.url.now) c.now.result c.args.newcomers.now c.begin_stale.new.newcomers begin.LogFull refusals.LogFull
    c.args.desk.now c.begin_stale.new.desk (λ before told. told.1) c.now.ensures (subst P c.in-Err-LogFull.field-0-is c.in-Err-LogFull.ensures.step)

pub returns-in-Err-AuthoritiesFull-clause-finds : goal.returns-in-Err-AuthoritiesFull-clause-finds
returns-in-Err-AuthoritiesFull-clause-finds g c =
    let P : BeginRefusal → Type 0 = λ why. BeginsSomewhere (world_of (g.F.Fetcher.gives c.args.self.now.fetcher.now) (g.F.Fetcher.follows c.args.self.now.fetcher.now) (g.C.Clock.reads c.args.self.now.clock.now)) (authority_of c.args.url.now) c.now.result c.args.newcomers.now (Err why)
    c.begin_stale.new.newcomers c.args.desk.now c.begin_stale.new.desk in
    turn_refused (world_of (g.F.Fetcher.gives c.args.self.now.fetcher.now) (g.F.Fetcher.follows c.args.self.now.fetcher.now) (g.C.Clock.reads c.args.self.now.clock.now)) (authority_of c.args.url.now) c.now.result c.args.newcomers.now c.begin_stale.new.newcomers begin.AuthoritiesFull refusals.AuthoritiesFull
    c.args.desk.now c.begin_stale.new.desk (λ before told. told.1) c.now.ensures (subst P c.in-Err-AuthoritiesFull.field-0-is c.in-Err-AuthoritiesFull.ensures.step)

pub returns-in-Err-NoMemory-clause-finds : goal.returns-in-Err-NoMemory-clause-finds
returns-in-Err-NoMemory-clause-finds g c =
    let P : BeginRefusal → Type 0 = λ why. BeginsSomewhere (world_of (g.F.Fetcher.gives c.args.self.now.fetcher.now) (g.F.Fetcher.follows c.args.self.now.fetcher.now) (g.C.Clock.reads c.args.self.now.clock.now)) (authority_of c.args.url.now) c.now.result c.args.newcomers.now (Err why)
    c.begin_stale.new.newcomers c.args.desk.now c.begin_stale.new.desk in
    turn_refused (world_of (g.F.Fetcher.gives c.args.self.now.fetcher.now) (g.F.Fetcher.follows c.args.self.now.fetcher.now) (g.C.Clock.reads c.args.self.now.clock.now)) (authority_of c.args.url.now) c.now.result c.args.newcomers.now c.begin_stale.new.newcomers begin.NoMemory refusals.NoMemory
    c.args.desk.now c.begin_stale.new.desk (λ before told. tt) c.now.ensures (subst P c.in-Err-NoMemory.field-0-is c.in-Err-NoMemory.ensures.step)

pub returns-in-Err-InFlight-clause-finds : goal.returns-in-Err-InFlight-clause-finds
returns-in-Err-InFlight-clause-finds g c =
    let P : BeginRefusal → Type 0 = λ why. BeginsSomewhere (world_of (g.F.Fetcher.gives c.args.self.now.fetcher.now) (g.F.Fetcher.follows c.args.self.now.fetcher.now) (g.C.Clock.reads c.args.self.now.clock.now)) (authority_of c.args.url.now) c.now.result c.args.newcomers.now (Err why)
    c.begin_stale.new.newcomers c.args.desk.now c.begin_stale.new.desk in
    in_flight (world_of (g.F.Fetcher.gives c.args.self.now.fetcher.now) (g.F.Fetcher.follows c.args.self.now.fetcher.now) (g.C.Clock.reads c.args.self.now.clock.now)) (authority_of c.args.url.now) c.now.result c.args.newcomers.now
    c.begin_stale.new.newcomers c.args.desk.now c.begin_stale.new.desk
    c.now.ensures (subst P c.in-Err-InFlight.field-0-is c.in-Err-InFlight.ensures.step)
