-- The reply for the walk's URL continues the walk or decides.
use Rattle.std.proofs.Common.{ℕ, List, inl, sym, subst}
use Rattle.path_normal.specs.declared.schemes.Schemes.{Schemes}
use Rattle.path_normal.specs.PageText.{robots_url_of}
use Rattle.robots_fetch.specs.declared.reply.RobotsReply.{RobotsReply}
use Rattle.robots_fetch.specs.declared.walk.Step.TheVariants.{Go, Done}
use Rattle.robots_fetch.specs.Steps.{IsBegun, StepsAmong}
use Rattle.fetchers.specs.Limits.{robots_limit}
use Rattle.fetchers.specs.Walks.{AreLed, robots_reply_of}
use Rattle.page_worker.proofs.Fetching.{begin_walk, fetched, go_on}
use Rattle.page_worker.proofs.refreshing.fetch_answer.Goals as goal

pub fetch_robots-given-requires : goal.fetch_robots-given-requires
fetch_robots-given-requires g c =
    let schemes = g.F.Fetcher.follows c.args.fetcher.now in
    let gives = (g.F.Fetcher.gives c.args.fetcher.now).holds robots_limit in
    let under = c.loop-next.invariant in
    let P : List ℕ → Type 0 = λ url. AreLed schemes gives (robots_url_of c.args.turn.now.authority) under.way url in
    (under.way, subst P (sym c.url-url.ensures) under.are_led)

pub returns-in-Done-clause-brings : goal.returns-in-Done-clause-brings
returns-in-Done-clause-brings g c =
    let schemes = g.F.Fetcher.follows c.args.fetcher.now in
    let gives = (g.F.Fetcher.gives c.args.fetcher.now).holds robots_limit in
    let walk = c.loop-next.walk in
    let P : List ℕ → Type 0 = λ url. gives url c.fetch_robots-given.result in
    let Q : RobotsReply → Type 0 = λ reply. StepsAmong c.schemes-schemes.result walk reply (Done c.in-Done.answer) in
    let R : Schemes → Type 0 = λ s. StepsAmong s walk (robots_reply_of c.fetch_robots-given.result) (Done c.in-Done.answer) in
    inl (fetched schemes gives c.args.turn.now.authority walk c.fetch_robots-given.result c.in-Done.answer c.loop-next.invariant
    (subst P c.url-url.ensures c.fetch_robots-given.ensures) (subst R c.schemes-schemes.ensures (subst Q c.robots_reply-reply.ensures c.in-Done.ensures)))

pub loop-next-preserved-in-Go : goal.loop-next-preserved-in-Go
loop-next-preserved-in-Go g c =
    let schemes = g.F.Fetcher.follows c.args.fetcher.now in
    let gives = (g.F.Fetcher.gives c.args.fetcher.now).holds robots_limit in
    let walk = c.loop-next.walk in
    let P : List ℕ → Type 0 = λ url. gives url c.fetch_robots-given.result in
    let Q : RobotsReply → Type 0 = λ reply. StepsAmong c.schemes-schemes.result walk reply (Go c.in-Go.next) in
    let R : Schemes → Type 0 = λ s. StepsAmong s walk (robots_reply_of c.fetch_robots-given.result) (Go c.in-Go.next) in
    go_on schemes gives c.args.turn.now.authority walk c.in-Go.next c.fetch_robots-given.result c.loop-next.invariant
    (subst P c.url-url.ensures c.fetch_robots-given.ensures) (subst R c.schemes-schemes.ensures (subst Q c.robots_reply-reply.ensures c.in-Go.ensures))

pub loop-next-init : goal.loop-next-init
loop-next-init g c =
    let P : List ℕ → Type 0 = λ authority. IsBegun authority c.in-Ok.walk in
    begin_walk (g.F.Fetcher.follows c.args.fetcher.now) ((g.F.Fetcher.gives c.args.fetcher.now).holds robots_limit) c.args.turn.now.authority c.in-Ok.walk
    (subst P c.authority.ensures c.in-Ok.ensures)
