-- A response in the input is found, since an input gives one reply and no fault besides.
use Rattle.http_wire.proofs.ResponseLaws.{finds}
use Rattle.http_wire.proofs.response.read_response_with.Goals as goal

pub returns-clause-found : goal.returns-clause-found
returns-clause-found g c = finds (g.S.Source.left c.args.source.now) c.args.limit c.read_reply.result c.read_reply.ensures.tells
