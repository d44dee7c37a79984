-- A port follows a colon.
use Rattle.std.proofs.lemmas.Str.Pattern.{strip_prefix_char}
use Rattle.std.specs.Prelude.{Some, None}
use Rattle.http_client.proofs.Servers.{port_parsed, port_missing}
use Rattle.std.proofs.Common.{◌∙◌, arith}
use Rattle.http_client.proofs.host_port.port_of.Goals as goal

pub returns-in-Some : goal.returns-in-Some
returns-in-Some c = λ port small written.
    let starts = strip_prefix_char 58 c.args.tail.now (Some c.in-Some.digits) c.in-Some.ensures.cases (omega arith) in
    c.unwrap_or.ensures ∙ port_parsed _ _ _ _ port starts c.parse.ensures.value.0 small written

pub returns-in-None : goal.returns-in-None
returns-in-None c = λ port small written.
    port_missing _ _ port (strip_prefix_char 58 c.args.tail.now None c.in-None.ensures.cases (omega arith)) written
