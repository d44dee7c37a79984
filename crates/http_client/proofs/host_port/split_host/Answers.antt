-- The host ends at its bracket, or at the first colon.
use Rattle.std.proofs.lemmas.Str.Pattern.{find_char, strip_prefix_char}
use Rattle.std.specs.Prelude.{Some, None}
use Rattle.std.proofs.Common.{◌∙◌, arith, sym}
use Rattle.http_client.proofs.Servers.{bracketed_host, cut_host, whole_host}
use Rattle.http_client.proofs.host_port.split_host.Goals as goal

pub returns-in-Some : goal.returns-in-Some
returns-in-Some c = λ host port valid written.
    let starts = strip_prefix_char 91 c.args.authority.now (Some c.in-Some.bracketed) c.in-Some.ensures.cases (omega arith) in
    bracketed_host c.in-Some.bracketed.now c.split_once.result _ c.unwrap_or.result host port c.split_once.ensures.cases c.unwrap_or.ensures valid (sym starts ∙ written)

pub returns-in-Some-find : goal.returns-in-Some-find
returns-in-Some-find c = λ host port valid written.
    let text = c.args.authority.now in
    let other = strip_prefix_char 91 text None c.in-None.ensures.cases (omega arith) in
    let colon = find_char 58 text (Some c.in-Some-find.end) c.in-Some-find.ensures.cases (omega arith) in
    let parts = cut_host text c.in-Some-find.end host port other colon valid written in
    (c.split_at.ensures.front ∙ parts.0, c.split_at.ensures.back ∙ parts.1)

pub returns-in-None-find : goal.returns-in-None-find
returns-in-None-find c = λ host port valid written.
    let text = c.args.authority.now in
    let other = strip_prefix_char 91 text None c.in-None.ensures.cases (omega arith) in
    let none = find_char 58 text None c.in-None-find.ensures.cases (omega arith) in
    whole_host text host port other none written
