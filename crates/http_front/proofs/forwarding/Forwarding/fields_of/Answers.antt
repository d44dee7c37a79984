-- Each field is handed on under its own name.
use Rattle.std.specs.Prelude.{codes}
use Rattle.std.proofs.Common.{subst}
use Rattle.http_front.specs.Forwarding.{HandsOnNamed}
use Rattle.http_front.proofs.forwarding.Forwarding.fields_of.Goals as goal

pub returns-in-Conditions : goal.returns-in-Conditions
returns-in-Conditions c =
    let are = c.headers-headers.ensures in
    let tags = subst (λ headers. HandsOnNamed (codes "if-none-match") headers c.forwarded_value.result) are c.forwarded_value.ensures in
    let since = subst (λ headers. HandsOnNamed (codes "if-modified-since") headers c.forwarded_value-in-Conditions.result) are c.forwarded_value-in-Conditions.ensures in
    let types = subst (λ headers. HandsOnNamed (codes "accept") headers c.forwarded_value-in-Conditions-2.result) are c.forwarded_value-in-Conditions-2.ensures in
    let languages = subst (λ headers. HandsOnNamed (codes "accept-language") headers c.forwarded_value-in-Conditions-3.result) are c.forwarded_value-in-Conditions-3.ensures in
    rw c.in-Conditions.is (tags, (since, (types, languages)))
