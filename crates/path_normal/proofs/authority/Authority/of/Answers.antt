-- A page's authority reads as itself.
use Rattle.std.proofs.Common.{◌∙◌, ap, sym, subst}
use Rattle.std.specs.Prelude.{string_bytes}
use Rattle.path_normal.specs.Authority.{IsAuthority}
use Rattle.path_normal.proofs.AuthorityLemmas.{authority_is}
use Rattle.path_normal.proofs.authority.Authority.of.Goals as goal

pub invariant_of-result : goal.invariant_of-result
invariant_of-result c =
    let text_is = ap string_bytes ((c.in_ok-new.ensures {u = tt}).ok) ∙ (c.in_ok-text.ensures {u = tt}).ok in
    subst IsAuthority (sym (text_is ∙ c.authority.ensures.value)) (authority_is c.args.url.now c.authority.ensures.page)
