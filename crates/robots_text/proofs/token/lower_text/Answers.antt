-- The octets of a token are UTF-8 in lower case.
use Rattle.std.proofs.Common.{true≢false, sym, subst}
use Rattle.std.specs.Str.{IsUtf8}
use Rattle.robots_text.proofs.TokenLemmas.{token_is_utf8}
use Rattle.robots_text.proofs.token.lower_text.Goals as goal

pub unreachable-requires : goal.unreachable-requires
unreachable-requires c =
    let text = subst IsUtf8 (sym c.in_ok-lower_case.ensures) (token_is_utf8 c.args.octets.now c.requires) in
    true≢false (sym (c.in-Err.ensures.succeeds text))
