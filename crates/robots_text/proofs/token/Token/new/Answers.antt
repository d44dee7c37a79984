-- The kept text reads as itself.
use Rattle.std.proofs.Common.{rules, ◌≡◌, Some, List, ℕ, true, ap, sym, subst, ◌∙◌}
use Rattle.std.specs.Prelude.{string_bytes}
use Rattle.robots_text.specs.Token.{is_token, token_of}
use Rattle.robots_text.proofs.TokenLemmas.{token_of_token}
use Rattle.robots_text.proofs.token.Token.new.Goals as goal

pub invariant_of-result : goal.invariant_of-result
invariant_of-result c =
    let token : is_token c.args.octets.now ≡ true = search rules in
    let text_is = ap string_bytes (c.in_ok-shared.ensures {u = tt}) ∙ c.in_ok-text.ensures {u = tt} in
    subst (λ (text : List ℕ). token_of text ≡ Some text) (sym text_is) (token_of_token c.args.octets.now token)
