-- A plain URL reads as itself, with the parser's parts.
use Rattle.std.proofs.Common.{◌≡◌, ◌≤◌, ◌∙◌, ℕ, List, None, Ok, length, sym, subst, arith}
use Rattle.std.proofs.lemmas.Bool.Decides.{nat_tests}
use Rattle.url.specs.Parser.{parse_url}
use Rattle.url.specs.Parts.{Parts}
use Rattle.path_normal.specs.Limits.{max_url}
use Rattle.path_normal.specs.PageUrl.{HasPartsOf}
use Rattle.path_normal.proofs.PlainLemmas.{plain_parsed}
use Rattle.path_normal.proofs.schemes.Schemes.read_page.Goals as goal

pub returns-in-Some-clause-parts : goal.returns-in-Some-clause-parts
returns-in-Some-clause-parts c =
    let fits = sym c.is_long.ensures ∙ c.if-is_long.false in
    let short : length c.args.text.now ≤ max_url = grind (arith, nat_tests, fits) in
    subst (λ (page : List ℕ). (url : Parts) × (parse_url None c.args.text.now ≡ Ok url) × HasPartsOf page url) (sym (c.in_ok-shared.ensures {u = tt} ∙ c.in_ok-of_plain.ensures {u = tt}))
    (plain_parsed c.args.text.now c.in-Some.end (c.in-Some.ensures {u = tt}) short)
