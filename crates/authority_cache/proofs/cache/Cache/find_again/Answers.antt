-- The entry at the last place has the authority's name.
use Rattle.std.proofs.Common.{◌≡◌, List, ℕ, Option, Some, sym, ap, ◌∙◌, subst, string_bytes}
use Rattle.std.specs.Map.{lookup}
use Rattle.std.proofs.lemmas.Slice.Eq.{bytes_eq-Decides}
use Rattle.authority_cache.specs.declared.site.Site.{Site}
use Rattle.authority_cache.specs.Calls.{IsFound}
use Rattle.authority_cache.specs.Sites.{Known, is_flying}
use Rattle.authority_cache.proofs.FoundLaws.{said_at}
use Rattle.authority_cache.proofs.SiteLaws.{is_named, state-some}
use Rattle.authority_cache.proofs.cache.Cache.find_again.Goals as goal

pub returns-in-Some : goal.returns-in-Some
returns-in-Some c =
    let es = c.self.inside.sites.entries in
    let a = c.args.authority.now in
    let site = c.in-Some.site.now in
    let name : string_bytes c.in-Some.name.now ≡ a =
    sym c.as_str.ensures.value ∙ (bytes_eq-Decides c.as_str.result.now a).0 (sym c.eq.ensures ∙ c.if-eq.true) in
    let found : lookup (is_named a) es ≡ Some site = subst (λ (b : List ℕ). lookup (is_named b) es ≡ Some site) name c.in-Some.ensures.value in
    let state = state-some c.self.inside.limit a es site found in
    let stands = sym state in
    subst (λ (k : Known). IsFound k a (record { index = Some c.get-index.result; is_fetching = c.is_some.result })) c.self.view_is
    (record {
      some = said_at es c.get-index.result _ (sym c.in-Some.ensures.entry) ∙ (λ i. Some (name i, stands i));
      none = tt;
      fetching = c.is_some.ensures ∙ ap is_flying (sym state);
    })
