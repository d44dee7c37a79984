-- The entry that is found is what is known.
use Rattle.std.proofs.Common.{◌≡◌, None, Some, false, sym, ap, ◌∙◌, subst, string_bytes}
use Rattle.std.specs.Option.{option_map}
use Rattle.std.proofs.lemmas.Slice.Eq.{bytes_eq-Decides}
use Rattle.authority_cache.specs.Calls.{IsFound}
use Rattle.authority_cache.specs.Sites.{Known, is_flying, said_site}
use Rattle.authority_cache.proofs.FoundLaws.{key_passes, said_at}
use Rattle.authority_cache.proofs.SiteLaws.{found-said, is_named, state-none, state-some}
use Rattle.authority_cache.proofs.cache.Cache.search.Goals as goal

pub returns-in-Some : goal.returns-in-Some
returns-in-Some c =
    let es = c.self.inside.sites.entries in
    let a = c.args.authority.now in
    let state = state-some c.self.inside.limit a es c.in-Some.site.now (sym c.in-Some.ensures.value) in
    let name : a ≡ string_bytes c.in-Some._authority.now =
    (bytes_eq-Decides a (string_bytes c.in-Some._authority.now)).0 (key_passes (is_named a) es c.in-Some._authority.now (sym c.in-Some.ensures.key)) in
    let named = sym name in
    let stands = sym state in
    subst (λ (k : Known). IsFound k a (record { index = Some c.in-Some.index; is_fetching = c.is_some.result })) c.self.view_is
    (record {
      some = said_at es c.in-Some.index _ c.in-Some.ensures.entry ∙ (λ i. Some (named i, stands i));
      none = tt;
      fetching = c.is_some.ensures ∙ ap is_flying (sym state);
    })

pub returns-in-None : goal.returns-in-None
returns-in-None c =
    let es = c.self.inside.sites.entries in
    let a = c.args.authority.now in
    subst (λ (k : Known). IsFound k a (record { index = None; is_fetching = false })) c.self.view_is
    (record {
      some = tt;
      none = found-said a es ∙ ap (option_map said_site) (sym c.in-None.ensures.value);
      fetching = ap is_flying (sym (state-none c.self.inside.limit a es (sym c.in-None.ensures.value)));
    })
