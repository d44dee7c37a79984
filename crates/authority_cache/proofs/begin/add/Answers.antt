-- The key is new, so its entry comes last.
use Rattle.std.proofs.Common.{◌≡◌, ◌++◌, ◌∷◌, [], List, None, String, Global, refl, sym, ap, subst, ◌∙◌}
use Rattle.std.specs.HashMap.{get_by_text}
use Rattle.std.specs.String.{string_eq}
use Rattle.std.proofs.lemmas.List.{map-append}
use Rattle.indexmap.proofs.CallerLemmas.{insert_entry-new}
use Rattle.authority_cache.specs.declared.site.Site.{Site}
use Rattle.authority_cache.specs.Ends.{Covers}
use Rattle.authority_cache.specs.Sites.{nothing_known, with_flight}
use Rattle.authority_cache.specs.Kept.{AreNamed, said_entries, said_entry}
use Rattle.authority_cache.proofs.SweepLaws.{covers_added, named_added}
use Rattle.authority_cache.proofs.begin.add.Goals as goal

pub returns-in-Ok-clause-ok : goal.returns-in-Ok-clause-ok
returns-in-Ok-clause-ok c =
    let none = subst (λ text. get_by_text c.args.sites.now text ≡ None) (sym (c.in_ok-name.ensures.ok ∙ c.text.ensures.value)) c.requires in
    ap said_entries (c.in-Ok.ensures.entries ∙ insert_entry-new string_eq c.args.sites.now c.in_ok-name.name _ none)
    ∙ (map-append said_entry c.args.sites.now.entries _ ∙ ap (λ text. said_entries c.args.sites.now.entries ++ (text, with_flight c.args.flight nothing_known) ∷ []) (c.in_ok-name.ensures.ok ∙ c.text.ensures.value))

pub returns-in-Ok-clause-covered : goal.returns-in-Ok-clause-covered
returns-in-Ok-clause-covered c = λ kept covered.
    let es = c.args.sites.now.entries in
    let none = subst (λ text. get_by_text c.args.sites.now text ≡ None) (sym (c.in_ok-name.ensures.ok ∙ c.text.ensures.value)) c.requires in
    let added = c.in-Ok.ensures.entries ∙ insert_entry-new string_eq c.args.sites.now c.in_ok-name.name _ none in
    subst (λ (es : List (String Global × Site)). Covers kept es) (sym added) (covers_added es _ kept refl covered)

pub returns-in-Ok-clause-named : goal.returns-in-Ok-clause-named
returns-in-Ok-clause-named c = λ named.
    let es = c.args.sites.now.entries in
    let none = subst (λ text. get_by_text c.args.sites.now text ≡ None) (sym (c.in_ok-name.ensures.ok ∙ c.text.ensures.value)) c.requires in
    let added = c.in-Ok.ensures.entries ∙ insert_entry-new string_eq c.args.sites.now c.in_ok-name.name _ none in
    subst (λ (es : List (String Global × Site)). AreNamed es) (sym added)
    (named_added es _ (c.in_ok-copy.ensures ∙ sym (c.in_ok-name.ensures.ok ∙ c.text.ensures.value)) named)
