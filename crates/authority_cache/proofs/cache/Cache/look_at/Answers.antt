-- The entry at the index is what is known.
use Rattle.std.proofs.Common.{ℕ, List, Option, sym, ap, ◌∙◌, subst}
use Rattle.std.specs.Prelude.{unwrap_or}
use Rattle.std.specs.Option.{option_map}
use Rattle.authority_cache.specs.Calls.{LooksAt, state_at}
use Rattle.authority_cache.specs.declared.look.Look.TheVariants.{Unknown}
use Rattle.authority_cache.specs.Kept.{known_in}
use Rattle.authority_cache.specs.Sites.{Known, State, nothing_known}
use Rattle.authority_cache.proofs.FoundLaws.{not_at, said_at}
use Rattle.authority_cache.proofs.cache.Cache.look_at.Goals as goal

pub returns-in-Some-get_index : goal.returns-in-Some-get_index
returns-in-Some-get_index c =
    subst (λ (k : Known). LooksAt (state_at k c.args.found) c.args.moment c.look.result) c.self.view_is
    (subst (λ (o : Option ℕ). LooksAt (state_at (known_in c.self.inside.limit c.self.inside.sites.entries) (record { index = o; is_fetching = c.args.found.is_fetching })) c.args.moment c.look.result) (sym c.in-Some.is)
    (subst (λ (e : Option (List ℕ × State)). LooksAt (unwrap_or (option_map (λ e. e.1) e) nothing_known) c.args.moment c.look.result)
    (sym (said_at c.self.inside.sites.entries c.in-Some.index (c.in-Some-get_index._authority.now, c.in-Some-get_index.site.now) (sym c.in-Some-get_index.ensures.entry))) c.look.ensures))

pub returns-in-None : goal.returns-in-None
returns-in-None c =
    subst (λ (k : Known). LooksAt (state_at k c.args.found) c.args.moment Unknown) c.self.view_is
    (ap (λ (o : Option ℕ). (state_at (known_in c.self.inside.limit c.self.inside.sites.entries) (record { index = o; is_fetching = c.args.found.is_fetching })).standing) c.in-Some.is
    ∙ ap (λ (e : Option (List ℕ × State)). (unwrap_or (option_map (λ e. e.1) e) nothing_known).standing) (not_at c.self.inside.sites.entries c.in-Some.index (sym c.in-None.ensures.entry)))
