-- The entry that was taken is the one at the index.
use Rattle.std.proofs.Common.{◌≡◌, None, IfSome, string_bytes, ◌∙◌, subst}
use Rattle.std.specs.HashMap.{UpdatesBy}
use Rattle.std.specs.List.{swap_remove}
use Rattle.std.specs.String.{string_eq}
use Rattle.std.proofs.lemmas.Map.Text.{hash_map_updates_text}
use Rattle.authority_cache.proofs.sweep.take_site.Goals as goal

pub returns : goal.returns
returns c = λ e at.
    let old = c.args.sites.now in
    let new = c.swap_remove_index.new.self in
    let is = c.swap_remove_index.ensures.entry ∙ at in (
      subst (λ o. IfSome o (λ p. new.entries ≡ swap_remove old.entries c.args.index p)) is c.swap_remove_index.ensures.entries,
      hash_map_updates_text (string_bytes e.0) old new None (subst (λ o. IfSome o (λ p. UpdatesBy string_eq (string_eq p.0) old new None)) is c.swap_remove_index.ensures.updates),
    )
