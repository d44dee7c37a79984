-- One more site was added.
use Rattle.std.proofs.Common.{◌++◌, ◌∷◌, [], List, ℕ, ap, get_or, map, sym, take, ◌∙◌}
use Rattle.std.proofs.lemmas.List.{map-append, take_more}
use Rattle.authority_cache.specs.declared.turn.Turn.{Turn}
use Rattle.crawl_audit.proofs.recovering.sites_of.Goals as goal

abbrev site_of : Turn → List ℕ
site_of t = t.authority

pub loop-turn-preserved : goal.loop-turn-preserved
loop-turn-preserved c =
    let ts = c.args.turns.now in
    let i = c.loop-turn.turn-index in
    let d = c.turn-item.result in
    c.in_ok-push.ensures.items ∙ ap (λ sites. sites ++ c.in_ok-copy.field-0 ∷ []) c.loop-turn.invariant
    ∙ ap (λ (a : List ℕ). map site_of (take i ts) ++ a ∷ []) (c.in_ok-copy.ensures ∙ ap site_of c.turn-item.is)
    ∙ sym (ap (map site_of) (take_more ts i d c.loop-turn-test.true) ∙ map-append site_of (take i ts) (get_or ts i d ∷ []))
