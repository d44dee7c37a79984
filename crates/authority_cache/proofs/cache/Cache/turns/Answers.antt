-- Each state has its turns listed once.
use Rattle.std.proofs.Common.{◌≡◌, ℕ, ◌++◌, List, Some, filter, length, take, String, Global, string_bytes, refl, sym, ap, subst, ◌∙◌, arith}
use Rattle.std.specs.Prelude.{slice_get}
use Rattle.std.proofs.lemmas.List.{length-map, take_all}
use Rattle.authority_cache.specs.declared.site.Site.{Site}
use Rattle.authority_cache.specs.declared.turn.Turn.{Turn}
use Rattle.authority_cache.specs.Kept.{said_entry}
use Rattle.authority_cache.specs.Lists.{is_turn_of, turns_in}
use Rattle.authority_cache.specs.Sites.{AreApart, Known, State, said_site}
use Rattle.authority_cache.proofs.FoundLaws.{said_at}
use Rattle.authority_cache.proofs.ListedLaws.{all_of, listed, listed-more, other_turns, own_turns}
use Rattle.authority_cache.proofs.SweepLaws.{apart_from}
use Rattle.authority_cache.proofs.cache.Cache.turns.Goals as goal

pub loop-index-preserved : goal.loop-index-preserved
loop-index-preserved c =
    let i = c.loop-index.index in
    let e : List ℕ × State = (c.in-Some.site.now.name, said_site c.in-Some.site.now) in
    let there : String Global × Site = (c.in-Some._name.now, c.in-Some.site.now) in
    let name : string_bytes c.in-Some._name.now ≡ e.0 = sym (c.self.invariant.known.named i there (sym c.in-Some.ensures.entry)) in
    let at : slice_get c.args.self.now.sites i ≡ Some e =
    subst (λ (k : Known). slice_get k.sites i ≡ Some e) c.self.view_is
    (said_at c.self.inside.sites.entries i there (sym c.in-Some.ensures.entry) ∙ ap (λ a. Some (a, e.1)) name) in
    c.in_ok-push_turn-in-Some.ensures
    ∙ (ap (λ (found : List Turn). found ++ turns_in e.0 e.1) c.loop-index.invariant ∙ sym (listed-more turns_in c.args.self.now.sites i e at))

pub returns : goal.returns
returns c = λ a.
    let es = c.self.inside.sites.entries in
    let sites = c.args.self.now.sites in
    let apart : AreApart sites = subst (λ (k : Known). AreApart k.sites) c.self.view_is (apart_from es c.len-index-end.ensures.unique) in
    let long : length sites ≡ length es = subst (λ (k : Known). length k.sites ≡ length es) c.self.view_is (length-map es said_entry) in
    let all : take c.loop-index.index sites ≡ sites = take_all c.loop-index.index sites (let len = c.len-index-end.ensures.len in let last = c.loop-index-test.false in omega (arith, long, len, last)) in
    ap (λ (found : List Turn). filter (is_turn_of a) found) (c.loop-index.invariant ∙ ap (all_of turns_in) all)
    ∙ listed turns_in is_turn_of own_turns other_turns (λ a. refl) a sites apart
