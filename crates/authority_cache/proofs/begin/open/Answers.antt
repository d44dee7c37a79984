-- A known entry is written, a new one added.
use Rattle.std.proofs.Common.{◌≡◌, ℕ, None, Option, Some, IfNone, IfSome, is_some, sym, ap, subst, ◌∙◌}
use Rattle.std.specs.Prelude.{slice_get}
use Rattle.std.specs.Map.{lookup}
use Rattle.std.specs.Str.{bytes_eq}
use Rattle.std.proofs.lemmas.Bool.{true≢false}
use Rattle.std.proofs.lemmas.Result.{on_ok_weaker}
use Rattle.indexmap.specs.IndexMap.{set_value_at}
use Rattle.authority_cache.specs.Kept.{known_in, said_entries}
use Rattle.authority_cache.specs.Sites.{State, site_of}
use Rattle.authority_cache.proofs.FoundLaws.{found_at, no_index, none_said, others_at, within, written_at}
use Rattle.authority_cache.proofs.SiteLaws.{begun-known, begun-new, flying-known, is_named, known-new, known-written, named-written}
use Rattle.authority_cache.proofs.SweepLaws.{apart_from, covers_written}
use Rattle.authority_cache.proofs.begin.open.Goals as goal

pub unreachable-requires : goal.unreachable-requires
unreachable-requires c =
    let es = c.args.sites.now.entries in
    let a = c.args.authority.now in
    let at = subst (λ (o : Option ℕ). IfSome o (λ i. slice_get (said_entries es) i ≡ Some (a, site_of (known_in 0 es) a))) c.in-Some.is c.requires.found.some in
    let low = within es c.in-Some.index (a, site_of (known_in 0 es) a) at in
    absurd (true≢false (sym (c.get_index_mut.ensures.found.1 low) ∙ ap is_some c.in-None.is))

pub add-requires : goal.add-requires
add-requires c =
    let es = c.args.sites.now.entries in
    let a = c.args.authority.now in
    none_said a es (subst (λ (o : Option ℕ). IfNone o (lookup (bytes_eq a) (said_entries es) ≡ None)) (no_index c.args.found.index c.in_default.not-Some) c.requires.found.none)

pub returns-in_default-clause-opened : goal.returns-in_default-clause-opened
returns-in_default-clause-opened c =
    let es = c.args.sites.now.entries in
    let a = c.args.authority.now in
    let none = none_said a es (subst (λ (o : Option ℕ). IfNone o (lookup (bytes_eq a) (said_entries es) ≡ None)) (no_index c.args.found.index c.in_default.not-Some) c.requires.found.none) in
    on_ok_weaker c.add.result (λ added limit. begun-new limit a c.args.flight es c.add.new.sites.entries none added) c.add.ensures.ok

pub returns-in_default-clause-known : goal.returns-in_default-clause-known
returns-in_default-clause-known c =
    known-new c.args.authority.now c.args.flight c.args.sites.now.entries c.add.new.sites.entries c.add.result c.requires.all c.add.ensures.named c.add.ensures.ok c.add.ensures.same

pub returns-clause-opened : goal.returns-clause-opened
returns-clause-opened c = λ limit.
    let es = c.args.sites.now.entries in
    let a = c.args.authority.now in
    let v = c.in-Some-get_index_mut.site.now in
    let w = c.begin.new.self in
    let apart = apart_from es c.in-Some-get_index_mut.ensures.unique in
    let at = subst (λ (o : Option ℕ). IfSome o (λ i. slice_get (said_entries es) i ≡ Some (a, site_of (known_in 0 es) a))) c.in-Some.is c.requires.found.some in
    let found = found_at a es c.in-Some.index (site_of (known_in 0 es) a) v apart at (sym c.in-Some-get_index_mut.ensures.value) in
    let wrote = written_at a es c.in-Some.index (site_of (known_in 0 es) a) w apart at in
    begun-known limit a c.args.flight es (set_value_at es c.in-Some.index w) v w found wrote (λ b. ap (lookup (is_named b)) wrote ∙ others_at a b es v w found) c.begin.ensures.begun

pub returns-clause-known : goal.returns-clause-known
returns-clause-known c =
    let es = c.args.sites.now.entries in
    let a = c.args.authority.now in
    let v = c.in-Some-get_index_mut.site.now in
    let w = c.begin.new.self in
    let apart = apart_from es c.in-Some-get_index_mut.ensures.unique in
    let at = subst (λ (o : Option ℕ). IfSome o (λ i. slice_get (said_entries es) i ≡ Some (a, site_of (known_in 0 es) a))) c.in-Some.is c.requires.found.some in
    let wrote = written_at a es c.in-Some.index (site_of (known_in 0 es) a) w apart at in
    known-written a es (set_value_at es c.in-Some.index w) w c.requires.all wrote (flying-known c.args.flight v w c.begin.ensures.begun)
    (named-written es c.in-Some.index v w (sym c.in-Some-get_index_mut.ensures.value) c.begin.ensures.name c.requires.all.named)

pub returns-clause-covered : goal.returns-clause-covered
returns-clause-covered c = λ kept covered.
    let es = c.args.sites.now.entries in
    let a = c.args.authority.now in
    let v = c.in-Some-get_index_mut.site.now in
    let at = subst (λ (o : Option ℕ). IfSome o (λ i. slice_get (said_entries es) i ≡ Some (a, site_of (known_in 0 es) a))) c.in-Some.is c.requires.found.some in
    let low = within es c.in-Some.index (a, site_of (known_in 0 es) a) at in
    covers_written es c.in-Some.index v c.begin.new.self kept low (sym c.in-Some-get_index_mut.ensures.value) (ap (λ (s : State). s.standing) c.begin.ensures.begun) covered
