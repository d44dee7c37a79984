-- An entry that is there is written.
use Rattle.std.proofs.Common.{ap, sym, ◌∙◌, refl, true≢false, string_bytes}
use Rattle.std.specs.Map.{lookup}
use Rattle.std.proofs.lemmas.Result.{on_err_weaker}
use Rattle.indexmap.specs.IndexMap.{set_value_at}
use Rattle.authority_cache.specs.Sites.{said_site}
use Rattle.authority_cache.proofs.EntryLaws.{entry-at, written-same}
use Rattle.authority_cache.proofs.FoundLaws.{found_at, others_at, said_at, written_at}
use Rattle.authority_cache.proofs.SiteLaws.{arrived-known, is_named, named-written}
use Rattle.authority_cache.proofs.SweepLaws.{apart_from, but_written}
use Rattle.authority_cache.proofs.arrive.close.Goals as goal

pub returns-in-Some-clause-reply : goal.returns-in-Some-clause-reply
returns-in-Some-clause-reply c = λ limit e at.
    let es = c.args.sites.now.entries in
    let a = e.0 in
    let v = c.in-Some.site.now in
    let w = c.arrive.new.self in
    let apart = apart_from es c.in-Some.ensures.unique in
    let found = found_at a es c.args.index e.1 v apart at (sym c.in-Some.ensures.value) in
    let wrote = written_at a es c.args.index e.1 w apart at in
    (arrived-known limit a c.args.turn c.args.answer es (set_value_at es c.args.index w) v w c.arrive.result
    c.requires.all found wrote (λ b. ap (lookup (is_named b)) wrote ∙ others_at a b es v w found) c.arrive.ensures.turn c.arrive.ensures.ok c.arrive.ensures.err
    (named-written es c.args.index v w (sym c.in-Some.ensures.value) c.arrive.ensures.name c.requires.all.named)).0

pub returns-in-Some-clause-known : goal.returns-in-Some-clause-known
returns-in-Some-clause-known c =
    let es = c.args.sites.now.entries in
    let e = entry-at es c.args.index c.requires.within in
    let a = string_bytes e.0.0 in
    let at = said_at es c.args.index e.0 e.1 in
    let v = c.in-Some.site.now in
    let w = c.arrive.new.self in
    let apart = apart_from es c.in-Some.ensures.unique in
    let found = found_at a es c.args.index (said_site e.0.1) v apart at (sym c.in-Some.ensures.value) in
    let wrote = written_at a es c.args.index (said_site e.0.1) w apart at in
    (arrived-known 0 a c.args.turn c.args.answer es (set_value_at es c.args.index w) v w c.arrive.result
    c.requires.all found wrote (λ b. ap (lookup (is_named b)) wrote ∙ others_at a b es v w found) c.arrive.ensures.turn c.arrive.ensures.ok c.arrive.ensures.err
    (named-written es c.args.index v w (sym c.in-Some.ensures.value) c.arrive.ensures.name c.requires.all.named)).1

pub returns-in-Some-clause-others : goal.returns-in-Some-clause-others
returns-in-Some-clause-others c = λ kept covered.
    let es = c.args.sites.now.entries in
    but_written es (set_value_at es c.args.index c.arrive.new.self) c.args.index c.arrive.new.self kept refl (λ j x other at. covered j x at)

pub returns-in-Some-clause-same : goal.returns-in-Some-clause-same
returns-in-Some-clause-same c =
    let es = c.args.sites.now.entries in
    on_err_weaker c.arrive.result (λ same. ap (set_value_at es c.args.index) same ∙ written-same es c.args.index c.in-Some.site.now (sym c.in-Some.ensures.value)) c.arrive.ensures.err

pub returns-in-None-clause-reply : goal.returns-in-None-clause-reply
returns-in-None-clause-reply c = absurd (true≢false (sym (c.in-None.ensures.found.1 c.requires.within)))
