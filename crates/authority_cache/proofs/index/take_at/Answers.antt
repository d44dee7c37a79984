-- What was written is what was there.
use Rattle.std.proofs.Common.{ap, sym, ◌∙◌}
use Rattle.indexmap.specs.IndexMap.{set_value_at}
use Rattle.authority_cache.proofs.EntryLaws.{written-same}
use Rattle.authority_cache.proofs.index.take_at.Goals as goal

pub returns-in-Some : goal.returns-in-Some
returns-in-Some c =
    let es = c.args.sites.now.entries in
    ap (set_value_at es c.args.index) c.take_index.ensures ∙ written-same es c.args.index c.in-Some.site.now (sym c.in-Some.ensures.value)
