-- The others stay covered, and so does the one moved to the index.
use Rattle.authority_cache.proofs.EndLaws.{covers_kept}
use Rattle.authority_cache.proofs.EntryLaws.{entry-at}
use Rattle.authority_cache.proofs.SweepLaws.{but_removed}
use Rattle.authority_cache.proofs.sweep.remove.Goals as goal

pub returns-clause-covered : goal.returns-clause-covered
returns-clause-covered c =
    let es = c.args.sites.now.entries in
    let e = entry-at es c.args.index c.requires.within in
    covers_kept c.args.index c.take_site.new.sites.entries c.args.ends.now c.keep_end.new.ends
    (but_removed es c.take_site.new.sites.entries c.args.index e.0 c.args.ends.now c.requires.within (c.take_site.ensures e.0 e.1).0 c.requires.others) c.keep_end.ensures

pub returns-clause-one : goal.returns-clause-one
returns-clause-one c = record { many = c.keep_end.ensures.many; room = c.keep_end.ensures.room }
