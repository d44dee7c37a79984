-- Nothing was read.
use Rattle.std.proofs.Common.{refl}
use Rattle.crawl_audit.proofs.Auditing.{heard_start}
use Rattle.crawl_audit.proofs.Growing.{empty_is_base}
use Rattle.crawl_audit.proofs.auditor.Auditor.new.Goals as goal

pub returns-clause-heard : goal.returns-clause-heard
returns-clause-heard c = λ left. heard_start c.args.schemes _ left c.in_ok-new.field-0 refl c.in_ok-new.ensures refl refl refl c.new-3.ensures.tells c.new-3.ensures.any refl refl refl empty_is_base
