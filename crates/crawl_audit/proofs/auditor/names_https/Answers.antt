-- The words of the line are what `split` gives.
use Rattle.std.proofs.Common.{rules}
use Rattle.std.proofs.lemmas.Iterator.Search.{any_from_yields_List}
use Rattle.std.proofs.lemmas.Iterator.Splits.{YieldsList-from_slice_split}
use Rattle.path_normal.specs.PageText.{is_https}
use Rattle.line_text.specs.Words.{is_space}
use Rattle.crawl_audit.proofs.auditor.names_https.Goals as goal

pub returns : goal.returns
returns c =
    any_from_yields_List is_https _ _ _ c.any.ensures.ran
    (YieldsList-from_slice_split _ is_space c.args.line.now c.split.ensures.rest c.split.ensures.done c.split.ensures.closure (λ x b q k. search rules)) (λ x b q k. search rules)
