-- A site's line, with the words for what closed it.
use Rattle.std.proofs.Common.{◌++◌, ◌∙◌, ap, codes, string_bytes}
use Rattle.fetchers.specs.CauseText.{words_text}
use Rattle.crawl_shift.proofs.closed_sites.ClosedSiteAsPieces.pieces.Goals as goal

pub returns : goal.returns
returns c =
    c.line_of.ensures
    ∙ ap (λ name. name ++ (codes " is closed: " ++ (words_text c.robots_words.result ++ codes "\n"))) c.as_str.ensures.value
    ∙ ap (λ words. string_bytes c.args.self.now.authority ++ (codes " is closed: " ++ (words ++ codes "\n"))) c.robots_words.ensures
