-- The place that a search finds is that of the first space.
use Rattle.std.proofs.Common.{◌≡◌, subst}
use Rattle.std.specs.List.{position}
use Rattle.memchr.specs.Find.{is_byte}
use Rattle.line_text.specs.Words.{is_space}
use Rattle.line_text.proofs.WordSplits.{found_place}
use Rattle.line_text.proofs.words.space_place.Goals as goal

pub returns-clause-place : goal.returns-clause-place
returns-clause-place c =
    subst (λ octets. c.memchr.result ≡ position is_space octets) c.as_bytes.ensures.value (found_place (is_byte 32) c.as_bytes.result.now c.memchr.result c.memchr.ensures)
