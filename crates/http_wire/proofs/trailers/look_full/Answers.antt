-- The text has all octets that trailers may have, so an unfinished section is too long.
use Rattle.std.proofs.Common.{arith, inr, ◌++◌, drop, take, length-append, length-drop}
use Rattle.std.proofs.lemmas.List.{length-take}
use Rattle.http_wire.proofs.TrailerPrefixes.{prefix_whole, prefix_bad}
use Rattle.http_wire.proofs.trailers.look_full.Goals as goal

pub read_section-requires : goal.read_section-requires
read_section-requires c = omega (arith, length-take 65536 c.args.text.now)

pub returns-in-Whole : goal.returns-in-Whole
returns-in-Whole c = λ last.
    let text = c.args.text.now in
    let (fits, whole) = c.in-Whole.ensures in
    let rest = drop c.in-Whole.len (take 65536 text) in (
      rest ++ drop 65536 text,
      prefix_whole 65536 text rest whole,
      omega (arith, fits, c.requires, length-append rest (drop 65536 text), length-drop 65536 text, length-drop c.in-Whole.len (take 65536 text), length-take 65536 text),
    )

pub returns-in-Open : goal.returns-in-Open
returns-in-Open c = λ last.
    inr (prefix_bad c.args.text.now c.read_section.result c.requires c.read_section.ensures c.in-Open.is)
