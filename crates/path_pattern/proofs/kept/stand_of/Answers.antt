-- The octets at its first place are those of the literal.
use Rattle.std.proofs.Common.{subst, sym}
use Rattle.path_pattern.specs.Kept.{IsRange}
use Rattle.path_pattern.proofs.KeptLemmas.{first_octets}
use Rattle.path_pattern.proofs.kept.stand_of.Goals as goal

pub returns : goal.returns
returns c =
    λ some. subst (λ its. IsRange c.args.path.now c.args.places.now its c.args.start c.args.end)
    (sym (first_octets c.args.path.now c.args.places.now c.args.literal.now c.args.start c.args.end c.requires.range some))
    c.requires.range
