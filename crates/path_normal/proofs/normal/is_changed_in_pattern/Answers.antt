-- The table is compared with the definition at each octet.
use Rattle.std.proofs.Common.{◌==◌, get_or, refl, arith}
use Rattle.std.proofs.lemmas.Bool.{agree_below_at}
use Rattle.url.specs.Ascii.{percent_sign}
use Rattle.path_normal.specs.declared.normal.Role.TheVariants.{Pattern}
use Rattle.path_normal.specs.declared.normal.TheConstants.{KEPT_IN_PATTERNS}
use Rattle.path_normal.specs.Normal.{is_changed}
use Rattle.path_normal.proofs.normal.is_changed_in_pattern.Goals as goal

pub returns : goal.returns
returns c = agree_below_at (λ octet. get_or KEPT_IN_PATTERNS octet 0 == percent_sign) (is_changed Pattern) 256 c.args.octet refl (omega arith)
