-- The rest of the path decides for all of it.
use Rattle.std.proofs.Common.{◌≡◌, true, drop}
use Rattle.path_normal.specs.PlainUrl.{is_plain_path}
use Rattle.path_normal.proofs.plain_url.is_plain_path.Given as goal

abbrev pub invariant-loop-octet : goal.invariant-loop-octet
invariant-loop-octet l = is_plain_path l.begins (drop l.octet-index l.path) ≡ is_plain_path true l.path
