-- The rest of the domain decides for all of it.
use Rattle.std.proofs.Common.{◌≡◌, true, drop}
use Rattle.path_normal.specs.PlainUrl.{is_plain_domain}
use Rattle.path_normal.proofs.plain_host.is_plain_domain.Given as goal

abbrev pub invariant-loop-octet : goal.invariant-loop-octet
invariant-loop-octet l = is_plain_domain l.begins (drop l.octet-index l.host) ≡ is_plain_domain true l.host
