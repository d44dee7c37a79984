-- The parts that were looked at make a plain URL.
use Rattle.std.proofs.Common.{◌∙◌, sym, arith}
use Rattle.path_normal.proofs.PlainLemmas.{plain_at}
use Rattle.path_normal.proofs.plain_url.plain_host_end.Goals as goal

pub returns-then-is_plain_path : goal.returns-then-is_plain_path
returns-then-is_plain_path c =
    plain_at c.args.text.now c.in_ok-rest.rest.now c.in_ok-len.len (sym c.as_bytes.ensures.value ∙ c.in_ok-rest.ensures) (sym c.in_ok-len.ensures.place)
    (omega (arith, c.if-len-le-MAX_AUTHORITY.true)) (c.is_plain_authority.ensures c.if-is_plain_authority.true) (sym c.is_plain_path.ensures ∙ c.if-is_plain_path.true)
