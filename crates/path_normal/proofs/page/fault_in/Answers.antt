-- A URL that passed the tests is valid, of a scheme that is read, without user, within the limits.
use Rattle.std.proofs.Common.{◌≡◌, rules, length, ap, arith, true}
use Rattle.std.proofs.lemmas.Grind.{common_steps}
use Rattle.path_normal.specs.Schemes.{reads}
use Rattle.path_normal.proofs.PageLemmas.{scheme_read}
use Rattle.path_normal.proofs.page.fault_in.Goals as goal

pub returns : goal.returns
returns c =
    let page = ap length c.page_in.ensures.value in
    let is_read : reads c.args.schemes c.args.url.now.scheme ≡ true = search rules in
    record {
      parts = record {
        valid = c.authority_len.ensures.valid;
        scheme = scheme_read c.args.schemes c.args.url.now.scheme is_read;
        username = grind (arith, common_steps);
        password = grind (arith, common_steps);
      };
      is_read = is_read;
      limit = omega arith;
      authority_limit = omega (arith, c.authority_len.ensures.value);
    }
