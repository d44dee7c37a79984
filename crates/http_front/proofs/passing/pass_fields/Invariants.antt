-- The fields so far, and then those of the rest.
use Rattle.std.proofs.Common.{◌≡◌, ◌++◌, length}
use Rattle.http_server.specs.Response.{fields_of}
use Rattle.http_wire.specs.Kept.{kept_pairs}
use Rattle.http_front.specs.Passing.{passed_fields}
use Rattle.http_front.proofs.passing.pass_fields.Given as goal

abbrev pub invariant-loop-rest : goal.invariant-loop-rest
invariant-loop-rest l = record {
  fields : fields_of l.response ++ passed_fields l.fn.schemes l.fn.form l.fn.url (kept_pairs l.rest)
      ≡ fields_of l.fn.response ++ passed_fields l.fn.schemes l.fn.form l.fn.url (kept_pairs l.fn.kept);
  status : l.response.status ≡ l.fn.response.status;
  body : l.response.body ≡ l.fn.response.body;
}

abbrev pub decreases-loop-rest : goal.decreases-loop-rest
decreases-loop-rest l = length l.rest
