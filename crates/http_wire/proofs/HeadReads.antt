-- What a fault of the heads tells of the input.
-- Used by `read_final`.
use Rattle.std.proofs.Common.{ℕ, List, [], ◌++◌, Option, sym, subst, inl, inr}
use Rattle.http_wire.specs.Finding.{Fails, Faults}
use Rattle.http_wire.specs.Parts.{Breaks}
use Rattle.http_wire.specs.Response.{Cause}
use Rattle.http_wire.specs.declared.fault.WireFault.{WireFault}
use Rattle.http_wire.proofs.SourceReads.{ahead, whole_now, whole_before}

pub fails_to_read : (left : Option (List ℕ)) (fault : WireFault) → Breaks Faults left [] fault → Fails left [] fault
fails_to_read left fault breaks = record {
  input = breaks.seen ++ ahead breaks.before;
  whole = whole_before left breaks.before [] breaks.seen (breaks.seen ++ ahead breaks.before) breaks.came (whole_now breaks.before breaks.seen);
  cause = λ limit.
      elim breaks.cause [
        | inl faults ↦ faults (ahead breaks.before) limit
        | inr stops ↦ elim stops [
          | inl device ↦ subst (λ f. Cause f (breaks.seen ++ ahead breaks.before) limit) (sym device) tt
          | inr memory ↦ subst (λ f. Cause f (breaks.seen ++ ahead breaks.before) limit) (sym memory) tt
        ]
      ];
}
