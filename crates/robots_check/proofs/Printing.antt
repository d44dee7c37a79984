-- The lines of a body that was read are those of the input.
-- Used by `lines`, and by callers of `lines_of`.
use Rattle.std.proofs.Common.{◌≡◌, ◌+◌, ℕ, List, Option, subst, refl}
use Rattle.std.specs.Prelude.{Result, Ok, Err}
use Rattle.counted_io.specs.Reads.{ReadsFront}
use Rattle.robots_text.specs.Lines.{text_limit}
use Rattle.robots_check.specs.Checks.{ReadsBody, failures_after_reads}
use Rattle.robots_check.specs.Prints.{Prints, WritesLines}
use Rattle.robots_check.specs.declared.fault.TextFault.{TextFault}
use Rattle.robots_check.specs.declared.fault.TextFault.TheVariants.{Read, Write, NoMemory}

pub as_front : (a b : Option (List ℕ)) (body : List ℕ) → ReadsBody a b body → ReadsFront (text_limit + 1) a b
as_front a b body body_is = record { front = body; consumed = body_is.reads.consumed; fits = body_is.reads.fits }

printed : (a b : Option (List ℕ)) (body : List ℕ) (written new : Option (List ℕ)) (result : Result (Unit {0}) TextFault) →
    ReadsBody a b body → WritesLines body written new result → Prints a b written new result
printed a b body written new (Ok _) reads lines = (body, reads, lines)
printed a b body written new (Err Read) reads lines = absurd lines
printed a b body written new (Err Write) reads lines = (body, reads, lines)
printed a b body written new (Err NoMemory) reads lines = (as_front a b body reads, lines)

pub prints_of : (a b : Option (List ℕ)) (body slice : List ℕ) (written new : Option (List ℕ)) (result : Result (Unit {0}) TextFault) →
    ReadsBody a b body → slice ≡ body → WritesLines slice written new result → Prints a b written new result
prints_of a b body slice written new result reads same lines =
    printed a b body written new result reads (subst (λ (l : List ℕ). WritesLines l written new result) same lines)

pub reads_none : (failures : ℕ) (body : List ℕ) (written new : Option (List ℕ)) (result : Result (Unit {0}) TextFault) →
    WritesLines body written new result → failures_after_reads failures result ≡ failures
reads_none failures body written new (Ok _) lines = refl
reads_none failures body written new (Err Read) lines = absurd lines
reads_none failures body written new (Err Write) lines = refl
reads_none failures body written new (Err NoMemory) lines = refl
