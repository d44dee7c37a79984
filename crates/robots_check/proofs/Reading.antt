-- The body of a robots text was read; what is kept of it has the same answers as the input.
-- Used by `read_body` and `check`.
use Rattle.std.proofs.Common.{◌≡◌, ◌+◌, inr, ℕ, List, Option}
use Rattle.std.specs.Prelude.{Result, Ok, Err}
use Rattle.counted_io.specs.Reads.{ReadsTo}
use Rattle.robots_text.specs.Lines.{kept, text_limit}
use Rattle.robots_text.proofs.CallerLemmas.{same_kept}
use Rattle.robots_check.specs.Checks.{Checks, ReadsBody, ReadsText, Tells}
use Rattle.robots_check.specs.declared.detail.Detail.{Detail}
use Rattle.robots_check.specs.declared.fault.TextFault.{TextFault}
use Rattle.robots_check.specs.declared.fault.TextFault.TheVariants.{Read, Write, NoMemory}
use Rattle.robots_check.specs.declared.check_outcome.CheckOutcome.{CheckOutcome}

pub body_read : (old new : Option (List ℕ)) (body : List ℕ) → ReadsTo (text_limit + 1) old new body → ReadsBody old new body
body_read old new body reads = record { reads = reads; same = same_kept old new body reads.consumed reads.all }

pub text_read : (old new : Option (List ℕ)) (body text : List ℕ) → ReadsBody old new body → text ≡ kept body → ReadsText old new text
text_read old new body text reads is = record { body = body; reads = reads; text_is = is }

pub checks_of : (detail : Detail) (input left : Option (List ℕ)) (word : List ℕ) (urls : List (List ℕ)) (written new : Option (List ℕ)) (text : List ℕ) (result : Result CheckOutcome TextFault) →
    ReadsText input left text → Tells detail text word urls written new result → Checks detail input left word urls written new result
checks_of detail input left word urls written new text (Ok outcome) reads tells = (text, reads, tells)
checks_of detail input left word urls written new text (Err Read) reads tells = absurd tells
checks_of detail input left word urls written new text (Err Write) reads tells = (text, reads, tells)
checks_of detail input left word urls written new text (Err NoMemory) reads tells = inr (text, reads, tells)
