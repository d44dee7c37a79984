-- What a check read and wrote, by its result, and what was read of a robots text.
-- Used by `check` and `lines`.
use Rattle.std.specs.Prelude.{◌≡◌, ◌⊎◌, ◌+◌, ℕ, List, [], ◌++◌, Option, Result, Ok, Err}
use Rattle.std.specs.Io.KnownBytes.{Consumes, Appends, IsAtEnd}
use Rattle.counted_io.specs.Device.{AppendsPrefix, one_more}
use Rattle.counted_io.specs.Reads.{ReadsFront, ReadsTo}
use Rattle.counted_io.specs.declared.next_line.ReadLineFault.{ReadLineFault}
use Rattle.counted_io.specs.declared.next_line.ReadLineFault.TheVariants as causes
use Rattle.robots_text.specs.Lines.{KeepsSame, kept, text_limit}
use Rattle.robots_text.specs.Records.{Numbered, numbered_records}
use Rattle.robots_check.specs.Input.{AreUrlLines, HasUrls}
use Rattle.robots_check.specs.Outcomes.{outcome_of}
use Rattle.robots_check.specs.declared.fault.TextFault.{TextFault}
use Rattle.robots_check.specs.declared.fault.TextFault.TheVariants.{Read, Write, NoMemory}
use Rattle.robots_check.specs.Told.{Told, AreTold, answers_text}
use Rattle.robots_check.specs.declared.detail.Detail.{Detail}
use Rattle.robots_check.specs.declared.check_outcome.CheckOutcome.{CheckOutcome}

-- the body of a robots text was read: all, but at most one octet more than the limit
pub record ReadsBody (old new : Option (List ℕ)) (body : List ℕ) : Type 0 where
  pub reads : ReadsTo (text_limit + 1) old new body
  pub same : KeepsSame old body

-- this text was kept of the input
pub record ReadsText (old new : Option (List ℕ)) (text : List ℕ) : Type 0 where
  pub body : List ℕ
  pub reads : ReadsBody old new body
  pub text_is : text ≡ kept body

-- the answers to all URLs were written, with this outcome
pub record Answers (detail : Detail) (lines : List Numbered) (word : List ℕ) (urls : List (List ℕ))
    (old new : Option (List ℕ)) (outcome : CheckOutcome) : Type 0 where
  pub answers : List Told
  pub are : AreTold detail lines word urls answers
  pub wrote : Appends old new (answers_text urls answers)
  pub come_to : outcome ≡ outcome_of answers

-- at most a prefix of the answers was written
pub record AnswersFront (detail : Detail) (lines : List Numbered) (word : List ℕ) (urls : List (List ℕ))
    (old new : Option (List ℕ)) : Type 0 where
  pub first : List (List ℕ)
  pub later : List (List ℕ)
  pub split : urls ≡ first ++ later
  pub answers : List Told
  pub are : AreTold detail lines word first answers
  pub wrote : AppendsPrefix old new (answers_text first answers)

-- what was written of a text, by the result
abbrev pub Tells : Detail → List ℕ → List ℕ → List (List ℕ) → (written new : Option (List ℕ))
    → Result CheckOutcome TextFault → Type 0
Tells detail text word urls written new (Ok outcome) =
    Answers detail (numbered_records text) word urls written new outcome
Tells detail text word urls written new (Err Read) = ⊥
Tells detail text word urls written new (Err Write) = AnswersFront detail (numbered_records text) word urls written new
Tells detail text word urls written new (Err NoMemory) =
    AnswersFront detail (numbered_records text) word urls written new

-- no more was read than a robots text needs, and nothing was written
abbrev pub StopsAtInput : (input left written new : Option (List ℕ)) → Type 0
StopsAtInput input left written new = ReadsFront (text_limit + 1) input left × Appends written new []

-- the text was read, and its answers were written
abbrev pub ReadsAndTells : Detail → (input left : Option (List ℕ)) → List ℕ → List (List ℕ)
    → (written new : Option (List ℕ)) → Result CheckOutcome TextFault → Type 0
ReadsAndTells detail input left word urls written new result =
    (text : List ℕ) × ReadsText input left text × Tells detail text word urls written new result

-- all was read and written; or a read failed or memory was refused before any writing; or a write failed or memory
-- was refused later, after at most a prefix of the output
abbrev pub Checks : Detail → (input left : Option (List ℕ)) → List ℕ → List (List ℕ) → (written new : Option (List ℕ))
    → Result CheckOutcome TextFault → Type 0
Checks detail input left word urls written new (Ok outcome) =
    ReadsAndTells detail input left word urls written new (Ok outcome)
Checks detail input left word urls written new (Err Read) = StopsAtInput input left written new
Checks detail input left word urls written new (Err Write) =
    ReadsAndTells detail input left word urls written new (Err Write)
Checks detail input left word urls written new (Err NoMemory) =
    StopsAtInput input left written new ⊎ ReadsAndTells detail input left word urls written new (Err NoMemory)

-- the whole input was read
pub record ReadsWhole (old new : Option (List ℕ)) (input : List ℕ) : Type 0 where
  pub consumed : Consumes old new input
  pub all : IsAtEnd new

-- at most a prefix of the input was read, and nothing was written
abbrev pub StopsWithin : (input left written new : Option (List ℕ)) → Type 0
StopsWithin input left written new = ((front : List ℕ) × Consumes input left front) × Appends written new []

-- the whole input was read, and the answers for its text and URLs were written
pub record ReadsAndTellsWhole (detail : Detail) (input left : Option (List ℕ)) (word : List ℕ)
    (written new : Option (List ℕ)) (result : Result CheckOutcome TextFault) : Type 0 where
  pub whole : List ℕ
  pub reads : ReadsWhole input left whole
  pub text : List ℕ
  pub urls : List (List ℕ)
  pub has : HasUrls whole text urls
  pub tells : Tells detail text word urls written new result

-- like `Checks`, with the URLs in the input after the text
abbrev pub ChecksInput : Detail → (input left : Option (List ℕ)) → List ℕ → (written new : Option (List ℕ))
    → Result CheckOutcome TextFault → Type 0
ChecksInput detail input left word written new (Ok outcome) =
    ReadsAndTellsWhole detail input left word written new (Ok outcome)
ChecksInput detail input left word written new (Err Read) = StopsWithin input left written new
ChecksInput detail input left word written new (Err Write) =
    ReadsAndTellsWhole detail input left word written new (Err Write)
ChecksInput detail input left word written new (Err NoMemory) =
    StopsWithin input left written new ⊎ ReadsAndTellsWhole detail input left word written new (Err NoMemory)

-- the whole input was read, and the answers for a body's text and the input's URLs were written
pub record ReadsLinesAndTells (detail : Detail) (body : List ℕ) (input left : Option (List ℕ)) (word : List ℕ)
    (written new : Option (List ℕ)) (result : Result CheckOutcome TextFault) : Type 0 where
  pub lines : List ℕ
  pub reads : ReadsWhole input left lines
  pub urls : List (List ℕ)
  pub urls_are : AreUrlLines lines urls
  pub tells : Tells detail (kept body) word urls written new result

-- like `Checks`, with only URLs in the input, and the text from a body
abbrev pub ChecksLines : Detail → (body : List ℕ) → (input left : Option (List ℕ)) → List ℕ
    → (written new : Option (List ℕ)) → Result CheckOutcome TextFault → Type 0
ChecksLines detail body input left word written new (Ok outcome) =
    ReadsLinesAndTells detail body input left word written new (Ok outcome)
ChecksLines detail body input left word written new (Err Read) = StopsWithin input left written new
ChecksLines detail body input left word written new (Err Write) =
    ReadsLinesAndTells detail body input left word written new (Err Write)
ChecksLines detail body input left word written new (Err NoMemory) =
    StopsWithin input left written new ⊎ ReadsLinesAndTells detail body input left word written new (Err NoMemory)

-- the fault of a failed read
abbrev pub text_fault : ReadLineFault → TextFault
text_fault causes.Read = Read
text_fault causes.NoMemory = NoMemory

-- the fault is a read's
abbrev pub IsReadFault : TextFault → Type 0
IsReadFault fault = (fault ≡ Read) ⊎ (fault ≡ NoMemory)

-- the fault is a writer's
abbrev pub IsTellFault : TextFault → Type 0
IsTellFault fault = (fault ≡ Write) ⊎ (fault ≡ NoMemory)

-- the reader's failures: one more exactly if a read failed
abbrev pub failures_after_reads : {T : Type 0} → ℕ → Result T TextFault → ℕ
failures_after_reads failures (Ok _) = failures
failures_after_reads failures (Err Read) = one_more failures
failures_after_reads failures (Err Write) = failures
failures_after_reads failures (Err NoMemory) = failures

-- the writer's failures: one more exactly if a write failed
abbrev pub failures_after_writes : {T : Type 0} → ℕ → Result T TextFault → ℕ
failures_after_writes failures (Ok _) = failures
failures_after_writes failures (Err Read) = failures
failures_after_writes failures (Err Write) = one_more failures
failures_after_writes failures (Err NoMemory) = failures
