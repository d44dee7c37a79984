-- What a session took, did and wrote, by its result.
-- Cited by `run_session`.
use Rattle.std.specs.Prelude.{◌≡◌, ◌⊎◌, ℕ, ◌+◌, ◌≤◌, Bool, true, false, List, [], ◌++◌, length, Option, Result, Ok, Err}
use Rattle.std.specs.Io.KnownBytes.{Appends}
use Rattle.counted_io.specs.Device.{one_more, AppendsPrefix}
use Rattle.counted_io.specs.Limits.{output_buffer}
use Rattle.counted_io.specs.Lines.{FindsTooLong}
use Rattle.command_lines.specs.declared.fault.LineFault.TheVariants as faults
use Rattle.command_lines.specs.FaultText.{line_fault_text}
use Rattle.command_lines.specs.Answers.{AnswersLines}
use Rattle.command_lines.specs.Input.{TakesLines, FindsNoMore, FindsLine, FindsPart}
use Rattle.command_lines.specs.declared.session_fault.SessionFault.{SessionFault}
use Rattle.command_lines.specs.declared.session_fault.SessionFault.TheVariants.{LongLine, Lines, Read, Write, NoMemory}

-- what a session writes after the replies
abbrev pub last_words : Result (Unit {0}) SessionFault → List ℕ
last_words (Ok _) = []
last_words (Err LongLine) = line_fault_text faults.Long
last_words (Err Lines) = line_fault_text faults.Lines
last_words (Err Read) = []
last_words (Err Write) = []
last_words (Err NoMemory) = []

-- what follows the lines taken, by what was met
abbrev pub Meets : (limit most count : ℕ) (ended : Bool) (behind : Option (List ℕ)) (unread : List ℕ)
    (left : Option (List ℕ)) → Result (Unit {0}) SessionFault → Type 0
Meets limit most count ended behind unread left (Ok _) = FindsNoMore behind unread left (ended ≡ true)
Meets limit most count ended behind unread left (Err LongLine) = (ended ≡ false) × FindsTooLong limit behind unread left
Meets limit most count ended behind unread left (Err Lines) =
    (ended ≡ false) × (count ≡ most) × FindsLine limit behind unread left
Meets limit most count ended behind unread left (Err Read) = (ended ≡ false) × FindsPart behind unread left
Meets limit most count ended behind unread left (Err NoMemory) = (ended ≡ false) × FindsPart behind unread left
Meets limit most count ended behind unread left (Err Write) = FindsPart behind unread left

-- a session's result is what it met, unless a write failed by then
abbrev pub ResultsIn : Result (Unit {0}) SessionFault → Result (Unit {0}) SessionFault → Type 0
ResultsIn met result = (result ≡ met) ⊎ (result ≡ Err Write)

-- all octets were written, or after a write fault a part
abbrev pub Writes : Option (List ℕ) → Option (List ℕ) → List ℕ → Result (Unit {0}) SessionFault → Type 0
Writes old new octets (Ok _) = Appends old new octets
Writes old new octets (Err LongLine) = Appends old new octets
Writes old new octets (Err Lines) = Appends old new octets
Writes old new octets (Err Read) = Appends old new octets
Writes old new octets (Err NoMemory) = Appends old new octets
Writes old new octets (Err Write) = AppendsPrefix old new octets

-- of the lines taken, all but at most one had been answered, and the answers were written except for at most a buffer
pub record KeepsUp {S : Type 0} (answers : S → List ℕ → List ℕ → Bool → S → Type 0) (old : S) (lines : List (List ℕ))
    (text : List ℕ) (written written_new : Option (List ℕ)) : Type 0 where
  pub front : List (List ℕ)
  pub late : List (List ℕ)
  pub replies : List ℕ
  pub rest : List ℕ
  pub ended : Bool
  pub state : S
  pub wrote : List ℕ
  pub lines_are : lines ≡ front ++ late
  pub few : length late ≤ 1
  pub text_is : text ≡ replies ++ rest
  pub answered : AnswersLines answers old front replies ended state
  pub appended : Appends written written_new wrote
  pub nearly : length replies ≤ length wrote + output_buffer

-- after a failed write no further line is taken: the session had kept up to the current one
abbrev pub StopsAtWrite : Result (Unit {0}) SessionFault → Type 0 → Type 0
StopsAtWrite (Err Write) kept_up = kept_up
StopsAtWrite _ kept_up = Unit {0}

-- at most this many lines of the input were taken, each within the limit, and answered in turn; the replies and last
-- words were written
pub record Session {S : Type 0} (answers : S → List ℕ → List ℕ → Bool → S → Type 0) (limit most : ℕ) (old new : S)
    (input left written written_new : Option (List ℕ)) (result : Result (Unit {0}) SessionFault) : Type 0 where
  pub lines : List (List ℕ)
  pub text : List ℕ
  pub ended : Bool
  pub met : Result (Unit {0}) SessionFault
  pub behind : Option (List ℕ)
  pub unread : List ℕ
  pub took : TakesLines limit input behind lines
  pub within : length lines ≤ most
  pub answered : AnswersLines answers old lines text ended new
  pub stopped : Meets limit most (length lines) ended behind unread left met
  pub results : ResultsIn met result
  pub wrote : Writes written written_new (text ++ last_words met) result
  pub stops : StopsAtWrite result (KeepsUp answers old lines text written written_new)

-- the source's failures: one more exactly if a read failed
abbrev pub failures_after_reads : {T : Type 0} → ℕ → Result T SessionFault → ℕ
failures_after_reads failures (Ok _) = failures
failures_after_reads failures (Err LongLine) = failures
failures_after_reads failures (Err Lines) = failures
failures_after_reads failures (Err Read) = one_more failures
failures_after_reads failures (Err Write) = failures
failures_after_reads failures (Err NoMemory) = failures

-- the sink's failures: one more exactly if a write failed
abbrev pub failures_after_writes : {T : Type 0} → ℕ → Result T SessionFault → ℕ
failures_after_writes failures (Ok _) = failures
failures_after_writes failures (Err LongLine) = failures
failures_after_writes failures (Err Lines) = failures
failures_after_writes failures (Err Read) = failures
failures_after_writes failures (Err Write) = one_more failures
failures_after_writes failures (Err NoMemory) = failures
