-- The lines of a session that a reading of job lines answers.
-- Used by the proof of `read_job_lines`.
use Rattle.std.proofs.Common.{◌≡◌, ◌≢◌, inl, inr, ◌+◌, ℕ, Bool, true, false, List, [], ◌∷◌, ◌++◌, append_assoc, append-nil, length, length-append, Some, None, refl, sym, ap, ◌∙◌, subst, arith, rules}
use Rattle.std.specs.Prelude.{Option, Result, Ok, Err, IfErr, IfOk, ◌⊎◌}
use Rattle.std.proofs.lemmas.Option.{none-some}
use Rattle.path_normal.specs.Capacity.{IsRead}
use Rattle.path_normal.specs.declared.schemes.Schemes.{Schemes}
use Rattle.crawl_job.specs.declared.job.Job.{Job}
use Rattle.counted_io.specs.Lines.{IsDrained}
use Rattle.command_lines.specs.Answers.{AnswersLines}
use Rattle.command_lines.specs.Input.{TakesLines}
use Rattle.command_lines.specs.JobWords.{job_of}
use Rattle.command_lines.specs.Session.{Meets, ResultsIn, Session, failures_after_reads}
use Rattle.command_lines.specs.declared.fault.LineFault.{LineFault}
use Rattle.command_lines.specs.declared.fault.LineFault.TheVariants as faults
use Rattle.command_lines.specs.declared.session_fault.SessionFault.{SessionFault}
use Rattle.command_lines.specs.declared.session_fault.SessionFault.TheVariants.{LongLine, Lines, Write}
use Rattle.crawl_shift.specs.declared.job_lines.BadJobLine.{BadJobLine}
use Rattle.crawl_shift.specs.declared.job_lines.BadLines.{BadLines}
use Rattle.crawl_shift.specs.declared.job_lines.BadLines.TheVariants.{End, Skip}
use Rattle.crawl_shift.specs.declared.job_lines.JobLines.{JobLines}
use Rattle.crawl_shift.specs.declared.job_lines.JobLinesFault.{JobLinesFault}
use Rattle.crawl_shift.specs.declared.job_lines.JobLinesFault.TheVariants as lines_fault
use Rattle.crawl_shift.specs.declared.job_lines.Reading.{Reading}
use Rattle.crawl_shift.specs.JobLists.{AddsJob, MayFail, job_line_limit}
use Rattle.crawl_shift.specs.JobLines.{AreJobLines, AreSorted, EndsReading, FailsToReadLines, IsLastLine, IsLinesFault, IsToldOf, LeavesBadly, LeavesWell, MayKeep, MeetsFault, TakesLine, next_number}
use Rattle.job_line.specs.Limits.{max_jobs}

-- each line added its job, or was kept with its fault
pub record Kept (schemes : Schemes) (bad_lines : BadLines) (old new : Reading) (lines : List (List ℕ)) : Type 0 where
  pub own : List Job
  pub bad : List BadJobLine
  pub jobs_are : new.list.jobs.items ≡ old.list.jobs.items ++ own
  pub bad_are : new.bad.items ≡ old.bad.items ++ bad
  pub sorted : AreSorted schemes (next_number old) lines own bad
  pub keeps : MayKeep bad_lines bad
  pub fault_is : new.list.fault ≡ old.list.fault

-- the last line has a fault that ends the reading, or there was no memory for it
abbrev pub LastFault : Schemes → BadLines → Reading → List ℕ → Type 0
LastFault schemes bad_lines new last =
    (new.list.fault ≡ Some faults.Memory)
    ⊎ ((bad_lines ≡ End) × ((fault : LineFault) × (MayFail schemes last fault × (new.list.fault ≡ Some fault))))

-- each line but the last added its job, or was kept, and the last ended the reading
pub record Broken (schemes : Schemes) (bad_lines : BadLines) (old new : Reading) (lines : List (List ℕ)) : Type 0 where
  pub front : List (List ℕ)
  pub last : List ℕ
  pub lines_are : lines ≡ front ++ last ∷ []
  pub own : List Job
  pub bad : List BadJobLine
  pub jobs_are : new.list.jobs.items ≡ old.list.jobs.items ++ own
  pub bad_are : new.bad.items ≡ old.bad.items ++ bad
  pub sorted : AreSorted schemes (next_number old) front own bad
  pub keeps : MayKeep bad_lines bad
  pub ends : LastFault schemes bad_lines new last

never : false ≡ true → ⊥
never e = search rules

behind_one : {A : Type 0} (old mid new : List A) (item : A) (own : List A) → mid ≡ old ++ item ∷ [] → new ≡ mid ++ own → new ≡ old ++ (item ∷ own)
behind_one old mid new item own first later = later ∙ ap (λ l. l ++ own) first ∙ append_assoc old (item ∷ []) own

one_longer : {A : Type 0} (old mid : List A) (item : A) → mid ≡ old ++ item ∷ [] → length mid ≡ length old + 1
one_longer old mid item e = ap length e ∙ length-append old (item ∷ [])

behind_job : (old mid : Reading) (job : Job) → mid.list.jobs.items ≡ old.list.jobs.items ++ job ∷ [] → mid.bad.items ≡ old.bad.items → next_number mid ≡ next_number old + 1
behind_job old mid job jobs bad = omega (arith, one_longer old.list.jobs.items mid.list.jobs.items job jobs, ap length bad)

behind_bad : (old mid : Reading) (told : BadJobLine) → mid.list.jobs.items ≡ old.list.jobs.items → mid.bad.items ≡ old.bad.items ++ told ∷ [] → next_number mid ≡ next_number old + 1
behind_bad old mid told jobs bad = omega (arith, one_longer old.bad.items mid.bad.items told bad, ap length jobs)

fails_so : (schemes : Schemes) (line : List ℕ) (fault : LineFault) → fault ≢ faults.Memory → MayFail schemes line fault → IsRead (Err fault) (job_of schemes line)
fails_so schemes line fault other (inl fails) = fails
fails_so schemes line fault other (inr memory) = absurd (other memory)

told_of : (schemes : Schemes) (number : ℕ) (line : List ℕ) (told : BadJobLine) (fault : LineFault) → told.number ≡ number → told.fault ≡ fault → fault ≢ faults.Memory → MayFail schemes line fault → IsToldOf schemes number line told
told_of schemes number line told fault number_is fault_is other may = record {
  number_is = number_is;
  fails = subst (λ (f : LineFault). IsRead (Err f) (job_of schemes line)) (sym fault_is) (fails_so schemes line fault other may);
  no_memory = subst (λ (f : LineFault). f ≢ faults.Memory) (sym fault_is) other;
}

sorted_job : (schemes : Schemes) (number next : ℕ) (line : List ℕ) (lines : List (List ℕ)) (job : Job) (own : List Job) (bad : List BadJobLine) → next ≡ number + 1 → IsRead (Ok job) (job_of schemes line) →
    AreSorted schemes next lines own bad → AreSorted schemes number (line ∷ lines) (job ∷ own) bad
sorted_job schemes number next line lines job own bad up read later = inl (record {
  job = job;
  later = own;
  jobs_are = refl;
  read = read;
  then = subst (λ (n : ℕ). AreSorted schemes n lines own bad) up later;
})

sorted_bad : (schemes : Schemes) (number next : ℕ) (line : List ℕ) (lines : List (List ℕ)) (told : BadJobLine) (own : List Job) (bad : List BadJobLine) → next ≡ number + 1 → IsToldOf schemes number line told →
    AreSorted schemes next lines own bad → AreSorted schemes number (line ∷ lines) own (told ∷ bad)
sorted_bad schemes number next line lines told own bad up is later = inr (record {
  told = told;
  later = bad;
  bad_are = refl;
  is = is;
  then = subst (λ (n : ℕ). AreSorted schemes n lines own bad) up later;
})

keep_more : (bad_lines : BadLines) (told : BadJobLine) (bad : List BadJobLine) → bad_lines ≡ Skip → MayKeep bad_lines bad → MayKeep bad_lines (told ∷ bad)
keep_more Skip told bad skips keeps = tt
keep_more End told bad skips keeps = search rules

keep_none : (bad_lines : BadLines) → MayKeep bad_lines []
keep_none Skip = tt
keep_none End = refl

-- the fault of a line that was kept
abbrev KeepsLine : Schemes → BadLines → Reading → List ℕ → Reading → Type 0
KeepsLine schemes bad_lines old line mid = (fault : LineFault) × (MayFail schemes line fault × MeetsFault bad_lines old fault false mid)

kept_told : (schemes : Schemes) (bad_lines : BadLines) (old mid : Reading) (line : List ℕ) (one : KeepsLine schemes bad_lines old line mid) → IsToldOf schemes (next_number old) line one.1.1.2.0
kept_told schemes bad_lines old mid line one =
    let told = one.1.1.2 in
    told_of schemes (next_number old) line told.0 one.0 told.1.0 told.1.1 one.1.1.1 one.1.0

after_job : (schemes : Schemes) (bad_lines : BadLines) (old mid new : Reading) (line : List ℕ) (lines : List (List ℕ)) → AddsJob schemes old.list line (Ok tt) mid.list → mid.bad.items ≡ old.bad.items →
    Kept schemes bad_lines mid new lines → Kept schemes bad_lines old new (line ∷ lines)
after_job schemes bad_lines old mid new line lines first same later = record {
  own = first.0 ∷ later.own;
  bad = later.bad;
  jobs_are = behind_one old.list.jobs.items mid.list.jobs.items new.list.jobs.items first.0 later.own first.1.1 later.jobs_are;
  bad_are = later.bad_are ∙ ap (λ (l : List BadJobLine). l ++ later.bad) same;
  sorted = sorted_job schemes (next_number old) (next_number mid) line lines first.0 later.own later.bad (behind_job old mid first.0 first.1.1 same) first.1.0 later.sorted;
  keeps = later.keeps;
  fault_is = later.fault_is ∙ first.1.2;
}

after_bad : (schemes : Schemes) (bad_lines : BadLines) (old mid new : Reading) (line : List ℕ) (lines : List (List ℕ)) → KeepsLine schemes bad_lines old line mid →
    Kept schemes bad_lines mid new lines → Kept schemes bad_lines old new (line ∷ lines)
after_bad schemes bad_lines old mid new line lines one later =
    let told = one.1.1.2 in
    let same : mid.list.jobs.items ≡ old.list.jobs.items = told.1.3 in
    record {
      own = later.own;
      bad = told.0 ∷ later.bad;
      jobs_are = later.jobs_are ∙ ap (λ (l : List Job). l ++ later.own) same;
      bad_are = behind_one old.bad.items mid.bad.items new.bad.items told.0 later.bad told.1.2 later.bad_are;
      sorted = sorted_bad schemes (next_number old) (next_number mid) line lines told.0 later.own later.bad (behind_bad old mid told.0 same told.1.2) (kept_told schemes bad_lines old mid line one) later.sorted;
      keeps = keep_more bad_lines told.0 later.bad one.1.1.0 later.keeps;
      fault_is = later.fault_is ∙ told.1.4;
    }

next_same : (old mid : Reading) → mid.list.jobs.items ≡ old.list.jobs.items → mid.bad.items ≡ old.bad.items → next_number mid ≡ next_number old
next_same old mid jobs bad = omega (arith, ap length jobs, ap length bad)

pub met_of : (schemes : Schemes) (bad_lines : BadLines) (old mid new : Reading) (line : List ℕ) (fault : LineFault) (ended : Bool) → MayFail schemes line fault →
    mid.list.jobs.items ≡ old.list.jobs.items → mid.list.fault ≡ old.list.fault → mid.bad.items ≡ old.bad.items →
    MeetsFault bad_lines mid fault ended new → TakesLine schemes bad_lines old line [] ended new
met_of schemes bad_lines old mid new line fault false may jobs kept bad met =
    let told = met.2 in (
      refl,
      inr (
        fault,
        (
          may,
          (
            met.0,
            met.1,
            (
              told.0,
              (
                told.1.0 ∙ next_same old mid jobs bad,
                told.1.1,
                told.1.2 ∙ ap (λ (l : List BadJobLine). l ++ told.0 ∷ []) bad,
                told.1.3 ∙ jobs,
                told.1.4 ∙ kept,
              ),
            ),
          ),
        ),
      ),
    )
met_of schemes bad_lines old mid new line fault true may jobs kept bad met =
    (refl, (fault, (may, (met.0 ∙ jobs, met.1 ∙ bad, met.2))))

kept : (schemes : Schemes) (bad_lines : BadLines) (old new : Reading) (lines : List (List ℕ)) (text : List ℕ) → AnswersLines (TakesLine schemes bad_lines) old lines text false new → Kept schemes bad_lines old new lines
kept schemes bad_lines old new [] text answered = record {
  own = [];
  bad = [];
  jobs_are = ap (λ (r : Reading). r.list.jobs.items) answered.2 ∙ sym (append-nil old.list.jobs.items);
  bad_are = ap (λ (r : Reading). r.bad.items) answered.2 ∙ sym (append-nil old.bad.items);
  sorted = (refl, refl);
  keeps = keep_none bad_lines;
  fault_is = ap (λ (r : Reading). r.list.fault) answered.2;
}
kept schemes bad_lines old new (line ∷ lines) text (inl ends) = absurd (never ends.ended_is)
kept schemes bad_lines old new (line ∷ lines) text (inr goes) =
    let later = kept schemes bad_lines goes.state new lines goes.rest goes.then in
    elim goes.answered.1 [
      | inl job ↦ after_job schemes bad_lines old goes.state new line lines job.0 job.1 later
      | inr one ↦ after_bad schemes bad_lines old goes.state new line lines one later
    ]

before_job : (schemes : Schemes) (bad_lines : BadLines) (old mid new : Reading) (line : List ℕ) (lines : List (List ℕ)) → AddsJob schemes old.list line (Ok tt) mid.list → mid.bad.items ≡ old.bad.items →
    Broken schemes bad_lines mid new lines → Broken schemes bad_lines old new (line ∷ lines)
before_job schemes bad_lines old mid new line lines first same later = record {
  front = line ∷ later.front;
  last = later.last;
  lines_are = ap (λ (l : List (List ℕ)). line ∷ l) later.lines_are;
  own = first.0 ∷ later.own;
  bad = later.bad;
  jobs_are = behind_one old.list.jobs.items mid.list.jobs.items new.list.jobs.items first.0 later.own first.1.1 later.jobs_are;
  bad_are = later.bad_are ∙ ap (λ (l : List BadJobLine). l ++ later.bad) same;
  sorted = sorted_job schemes (next_number old) (next_number mid) line later.front first.0 later.own later.bad (behind_job old mid first.0 first.1.1 same) first.1.0 later.sorted;
  keeps = later.keeps;
  ends = later.ends;
}

before_bad : (schemes : Schemes) (bad_lines : BadLines) (old mid new : Reading) (line : List ℕ) (lines : List (List ℕ)) → KeepsLine schemes bad_lines old line mid →
    Broken schemes bad_lines mid new lines → Broken schemes bad_lines old new (line ∷ lines)
before_bad schemes bad_lines old mid new line lines one later =
    let told = one.1.1.2 in
    let same : mid.list.jobs.items ≡ old.list.jobs.items = told.1.3 in
    record {
      front = line ∷ later.front;
      last = later.last;
      lines_are = ap (λ (l : List (List ℕ)). line ∷ l) later.lines_are;
      own = later.own;
      bad = told.0 ∷ later.bad;
      jobs_are = later.jobs_are ∙ ap (λ (l : List Job). l ++ later.own) same;
      bad_are = behind_one old.bad.items mid.bad.items new.bad.items told.0 later.bad told.1.2 later.bad_are;
      sorted = sorted_bad schemes (next_number old) (next_number mid) line later.front told.0 later.own later.bad (behind_bad old mid told.0 same told.1.2) (kept_told schemes bad_lines old mid line one) later.sorted;
      keeps = keep_more bad_lines told.0 later.bad one.1.1.0 later.keeps;
      ends = later.ends;
    }

last_fault : (schemes : Schemes) (bad_lines : BadLines) (new : Reading) (line : List ℕ) (fault : LineFault) → MayFail schemes line fault →
    (new.list.fault ≡ Some faults.Memory) ⊎ ((bad_lines ≡ End) × (new.list.fault ≡ Some fault)) → LastFault schemes bad_lines new line
last_fault schemes bad_lines new line fault may (inl memory) = inl memory
last_fault schemes bad_lines new line fault may (inr end) = inr (end.0, (fault, (may, end.1)))

broken : (schemes : Schemes) (bad_lines : BadLines) (old new : Reading) (lines : List (List ℕ)) (text : List ℕ) → AnswersLines (TakesLine schemes bad_lines) old lines text true new → Broken schemes bad_lines old new lines
broken schemes bad_lines old new [] text answered = absurd (never (sym answered.1))
broken schemes bad_lines old new (line ∷ lines) text (inl ends) =
    let one = ends.answered.1 in
    record {
      front = [];
      last = line;
      lines_are = ap (λ (l : List (List ℕ)). line ∷ l) ends.last;
      own = [];
      bad = [];
      jobs_are = one.1.1.0 ∙ sym (append-nil old.list.jobs.items);
      bad_are = one.1.1.1 ∙ sym (append-nil old.bad.items);
      sorted = (refl, refl);
      keeps = keep_none bad_lines;
      ends = last_fault schemes bad_lines new line one.0 one.1.0 one.1.1.2;
    }
broken schemes bad_lines old new (line ∷ lines) text (inr goes) =
    let later = broken schemes bad_lines goes.state new lines goes.rest goes.then in
    elim goes.answered.1 [
      | inl job ↦ before_job schemes bad_lines old goes.state new line lines job.0 job.1 later
      | inr one ↦ before_bad schemes bad_lines old goes.state new line lines one later
    ]

pub sorted_count : (schemes : Schemes) (number : ℕ) (lines : List (List ℕ)) (jobs : List Job) (bad : List BadJobLine) → AreSorted schemes number lines jobs bad → length jobs + length bad ≡ length lines
sorted_count schemes number [] jobs bad sorted = omega (arith, ap length sorted.0, ap length sorted.1)
sorted_count schemes number (line ∷ lines) jobs bad (inl one) = omega (arith, ap length one.jobs_are, sorted_count schemes (number + 1) lines one.later bad one.then)
sorted_count schemes number (line ∷ lines) jobs bad (inr one) = omega (arith, ap length one.bad_are, sorted_count schemes (number + 1) lines jobs one.later one.then)

-- the session of a new reading
abbrev pub Sessions : (schemes : Schemes) (bad_lines : BadLines) (old new : Reading) (input left written written_new : Option (List ℕ)) → Result (Unit {0}) SessionFault → Type 0
Sessions schemes bad_lines old new input left written written_new result =
    (old.list.jobs.items ≡ []) × (old.list.fault ≡ None) × (old.bad.items ≡ [])
    × Session (TakesLine schemes bad_lines) job_line_limit max_jobs old new input left written written_new result

ends_some : (schemes : Schemes) (bad_lines : BadLines) (new : Reading) (last : List ℕ) → new.list.fault ≡ None → LastFault schemes bad_lines new last → ⊥
ends_some schemes bad_lines new last clean (inl memory) = none-some faults.Memory (sym clean ∙ memory)
ends_some schemes bad_lines new last clean (inr end) = none-some end.1.0 (sym clean ∙ end.1.1.1)

goes_on : (schemes : Schemes) (bad_lines : BadLines) (ended : Bool) (old new : Reading) (lines : List (List ℕ)) (text : List ℕ) → new.list.fault ≡ None → AnswersLines (TakesLine schemes bad_lines) old lines text ended new → Kept schemes bad_lines old new lines
goes_on schemes bad_lines false old new lines text clean answered = kept schemes bad_lines old new lines text answered
goes_on schemes bad_lines true old new lines text clean answered =
    let end = broken schemes bad_lines old new lines text answered in
    absurd (ends_some schemes bad_lines new end.last clean end.ends)

ends : (schemes : Schemes) (bad_lines : BadLines) (ended : Bool) (old new : Reading) (lines : List (List ℕ)) (text : List ℕ) (fault : LineFault) → old.list.fault ≡ None → new.list.fault ≡ Some fault → AnswersLines (TakesLine schemes bad_lines) old lines text ended new → Broken schemes bad_lines old new lines
ends schemes bad_lines true old new lines text fault clean bad answered = broken schemes bad_lines old new lines text answered
ends schemes bad_lines false old new lines text fault clean bad answered =
    let all = kept schemes bad_lines old new lines text answered in
    absurd (none-some fault (sym clean ∙ sym all.fault_is ∙ bad))

no_end : (schemes : Schemes) (bad_lines : BadLines) (ended : Bool) (old new : Reading) (lines : List (List ℕ)) (text : List ℕ) → new.list.fault ≡ None → AnswersLines (TakesLine schemes bad_lines) old lines text ended new → ended ≡ false
no_end schemes bad_lines false old new lines text clean answered = refl
no_end schemes bad_lines true old new lines text clean answered =
    let end = broken schemes bad_lines old new lines text answered in
    absurd (ends_some schemes bad_lines new end.last clean end.ends)

met_ok : (met : Result (Unit {0}) SessionFault) → ResultsIn met (Ok tt) → met ≡ Ok tt
met_ok met (inl same) = sym same
met_ok met (inr other) = search rules

met_fault : (met : Result (Unit {0}) SessionFault) (fault : SessionFault) → fault ≢ Write → ResultsIn met (Err fault) → met ≡ Err fault
met_fault met fault other (inl same) = sym same
met_fault met fault other (inr same) = search rules

all_of : {A : Type 0} (old new own : List A) → old ≡ [] → new ≡ old ++ own → new ≡ own
all_of old new own empty all = all ∙ ap (λ l. l ++ own) empty

drained : (ended : Bool) (unread : List ℕ) (left : Option (List ℕ)) → ended ≡ false → (ended ≡ true) ⊎ IsDrained unread left → IsDrained unread left
drained ended unread left goes (inl over) = absurd (never (sym goes ∙ over))
drained ended unread left goes (inr none) = none

first_number : (old : Reading) → old.list.jobs.items ≡ [] → old.bad.items ≡ [] → next_number old ≡ 1
first_number old jobs bad = omega (arith, ap length jobs, ap length bad)

from_first : (schemes : Schemes) (old : Reading) (lines : List (List ℕ)) (own : List Job) (bad : List BadJobLine) → old.list.jobs.items ≡ [] → old.bad.items ≡ [] → AreSorted schemes (next_number old) lines own bad → AreSorted schemes 1 lines own bad
from_first schemes old lines own bad jobs none sorted = subst (λ (n : ℕ). AreSorted schemes n lines own bad) (first_number old jobs none) sorted

same_sorted : (schemes : Schemes) (lines : List (List ℕ)) (own jobs : List Job) (kept bad : List BadJobLine) → jobs ≡ own → bad ≡ kept → AreSorted schemes 1 lines own kept → AreSorted schemes 1 lines jobs bad
same_sorted schemes lines own jobs kept bad same other sorted =
    subst (λ (l : List Job). AreSorted schemes 1 lines l bad) (sym same) (subst (λ (l : List BadJobLine). AreSorted schemes 1 lines own l) (sym other) sorted)

all_lines : (schemes : Schemes) (bad_lines : BadLines) (old new : Reading) (input left written written_new : Option (List ℕ)) (result : Result (Unit {0}) SessionFault) (read : JobLines) →
    Sessions schemes bad_lines old new input left written written_new result → LeavesWell new result read → AreJobLines schemes bad_lines input left read
all_lines schemes bad_lines old new input left written written_new result read sessions well =
    let s = sessions.3 in
    let all = goes_on schemes bad_lines s.ended old new s.lines s.text well.0 s.answered in
    let met = met_ok s.met (subst (ResultsIn s.met) well.1 s.results) in
    let stop = subst (Meets job_line_limit max_jobs (length s.lines) s.ended s.behind s.unread left) met s.stopped in
    let jobs : read.jobs.items ≡ all.own = well.2 ∙ all_of old.list.jobs.items new.list.jobs.items all.own sessions.0 all.jobs_are in
    let bad : read.bad.items ≡ all.bad = well.3 ∙ all_of old.bad.items new.bad.items all.bad sessions.2 all.bad_are in
    let sorted = from_first schemes old s.lines all.own all.bad sessions.0 sessions.2 all.sorted in
    record {
      lines = s.lines;
      behind = s.behind;
      unread = s.unread;
      took = s.took;
      none = drained s.ended s.unread left (no_end schemes bad_lines s.ended old new s.lines s.text well.0 s.answered) stop.none;
      sorted = same_sorted schemes s.lines all.own read.jobs.items all.bad read.bad.items jobs bad sorted;
      keeps = subst (MayKeep bad_lines) (sym bad) all.keeps;
      few = omega (arith, s.within, ap length jobs, sorted_count schemes 1 s.lines all.own all.bad sorted);
    }

count_is : (schemes : Schemes) (lines : List (List ℕ)) (new : Reading) (own : List Job) (bad : List BadJobLine) (number : ℕ) → new.list.jobs.items ≡ own → new.bad.items ≡ bad → AreSorted schemes 1 lines own bad → number ≡ next_number new → number ≡ length lines + 1
count_is schemes lines new own bad number jobs kept sorted is = omega (arith, is, ap length jobs, ap length kept, sorted_count schemes 1 lines own bad sorted)

fault_same : (one other : LineFault) → Some one ≡ Some other → one ≡ other
fault_same one other same = search rules

ended_by : (schemes : Schemes) (bad_lines : BadLines) (new : Reading) (input left behind : Option (List ℕ)) (front : List (List ℕ)) (last : List ℕ) (fault : LineFault) →
    TakesLines job_line_limit input behind (front ++ last ∷ []) → new.list.fault ≡ Some fault → fault ≢ faults.Memory → LastFault schemes bad_lines new last → EndsReading schemes bad_lines input left front fault
ended_by schemes bad_lines new input left behind front last fault took bad other (inl memory) = absurd (other (fault_same fault faults.Memory (sym bad ∙ memory)))
ended_by schemes bad_lines new input left behind front last fault took bad other (inr end) =
    let same : end.1.0 ≡ fault = fault_same end.1.0 fault (sym end.1.1.1 ∙ bad) in
    let kept : fault ≢ faults.Memory = other in
    inl (
      end.0,
      (
        record {
          line = last;
          behind = behind;
          fault = fault;
          took = took;
          fails = fails_so schemes last fault other (subst (MayFail schemes last) same end.1.1.0);
          no_memory = kept;
        },
        refl,
      ),
    )

bad_line : (schemes : Schemes) (bad_lines : BadLines) (old new : Reading) (input left written written_new : Option (List ℕ)) (result : Result (Unit {0}) SessionFault) (last : BadJobLine) →
    Sessions schemes bad_lines old new input left written written_new result → new.list.fault ≡ Some last.fault → last.fault ≢ faults.Memory → last.number ≡ next_number new → IsLastLine schemes bad_lines input left last
bad_line schemes bad_lines old new input left written written_new result last sessions bad other is =
    let s = sessions.3 in
    let end = ends schemes bad_lines s.ended old new s.lines s.text last.fault sessions.1 bad s.answered in
    let sorted = from_first schemes old end.front end.own end.bad sessions.0 sessions.2 end.sorted in
    record {
      lines = end.front;
      jobs = end.own;
      bad = end.bad;
      sorted = sorted;
      keeps = end.keeps;
      number_is = count_is schemes end.front new end.own end.bad last.number (all_of old.list.jobs.items new.list.jobs.items end.own sessions.0 end.jobs_are) (all_of old.bad.items new.bad.items end.bad sessions.2 end.bad_are) sorted is;
      ends = ended_by schemes bad_lines new input left s.behind end.front end.last last.fault (subst (TakesLines job_line_limit input s.behind) end.lines_are s.took) bad other end.ends;
    }

behind_all : (schemes : Schemes) (bad_lines : BadLines) (old new : Reading) (input left written written_new : Option (List ℕ)) (result : Result (Unit {0}) SessionFault) (last : BadJobLine) →
    (sessions : Sessions schemes bad_lines old new input left written written_new result) → new.list.fault ≡ None → last.number ≡ next_number new →
    EndsReading schemes bad_lines input left sessions.3.lines last.fault → IsLastLine schemes bad_lines input left last
behind_all schemes bad_lines old new input left written written_new result last sessions clean is why =
    let s = sessions.3 in
    let all = goes_on schemes bad_lines s.ended old new s.lines s.text clean s.answered in
    let sorted = from_first schemes old s.lines all.own all.bad sessions.0 sessions.2 all.sorted in
    record {
      lines = s.lines;
      jobs = all.own;
      bad = all.bad;
      sorted = sorted;
      keeps = all.keeps;
      number_is = count_is schemes s.lines new all.own all.bad last.number (all_of old.list.jobs.items new.list.jobs.items all.own sessions.0 all.jobs_are) (all_of old.bad.items new.bad.items all.bad sessions.2 all.bad_are) sorted is;
      ends = why;
    }

too_long : (schemes : Schemes) (bad_lines : BadLines) (old new : Reading) (input left written written_new : Option (List ℕ)) (result : Result (Unit {0}) SessionFault) (last : BadJobLine) →
    Sessions schemes bad_lines old new input left written written_new result → new.list.fault ≡ None → last.fault ≡ faults.Long → result ≡ Err LongLine → last.number ≡ next_number new → IsLastLine schemes bad_lines input left last
too_long schemes bad_lines old new input left written written_new result last sessions clean fault long is =
    let s = sessions.3 in
    let met = met_fault s.met LongLine (search rules) (subst (ResultsIn s.met) long s.results) in
    let stop = subst (Meets job_line_limit max_jobs (length s.lines) s.ended s.behind s.unread left) met s.stopped in
    behind_all schemes bad_lines old new input left written written_new result last sessions clean is
    (inr (inl (fault, record { behind = s.behind; unread = s.unread; took = s.took; found = stop.1 })))

too_many : (schemes : Schemes) (bad_lines : BadLines) (old new : Reading) (input left written written_new : Option (List ℕ)) (result : Result (Unit {0}) SessionFault) (last : BadJobLine) →
    Sessions schemes bad_lines old new input left written written_new result → new.list.fault ≡ None → last.fault ≡ faults.Lines → result ≡ Err Lines → last.number ≡ next_number new → IsLastLine schemes bad_lines input left last
too_many schemes bad_lines old new input left written written_new result last sessions clean fault many is =
    let s = sessions.3 in
    let met = met_fault s.met Lines (search rules) (subst (ResultsIn s.met) many s.results) in
    let stop = subst (Meets job_line_limit max_jobs (length s.lines) s.ended s.behind s.unread left) met s.stopped in
    behind_all schemes bad_lines old new input left written written_new result last sessions clean is
    (inr (inr (fault, record { behind = s.behind; unread = s.unread; took = s.took; all = stop.1; found = stop.2 })))

pub read_well : (schemes : Schemes) (bad_lines : BadLines) (told : Result JobLines JobLinesFault) (old new : Reading) (input left written written_new : Option (List ℕ)) (result : Result (Unit {0}) SessionFault) →
    Sessions schemes bad_lines old new input left written written_new result →
    IfOk told (LeavesWell new result) → IfOk told (AreJobLines schemes bad_lines input left)
read_well schemes bad_lines (Ok read) old new input left written written_new result sessions well = all_lines schemes bad_lines old new input left written written_new result read sessions well
read_well schemes bad_lines (Err _) old new input left written written_new result sessions well = tt

pub read_badly : (schemes : Schemes) (bad_lines : BadLines) (told : Result JobLines JobLinesFault) (old new : Reading) (input left written written_new : Option (List ℕ)) (result : Result (Unit {0}) SessionFault) →
    Sessions schemes bad_lines old new input left written written_new result →
    IfErr told (LeavesBadly new result) → IfErr told (IsLinesFault schemes bad_lines input left)
read_badly schemes bad_lines (Ok read) old new input left written written_new result sessions bad = tt
read_badly schemes bad_lines (Err lines_fault.Read) old new input left written written_new result sessions bad = tt
read_badly schemes bad_lines (Err lines_fault.NoMemory) old new input left written written_new result sessions bad = tt
read_badly schemes bad_lines (Err (lines_fault.BadLine last)) old new input left written written_new result sessions bad =
    elim bad.1 [
      | inl fault ↦ bad_line schemes bad_lines old new input left written written_new result last sessions fault.0 fault.1 bad.0
      | inr others ↦ elim others [
        | inl long ↦ too_long schemes bad_lines old new input left written written_new result last sessions long.0 long.1 long.2 bad.0
        | inr many ↦ too_many schemes bad_lines old new input left written written_new result last sessions many.0 many.1 many.2 bad.0
      ]
    ]

pub read_failed : (told : Result JobLines JobLinesFault) (new : Reading) (result : Result (Unit {0}) SessionFault) (failures failures' : ℕ) →
    failures' ≡ failures_after_reads failures result →
    IfErr told (LeavesBadly new result) → IfErr told (FailsToReadLines failures failures')
read_failed (Ok _) new result failures failures' count bad = tt
read_failed (Err (lines_fault.BadLine _)) new result failures failures' count bad = tt
read_failed (Err lines_fault.NoMemory) new result failures failures' count bad = tt
read_failed (Err lines_fault.Read) new result failures failures' count bad = count ∙ ap (failures_after_reads failures) bad
