-- What one more line does to what was read, and why a line is bad.
-- Used by the calls of the auditor and by `audit`.
use Rattle.std.proofs.Common.{◌≡◌, ◌≢◌, ℕ, ◌+◌, ◌<◌, ◌≤◌, ◌==◌, Bool, true, false, cond, All, List, [], ◌∷◌, ◌++◌, Some, None, Ok, Err, filter, length, inl, inr, refl, sym, ap, subst, ◌∙◌, arith, append_assoc, append-nil, length-append, get_or}
use Rattle.std.specs.Prelude.{Option}
use Rattle.std.specs.Io.KnownBytes.{Consumes, IsAtEnd, prepend_known}
use Rattle.std.proofs.KnownBytes.{Consumes-trans, Keeps-refl, prepend_known-end}
use Rattle.std.proofs.lemmas.Bool.Decides.{nat_tests}
use Rattle.std.proofs.lemmas.List.Concat.{flat_map-append}
use Rattle.std.proofs.lemmas.List.Elements.{All-append, All-cons, All-head, All-nil, All-tail, filter-append}
use Rattle.counted_io.specs.Lines.{FindsEnd, FindsTooLongTo, HasNoLineFeed, TakesLast, TakesLineTo}
use Rattle.counted_io.specs.declared.line_end.LineEnd.TheVariants.{Lf}
use Rattle.path_normal.specs.declared.schemes.Schemes.{Schemes}
use Rattle.gate_history.specs.Base.{empty_base}
use Rattle.gate_history.specs.History.{from}
use Rattle.gate_history.specs.Legal.{IsLegal}
use Rattle.crawl_audit.specs.declared.auditor.Auditor.{Auditor}
use Rattle.crawl_audit.specs.declared.auditor.AuditState.TheVariants as stages
use Rattle.crawl_audit.specs.declared.fault.AuditFault.{AuditFault}
use Rattle.crawl_audit.specs.declared.fault.AuditFault.TheVariants.{BadLine, Read, NoMemory}
use Rattle.crawl_audit.specs.declared.fault.Audited.{Audited}
use Rattle.history_text.specs.declared.version.Version.TheVariants.{One}
use Rattle.crawl_audit.specs.Audit.{AddsLine, GoesTo, Heard, HeardAll, Holds, is_entry_line, is_start_line, IsFault, LeadsNowhere}
use Rattle.crawl_audit.specs.ChainAudit.{IsAmong, IsChainAudited, IsChainBadAt}
use Rattle.crawl_audit.specs.Chains.{IsFront, line_limit, most_lines}
use Rattle.history_text.specs.SpellBase.{ended, lines_text}
use Rattle.crawl_audit.specs.Steps.{MayEnd, Place, Runs, start, Steps}
use Rattle.crawl_audit.specs.Tables.{TellsAll}
use Rattle.crawl_audit.proofs.ChainLines.{good_begins, IsGoodLine}
use Rattle.crawl_audit.proofs.CountedLines.{all_behind, entries_of_chain, starts_of_chain}
use Rattle.crawl_audit.proofs.Reaching.{ends_are_chains, reads_are_fronts}
use Rattle.crawl_audit.proofs.Spelling.{cut_lines, HasNoFeed, not_empty}
use Rattle.crawl_audit.proofs.Stepping.{chain_ends, fronts_are_read, one_run, run_front, runs_then}
use Rattle.crawl_audit.proofs.AuditSteps.{stands_still}

-- ---- one more line

counted_more : (test : List ℕ → Bool) (lines : List (List ℕ)) (line : List ℕ) →
    length (filter test (lines ++ line ∷ [])) ≡ cond (test line) (length (filter test lines) + 1) (length (filter test lines))
counted_more test lines line = ap length (filter-append test lines (line ∷ [])) ∙ length-append (filter test lines) (filter test (line ∷ [])) ∙ by (test line)
  where
    by : (b : Bool) → length (filter test lines) + length (cond b (line ∷ []) []) ≡ cond b (length (filter test lines) + 1) (length (filter test lines))
    by true = refl
    by false = omega arith

few_counted : (test : List ℕ → Bool) (lines : List (List ℕ)) → length (filter test lines) ≤ length lines
few_counted test [] = omega arith
few_counted test (l ∷ ls) = by (test l) (few_counted test ls)
  where
    by : (b : Bool) → length (filter test ls) ≤ length ls → length (cond b (l ∷ filter test ls) (filter test ls)) ≤ length (l ∷ ls)
    by true rest = omega (arith, rest)
    by false rest = omega (arith, rest)

pub holds_more : (schemes : Schemes) (a a' a'' : Auditor) (lines : List (List ℕ)) (place : Place) (line : List ℕ) → Holds schemes a lines place → (goes : GoesTo place line a a') → length lines < most_lines → IsAmong schemes line →
    a''.schemes ≡ a.schemes → a''.stage ≡ a'.stage → a''.open_state ≡ a'.open_state → a''.version ≡ a'.version → a''.count ≡ a'.count → a''.events ≡ a'.events → a''.starts ≡ a'.starts → a''.lines ≡ a.lines + 1 →
    Holds schemes a'' (lines ++ line ∷ []) goes.next
holds_more schemes a a' a'' lines place line holds goes room among same stage open_state version count events starts more =
    let many = length-append lines (line ∷ []) in
    let counts = goes.counts in
    record {
      schemes_are = same ∙ holds.schemes_are;
      runs = runs_then start place goes.next lines (line ∷ []) holds.runs (goes.next, (goes.steps, refl));
      stands = stands_still a' a'' goes.next stage open_state version count goes.stands;
      lines_are = omega (arith, more, holds.lines_are, many);
      few = omega (arith, many, room);
      among = All-append (IsAmong schemes) lines (line ∷ []) holds.among (All-cons (IsAmong schemes) line [] among (All-nil (IsAmong schemes)));
      events_are = events ∙ counts.events (omega (arith, holds.events_are, few_counted is_entry_line lines, room))
          ∙ ap (λ n. cond (is_entry_line line) (n + 1) n) holds.events_are ∙ sym (counted_more is_entry_line lines line);
      starts_are = starts ∙ counts.starts (omega (arith, holds.starts_are, few_counted is_start_line lines, room))
          ∙ ap (λ n. cond (is_start_line line) (n + 1) n) holds.starts_are ∙ sym (counted_more is_start_line lines line);
    }

pub moved : (schemes : Schemes) (a a' : Auditor) (lines : List (List ℕ)) (place : Place) → a'.schemes ≡ a.schemes → a'.stage ≡ a.stage → a'.open_state ≡ a.open_state → a'.version ≡ a.version → a'.count ≡ a.count → a'.lines ≡ a.lines → a'.events ≡ a.events → a'.starts ≡ a.starts →
    Holds schemes a lines place → Holds schemes a' lines place
moved schemes a a' lines place same stage open_state version count taken events starts holds = record {
  schemes_are = same ∙ holds.schemes_are;
  runs = holds.runs;
  stands = stands_still a a' place stage open_state version count holds.stands;
  lines_are = taken ∙ holds.lines_are;
  few = holds.few;
  among = holds.among;
  events_are = events ∙ holds.events_are;
  starts_are = starts ∙ holds.starts_are;
}

-- ---- the places of line feeds

feedless : (line : List ℕ) → HasNoLineFeed line → HasNoFeed line
feedless line none = λ k d within. unequal _ (none k d within)
  where
    unequal : (o : ℕ) → (o ≡ 10 → ⊥) → (o == 10) ≡ false
    unequal o apart = grind (arith, nat_tests)

-- no line that was read has a line feed
pub no_feeds : (schemes : Schemes) (a : Auditor) (lines : List (List ℕ)) (place : Place) → Holds schemes a lines place → All HasNoLineFeed lines
no_feeds schemes a lines place holds = λ k d within. (λ i e inside. apart _ ((good k d within).feedless i e inside))
  where
    good : All IsGoodLine lines
    good = good_begins lines (reads_are_fronts lines place holds.runs holds.few)

    apart : (o : ℕ) → (o == 10) ≡ false → o ≡ 10 → ⊥
    apart o not is = grind (arith, nat_tests)

-- a line feed is not among octets without one
beyond : (raw l x r : List ℕ) → HasNoLineFeed raw → raw ++ x ≡ l ++ 10 ∷ r → length l < length raw → ⊥
beyond [] l x r none is short = omega arith
beyond (o ∷ raw) [] x r none is short = All-head (λ octet. octet ≢ 10) o raw none (ap (λ k. get_or k 0 0) is)
beyond (o ∷ raw) (p ∷ l) x r none is short =
    let rest : raw ++ x ≡ l ++ 10 ∷ r = cc in
    beyond raw l x r (All-tail (λ octet. octet ≢ 10) o raw none) rest (omega arith)

line_then : (line after : List ℕ) → ended line ++ after ≡ line ++ 10 ∷ after
line_then line after = append_assoc line (10 ∷ []) after

-- ---- bad lines

-- the text is known, and begins with these lines
module _ (schemes : Schemes) (a : Auditor) (lines : List (List ℕ)) (place : Place) (holds : Holds schemes a lines place) (text : List ℕ) where
  front_steps : (next : List ℕ) → IsFront (lines ++ next ∷ []) → (p : Place) × Steps place next p
  front_steps next is =
      let run = fronts_are_read (lines ++ next ∷ []) is in
      let cut = run_front start run.0 lines (next ∷ []) run.1 in
      let same = one_run start cut.0 place lines cut.1.0 holds.runs in
      let last = subst (λ (q : Place). Runs q (next ∷ []) run.0) same cut.1.1 in
      (last.0, last.1.0)

  front_feedless : (next : List ℕ) → IsFront (lines ++ next ∷ []) → HasNoFeed next
  front_feedless next is = let good = All-head IsGoodLine next [] (all_behind IsGoodLine lines (next ∷ []) (good_begins (lines ++ next ∷ []) is)) in good.feedless

  bad_at : (behind : List ℕ) → text ≡ lines_text lines ++ behind → (number : ℕ) → number ≡ a.lines + 1 → (behind ≡ [] → MayEnd place → ⊥) →
      ((next after : List ℕ) → length next ≤ line_limit → behind ≡ next ++ 10 ∷ after → IsAmong schemes next → IsFront (lines ++ next ∷ []) → ⊥) → IsChainBadAt schemes text number
  bad_at behind is number count ends bad = record {
    front = lines;
    before = reads_are_fronts lines place holds.runs holds.few;
    among = holds.among;
    behind = behind;
    text_is = is;
    whole = λ none first later chain same.
        let run = chain_ends first later chain in
        ends none (subst MayEnd (one_run start run.0 place lines (subst (λ (ls : List (List ℕ)). Runs start ls run.0) same run.1.0) holds.runs) run.1.1);
    line_is = count ∙ ap (λ n. n + 1) holds.lines_are;
    bad = λ next after short then among is_front. bad next after short (then ∙ line_then next after) among is_front;
  }

  pub bad_line : (raw rest : List ℕ) → text ≡ lines_text lines ++ (raw ++ 10 ∷ rest) → HasNoLineFeed raw → (number : ℕ) → number ≡ a.lines + 1 → LeadsNowhere schemes lines place raw → IsChainBadAt schemes text number
  bad_line raw rest is none number count nowhere =
      bad_at (raw ++ 10 ∷ rest) is number count (λ empty. absurd (not_empty raw rest (sym empty)))
      (λ next after short then among is_front.
      let same = (cut_lines raw next rest after (feedless raw none) (front_feedless next is_front) then).0 in
      let step = front_steps next is_front in
      let few = is_front.few in
      nowhere (omega (arith, few, length-append lines (next ∷ []))) (subst (IsAmong schemes) (sym same) among) step.0 (subst (λ (l : List ℕ). Steps place l step.0) (sym same) step.1))

  pub bad_line_behind : (raw rest : List ℕ) (is : text ≡ lines_text lines ++ (raw ++ 10 ∷ rest)) (none : HasNoLineFeed raw) (number : ℕ) (count : number ≡ a.lines + 1) (nowhere : LeadsNowhere schemes lines place raw) →
      (let bad : IsChainBadAt schemes text number = bad_line raw rest is none number count nowhere in bad.behind ≡ raw ++ 10 ∷ rest)
  unfolding bad_line bad_at
  bad_line_behind raw rest is none number count nowhere = refl

  pub bad_part : (raw rest : List ℕ) → text ≡ lines_text lines ++ (raw ++ rest) → HasNoLineFeed raw → 0 < length raw → (number : ℕ) → number ≡ a.lines + 1 →
      ((l r : List ℕ) → length l ≤ line_limit → raw ++ rest ≡ l ++ 10 ∷ r → length l < length raw) → IsChainBadAt schemes text number
  bad_part raw rest is none some number count long =
      bad_at (raw ++ rest) is number count (λ empty. absurd (omega (arith, some, ap length empty, length-append raw rest)))
      (λ next after short then among is_front. beyond raw next rest after none then (long next after short then))

  pub bad_part_behind : (raw rest : List ℕ) (is : text ≡ lines_text lines ++ (raw ++ rest)) (none : HasNoLineFeed raw) (some : 0 < length raw) (number : ℕ) (count : number ≡ a.lines + 1)
      (long : (l r : List ℕ) → length l ≤ line_limit → raw ++ rest ≡ l ++ 10 ∷ r → length l < length raw) →
      (let bad : IsChainBadAt schemes text number = bad_part raw rest is none some number count long in bad.behind ≡ raw ++ rest)
  unfolding bad_part bad_at
  bad_part_behind raw rest is none some number count long = refl

  pub bad_end : text ≡ lines_text lines → (MayEnd place → ⊥) → (number : ℕ) → number ≡ a.lines + 1 → IsChainBadAt schemes text number
  bad_end is ends number count =
      bad_at [] (is ∙ sym (append-nil (lines_text lines))) number count (λ empty. ends) (λ next after short then among is_front. not_empty next after then)

-- ---- what the source gave

pub split_known : (text : List ℕ) (behind : Option (List ℕ)) (front : List ℕ) → Consumes (Some text) behind front → (rest : List ℕ) × (behind ≡ Some rest) × (text ≡ front ++ rest)
split_known text None front c = absurd c
split_known text (Some rest) front c = (rest, refl, c)

pub split_twice : (input behind after : Option (List ℕ)) (text front more : List ℕ) → input ≡ Some text → Consumes input behind front → Consumes behind after more → (rest : List ℕ) × (after ≡ Some rest) × (text ≡ front ++ (more ++ rest))
split_twice input behind after text front more is first then =
    let one = split_known text behind front (subst (λ (i : Option (List ℕ)). Consumes i behind front) is first) in
    let two = split_known one.0 after more (subst (λ (b : Option (List ℕ)). Consumes b after more) one.1 then) in
    (two.0, two.1, one.2 ∙ ap (λ k. front ++ k) two.2)

pub text_more : (lines : List (List ℕ)) (line : List ℕ) → lines_text (lines ++ line ∷ []) ≡ lines_text lines ++ (line ++ 10 ∷ [])
text_more lines line = flat_map-append ended lines (line ∷ []) ∙ ap (λ t. lines_text lines ++ t) (append-nil (ended line))

module _ (schemes : Schemes) (a : Auditor) (input behind : Option (List ℕ)) (heard : Heard schemes a input behind) where
  pub line_fault : (line : List ℕ) (after : Option (List ℕ)) (fault : AuditFault) (a' : Auditor) → TakesLineTo Lf line_limit behind after line → AddsLine schemes heard.lines heard.place line (Err fault) a' →
      (text : List ℕ) → input ≡ Some text → IsFault schemes text fault
  line_fault line after (BadLine number) a' t b text is =
      let s = split_twice input behind after text (lines_text heard.lines) (t.raw ++ 10 ∷ []) is heard.taken t.consumed in
      let holds = heard.holds in
      bad_line schemes a heard.lines heard.place heard.holds text t.raw s.0 (s.2 ∙ ap (λ k. lines_text heard.lines ++ k) (append_assoc t.raw (10 ∷ []) s.0)) t.no_line_feed number
      (b.0 ∙ ap (λ n. n + 1) (sym holds.lines_are)) (subst (LeadsNowhere schemes heard.lines heard.place) t.line_is b.1)
  line_fault line after Read a' t b text is = tt
  line_fault line after NoMemory a' t b text is = tt

  pub last_fault : (line pending : List ℕ) (left : Option (List ℕ)) (number : ℕ) → number ≡ a.lines + 1 → TakesLast line_limit behind pending left line → (text : List ℕ) → input ≡ Some text → IsChainBadAt schemes text number
  last_fault line pending left number count t text is =
      let s = split_twice input behind (prepend_known pending left) text (lines_text heard.lines) line is heard.taken t.consumed in
      let end = prepend_known-end (prepend_known pending left) left pending (Keeps-refl (prepend_known pending left)) t.drained.empty t.drained.at_end in
      let none : s.0 ≡ [] = subst IsAtEnd s.1 end in
      bad_part schemes a heard.lines heard.place heard.holds text line s.0 s.2 t.no_line_feed t.some number count
      (λ l r short same. omega (arith, ap length same, ap length none, length-append line s.0, length-append l (10 ∷ r)))

  pub long_fault : (pending : List ℕ) (left : Option (List ℕ)) (number : ℕ) → number ≡ a.lines + 1 → FindsTooLongTo Lf line_limit behind pending left → (text : List ℕ) → input ≡ Some text → IsChainBadAt schemes text number
  long_fault pending left number count t text is =
      let s = split_twice input behind (prepend_known pending left) text (lines_text heard.lines) t.raw is heard.taken t.consumed in
      let over : line_limit < length t.raw = elim t.too_long [ inl h ↦ h | inr h ↦ h.0 ] in
      bad_part schemes a heard.lines heard.place heard.holds text t.raw s.0 s.2 t.no_line_feed (omega arith) number count (λ l r short same. omega arith)

  pub ended_at : (line pending : List ℕ) (left : Option (List ℕ)) → FindsEnd behind pending left line → Consumes input (prepend_known pending left) (lines_text heard.lines) × IsAtEnd (prepend_known pending left)
  ended_at line pending left f = (
    subst (Consumes input (prepend_known pending left)) (append-nil (lines_text heard.lines))
        (Consumes-trans input behind (prepend_known pending left) (lines_text heard.lines) [] heard.taken f.kept),
    prepend_known-end (prepend_known pending left) left pending (Keeps-refl (prepend_known pending left)) f.drained.empty f.drained.at_end,
  )

  pub end_fault : (line pending : List ℕ) (left : Option (List ℕ)) (number : ℕ) → number ≡ a.lines + 1 → FindsEnd behind pending left line → (MayEnd heard.place → ⊥) → (text : List ℕ) → input ≡ Some text → IsChainBadAt schemes text number
  end_fault line pending left number count f ends text is =
      let at = ended_at line pending left f in
      let s = split_known text (prepend_known pending left) (lines_text heard.lines) (subst (λ (i : Option (List ℕ)). Consumes i (prepend_known pending left) (lines_text heard.lines)) is at.0) in
      let none : s.0 ≡ [] = subst IsAtEnd s.1 at.1 in
      bad_end schemes a heard.lines heard.place heard.holds text (s.2 ∙ ap (λ k. lines_text heard.lines ++ k) none ∙ append-nil (lines_text heard.lines)) ends number count

  pub end_heard : (line pending : List ℕ) (left : Option (List ℕ)) (a' : Auditor) → Holds schemes a' heard.lines heard.place → FindsEnd behind pending left line → MayEnd heard.place → HeardAll schemes a' input (prepend_known pending left)
  end_heard line pending left a' holds f ends =
      let at = ended_at line pending left f in
      record {
        heard = record { lines = heard.lines; place = heard.place; holds = holds; taken = at.0 };
        ends = ends;
        at_end = at.1;
      }

  pub line_heard : (line : List ℕ) (after : Option (List ℕ)) (a' : Auditor) → TakesLineTo Lf line_limit behind after line → AddsLine schemes heard.lines heard.place line (Ok tt) a' → Heard schemes a' input after × (a'.lines ≡ a.lines + 1)
  line_heard line after a' t b =
      let holds = b.1 in
      let before = heard.holds in (
        record {
          lines = heard.lines ++ line ∷ [];
          place = b.0;
          holds = b.1;
          taken = subst (Consumes input after) (sym (text_more heard.lines line ∙ ap (λ k. lines_text heard.lines ++ (k ++ 10 ∷ [])) t.line_is))
              (Consumes-trans input behind after (lines_text heard.lines) (t.raw ++ 10 ∷ []) heard.taken t.consumed);
        },
        omega (arith, holds.lines_are, before.lines_are, length-append heard.lines (line ∷ [])),
      )

  pub few_heard : a.lines ≤ most_lines
  few_heard = let holds = heard.holds in omega (arith, holds.lines_are, holds.few)

pub all_audited : (schemes : Schemes) (a : Auditor) (input behind : Option (List ℕ)) → HeardAll schemes a input behind → (audited : Audited) → audited.events ≡ a.events → audited.starts ≡ a.starts → (text : List ℕ) → input ≡ Some text → IsChainAudited schemes text audited
all_audited schemes a input behind all audited events starts text is =
    let heard = all.heard in
    let holds = heard.holds in
    let s = split_known text behind (lines_text heard.lines) (subst (λ (i : Option (List ℕ)). Consumes i behind (lines_text heard.lines)) is heard.taken) in
    let none : s.0 ≡ [] = subst IsAtEnd s.1 all.at_end in
    let chain = ends_are_chains heard.lines heard.place holds.runs all.ends in
    let first = chain.0 in
    let later = chain.1.0 in
    let lines = chain.1.1.1 in
    record {
      first = first;
      later = later;
      chain = chain.1.1.0;
      few = subst (λ (ls : List (List ℕ)). length ls ≤ most_lines) (sym lines) holds.few;
      among = subst (λ (ls : List (List ℕ)). All (IsAmong schemes) ls) (sym lines) holds.among;
      text_is = s.2 ∙ ap (λ k. lines_text heard.lines ++ k) none ∙ append-nil (lines_text heard.lines) ∙ ap lines_text (sym lines);
      events_are = events ∙ holds.events_are ∙ ap (λ ls. length (filter is_entry_line ls)) (sym lines) ∙ entries_of_chain first later;
      starts_are = starts ∙ holds.starts_are ∙ ap (λ ls. length (filter is_start_line ls)) (sym lines) ∙ starts_of_chain first later;
    }

pub heard_start : (schemes : Schemes) (a : Auditor) (left : Option (List ℕ)) (pending : List ℕ) → a.schemes ≡ schemes → pending ≡ [] → a.stage ≡ stages.Start → a.version ≡ One → a.count ≡ 0 → TellsAll a.open_state (from empty_base) → a.open_state.numbers.rising ≡ false →
    a.events ≡ 0 → a.starts ≡ 0 → a.lines ≡ 0 → IsLegal (from empty_base) → Heard schemes a left (prepend_known pending left)
heard_start schemes a left pending same none stage version count tells any events starts lines legal = record {
  lines = [];
  place = start;
  holds = record {
    schemes_are = same;
    runs = refl;
    stands = (stage, record { version_is = version; rising_is = any; count_is = count; tells = tells; legal = legal });
    lines_are = lines;
    few = omega arith;
    among = All-nil (IsAmong schemes);
    events_are = events;
    starts_are = starts;
  };
  taken = begun left;
}
  where
    begun : (l : Option (List ℕ)) → Consumes l (prepend_known pending l) []
    begun None = tt
    begun (Some xs) = ap (λ k. k ++ xs) (sym none)
