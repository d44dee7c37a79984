-- Where each line that may come leads an auditor.
-- Used by the calls of the auditor.
use Rattle.std.proofs.Common.{◌≡◌, ◌≢◌, ℕ, ◌+◌, ◌<◌, Bool, true, false, codes, cond, List, [], ◌∷◌, ◌++◌, Some, None, Ok, Err, inl, inr, refl, sym, ap, subst, ◌∙◌, arith, append_assoc}
use Rattle.std.specs.Prelude.{Option, Result}
use Rattle.robots_verdict.specs.declared.said.Said.TheVariants as says
use Rattle.gate_history.specs.declared.entry.Entry.{Entry}
use Rattle.gate_history.specs.Base.{Base, empty_base, IsBase}
use Rattle.gate_history.specs.History.{History, ◌▸◌, from, is_start}
use Rattle.gate_history.specs.Legal.{IsLegal}
use Rattle.gate_core.specs.Limits.{greatest_number, most_entries}
use Rattle.crawl_audit.specs.declared.auditor.Auditor.{Auditor}
use Rattle.crawl_audit.specs.declared.auditor.AuditState.TheVariants as stages
use Rattle.crawl_audit.specs.declared.first_base.FirstBase.{FirstBase}
use Rattle.crawl_audit.specs.declared.open_state.OpenState.{OpenState}
use Rattle.crawl_audit.specs.declared.next_base.BaseLine.TheVariants.{Last, Taken}
use Rattle.crawl_audit.specs.declared.next_base.NextBase.{NextBase}
use Rattle.crawl_audit.specs.declared.unread_line.UnreadLine.{UnreadLine}
use Rattle.crawl_audit.specs.declared.unread_line.UnreadLine.TheVariants as unread
use Rattle.history_text.specs.declared.version.Version.{Version}
use Rattle.history_text.specs.declared.version.Version.TheVariants.{One, Two}
use Rattle.crawl_audit.specs.Audit.{AreEntries, CountsLine, EntersLine, EntersOne, GoesTo, is_entry_line, is_start_line, Moves, StandsAt}
use Rattle.crawl_audit.specs.Chains.{most_lines}
use Rattle.history_text.specs.Entries.{IsEntry}
use Rattle.crawl_audit.specs.FirstBase.{Reads, TakesBaseLine}
use Rattle.history_text.specs.Spell.{entry_line}
use Rattle.crawl_audit.specs.Loading.{risen, with_numbers}
use Rattle.crawl_audit.specs.NextBase.{Expects, TakesNextLine}
use Rattle.history_text.specs.SpellBase.{base_lines}
use Rattle.crawl_audit.specs.Steps.{among, inside, IsBaseFor, Place, start, Steps, TakesEntry, TakesLine}
use Rattle.crawl_audit.specs.Tables.{EntersAll, EntersLegally, MayCome, TellsAll}
use Rattle.crawl_audit.proofs.CountedLines.{entry_counted, in_base, IsUncounted, start_counted}
use Rattle.crawl_audit.proofs.NextSaying.{risen_alike}
use Rattle.crawl_audit.proofs.Spelling.{one_entry}

-- ---- the auditor's place

-- only the reader and the counts of all texts changed, so the place is the same
pub stands_still : (a a' : Auditor) (place : Place) → a'.stage ≡ a.stage → a'.open_state ≡ a.open_state → a'.version ≡ a.version → a'.count ≡ a.count → StandsAt a place → StandsAt a' place
stands_still a a' start stage open_state version count s = (stage ∙ s.0, entries s.1)
  where
    entries : AreEntries a One false (from empty_base) 0 → AreEntries a' One false (from empty_base) 0
    entries e = record {
      version_is = version ∙ e.version_is;
      rising_is = ap (λ l. l.numbers.rising) open_state ∙ e.rising_is;
      count_is = count ∙ e.count_is;
      tells = subst (λ (l : OpenState). TellsAll l (from empty_base)) (sym open_state) e.tells;
      legal = e.legal;
    }
stands_still a a' (among v r h n) stage open_state version count s = (stage ∙ s.0, entries s.1)
  where
    entries : AreEntries a v r h n → AreEntries a' v r h n
    entries e = record {
      version_is = version ∙ e.version_is;
      rising_is = ap (λ l. l.numbers.rising) open_state ∙ e.rising_is;
      count_is = count ∙ e.count_is;
      tells = subst (λ (l : OpenState). TellsAll l h) (sym open_state) e.tells;
      legal = e.legal;
    }
stands_still a a' (inside None lines) stage open_state version count s =
    record { first = s.first; stage = stage ∙ s.stage; reads = subst (λ (l : OpenState). Reads s.first l lines) (sym open_state) s.reads }
stands_still a a' (inside (Some h) lines) stage open_state version count s =
    record { next = s.next; stage = stage ∙ s.stage; expects = s.expects; tells = subst (λ (l : OpenState). TellsAll l h) (sym open_state) s.tells; legal = s.legal }

-- ---- entries

pub enters_one : (a a' : Auditor) (v : Version) (rising : Bool) (h : History) (n : ℕ) (line : List ℕ) (e : Entry) → AreEntries a v rising h n → IsEntry a.version e → line ≡ entry_line a.version e →
    MayCome a.open_state.numbers.rising h e → EntersAll a.open_state.numbers.rising (h ▸ e) a'.open_state → a.count < most_entries → a.open_state.entries < greatest_number → a'.stage ≡ stages.Entries → a'.version ≡ a.version → a'.count ≡ a.count + 1 →
    (a.events < most_lines → a'.events ≡ a.events + 1) → (a.starts < most_lines → a'.starts ≡ cond (is_start e) (a.starts + 1) a.starts) → EntersOne v rising h n line a a'
enters_one a a' v rising h n line e are is spelled may enters room counted stage same more events starts =
    let all = enters.tells in
    let before = are.tells in
    record {
      next = among v rising (h ▸ e) (n + 1);
      takes = record {
        entry = e;
        spelled = subst (λ (w : Version). IsEntry w e) are.version_is is;
        may = subst (λ (r : Bool). MayCome r h e) are.rising_is may;
        room = omega (arith, room, are.count_is);
        counted = omega (arith, counted, before.entries_are);
        line_is = spelled ∙ ap (λ w. entry_line w e) are.version_is;
        next_is = refl;
      };
      stands = (
        stage,
        record {
          version_is = same ∙ are.version_is;
          rising_is = enters.still ∙ are.rising_is;
          count_is = more ∙ ap (λ k. k + 1) are.count_is;
          tells = enters.tells;
          legal = (are.legal, may.fit);
        },
      );
      counts = record {
        events = λ few. events few ∙ ap (λ b. cond b (a.events + 1) a.events) (sym (ap is_entry_line spelled ∙ entry_counted a.version e));
        starts = λ few. starts few ∙ ap (λ b. cond b (a.starts + 1) a.starts) (sym (ap is_start_line spelled ∙ start_counted a.version e));
      };
    }

pub other_entry : (a : Auditor) (v : Version) (rising : Bool) (h : History) (n : ℕ) (line : List ℕ) (d : Entry) → AreEntries a v rising h n → IsEntry a.version d → line ≡ entry_line a.version d →
    (MayCome a.open_state.numbers.rising h d → ⊥) → (next : Place) → TakesEntry v rising h n line next → ⊥
other_entry a v rising h n line d are is spelled unfit next takes =
    let is' = subst (λ (w : Version). IsEntry w d) are.version_is is in
    let same = one_entry v takes.entry d takes.spelled is' (sym takes.line_is ∙ spelled ∙ ap (λ w. entry_line w d) are.version_is) in
    unfit (subst (λ (r : Bool). MayCome r h d) (sym are.rising_is) (subst (MayCome rising h) same takes.may))

-- the line of an entry that was refused leads nowhere, unless memory was refused
pub refused_entry : (a : Auditor) (v : Version) (rising : Bool) (h : History) (n : ℕ) (line : List ℕ) (d : Entry) → AreEntries a v rising h n → IsEntry a.version d → line ≡ entry_line a.version d →
    (r : Result (Unit {0}) UnreadLine) (cause : UnreadLine) → r ≡ Err cause → (entered : OpenState) (new : Auditor) → EntersLegally a.open_state h d (Err cause) entered → EntersLine v rising h n line a r new
refused_entry a v rising h n line d are is spelled r cause same entered new legal =
    subst (λ r. EntersLine v rising h n line a r new) (sym same) (by_cause cause legal)
  where
    by_cause : (cause : UnreadLine) → EntersLegally a.open_state h d (Err cause) entered → EntersLine v rising h n line a (Err cause) new
    by_cause unread.NotOne unfit = other_entry a v rising h n line d are is spelled unfit
    by_cause unread.NoMemory legal = tt

-- ---- heads

pub counts_none : (a a' : Auditor) (line : List ℕ) → IsUncounted line → a'.events ≡ a.events → a'.starts ≡ a.starts → CountsLine a line a'
counts_none a a' line is events starts = record {
  events = λ few. events ∙ ap (λ b. cond b (a.events + 1) a.events) (sym is.entry);
  starts = λ few. starts ∙ ap (λ b. cond b (a.starts + 1) a.starts) (sym is.start);
}

module _ (a a' : Auditor) (line : List ℕ) (open_state : a'.open_state ≡ a.open_state) (events : a'.events ≡ a.events) (starts : a'.starts ≡ a.starts) where
  pub takes_two : AreEntries a One false (from empty_base) 0 → line ≡ codes "V 2" → a'.stage ≡ stages.Entries → a'.version ≡ Two → a'.count ≡ a.count → GoesTo start line a a'
  takes_two are is stage version count = record {
    next = among Two false (from empty_base) 0;
    steps = inl (record { line_is = is; next_is = refl });
    stands = (
      stage,
      record {
        version_is = version;
        rising_is = ap (λ l. l.numbers.rising) open_state ∙ are.rising_is;
        count_is = count ∙ are.count_is;
        tells = subst (λ (l : OpenState). TellsAll l (from empty_base)) (sym open_state) are.tells;
        legal = are.legal;
      },
    );
    counts = counts_none a a' line (subst IsUncounted (sym is) (record { entry = refl; start = refl })) events starts;
  }

  third : line ≡ codes "V 3" → CountsLine a line a'
  third is = counts_none a a' line (subst IsUncounted (sym is) (record { entry = refl; start = refl })) events starts

  pub takes_three : (first : FirstBase) → line ≡ codes "V 3" → a'.stage ≡ stages.First first → Reads first a.open_state (codes "V 3" ∷ []) → GoesTo start line a a'
  takes_three first is stage reads = record {
    next = inside None (codes "V 3" ∷ []);
    steps = inr (inl (record { line_is = is; next_is = refl }));
    stands = record { first = first; stage = stage; reads = subst (λ (l : OpenState). Reads first l (codes "V 3" ∷ [])) (sym open_state) reads };
    counts = third is;
  }

  pub takes_further : (v : Version) (rising : Bool) (h : History) (n : ℕ) (next : NextBase) → AreEntries a v rising h n → line ≡ codes "V 3" → a'.stage ≡ stages.Further next → Expects next h (codes "V 3" ∷ []) →
      GoesTo (among v rising h n) line a a'
  takes_further v rising h n next are is stage expects = record {
    next = inside (Some h) (codes "V 3" ∷ []);
    steps = inl (record { line_is = is; next_is = refl });
    stands = record { next = next; stage = stage; expects = expects; tells = subst (λ (l : OpenState). TellsAll l h) (sym open_state) are.tells; legal = are.legal };
    counts = third is;
  }

pub moves_start : (a a' : Auditor) (line : List ℕ) (r : Result (Unit {0}) UnreadLine) → line ≢ codes "V 2" → line ≢ codes "V 3" → EntersLine One false (from empty_base) 0 line a r a' → Moves start line a r a'
moves_start a a' line (Ok u) two three enters = record { next = enters.next; steps = inr (inr enters.takes); stands = enters.stands; counts = enters.counts }
moves_start a a' line (Err unread.NotOne) two three enters = none
  where
    none : (next : Place) → Steps start line next → ⊥
    none next (inl head) = two head.line_is
    none next (inr (inl head)) = three head.line_is
    none next (inr (inr takes)) = enters next takes
moves_start a a' line (Err unread.NoMemory) two three enters = tt

pub moves_among : (v : Version) (rising : Bool) (h : History) (n : ℕ) (a a' : Auditor) (line : List ℕ) (r : Result (Unit {0}) UnreadLine) → line ≢ codes "V 3" → EntersLine v rising h n line a r a' → Moves (among v rising h n) line a r a'
moves_among v rising h n a a' line (Ok u) three enters = record { next = enters.next; steps = inr enters.takes; stands = enters.stands; counts = enters.counts }
moves_among v rising h n a a' line (Err unread.NotOne) three enters = none
  where
    none : (next : Place) → Steps (among v rising h n) line next → ⊥
    none next (inl head) = three head.line_is
    none next (inr takes) = enters next takes
moves_among v rising h n a a' line (Err unread.NoMemory) three enters = tt

-- ---- bases

pub base_ends : (after : Option History) (lines : List (List ℕ)) (line : List ℕ) (b : Base) (a a' : Auditor) → IsBaseFor after b → base_lines b ≡ lines ++ line ∷ [] → TellsAll a'.open_state (from b) → IsBase b → a'.open_state.numbers.rising ≡ true →
    a'.version ≡ Two → a'.stage ≡ stages.Entries → a'.count ≡ 0 → a'.events ≡ a.events → a'.starts ≡ a.starts → GoesTo (inside after lines) line a a'
base_ends after lines line b a a' is lines_are tells base rising version stage count events starts = record {
  next = among Two true (from b) 0;
  steps = inr (record { base = b; is_base = is; lines_are = lines_are; next_is = refl });
  stands = (stage, record { version_is = version; rising_is = rising; count_is = count; tells = tells; legal = base });
  counts = counts_none a a' line (in_base b lines [] line lines_are) events starts;
}

pub in_taken : (after : Option History) (lines : List (List ℕ)) (line : List ℕ) (next : Place) → TakesLine after lines line next → IsUncounted line
in_taken after lines line next takes =
    in_base takes.base lines (takes.following ∷ takes.later) line (takes.lines_are ∙ append_assoc lines (line ∷ []) (takes.following ∷ takes.later))

-- ---- steps

pub step_entries : (a a' : Auditor) (line : List ℕ) (r : Result (Unit {0}) UnreadLine) → a.stage ≡ stages.Entries → ((v : Version) (rising : Bool) (h : History) (n : ℕ) → AreEntries a v rising h n → Moves (among v rising h n) line a r a') →
    (place : Place) → StandsAt a place → Moves place line a r a'
step_entries a a' line r stage go start s = absurd (clash (sym stage ∙ s.0))
  where
    clash : stages.Entries ≡ stages.Start → ⊥
    clash e = cc
step_entries a a' line r stage go (among v rising h n) s = go v rising h n s.1
step_entries a a' line r stage go (inside None lines) s = absurd (clash s.first (sym stage ∙ s.stage))
  where
    clash : (first : FirstBase) → stages.Entries ≡ stages.First first → ⊥
    clash first e = cc
step_entries a a' line r stage go (inside (Some h) lines) s = absurd (clash s.next (sym stage ∙ s.stage))
  where
    clash : (next : NextBase) → stages.Entries ≡ stages.Further next → ⊥
    clash next e = cc

-- within the base of a first text
module _ (a : Auditor) (first : FirstBase) (stage : a.stage ≡ stages.First first) where
  in_first : (P : Place → Type 0) → ((lines : List (List ℕ)) → Reads first a.open_state lines → P (inside None lines)) → (place : Place) → StandsAt a place → P place
  in_first P go start s = absurd (clash (sym stage ∙ s.0))
    where
      clash : stages.First first ≡ stages.Start → ⊥
      clash e = cc
  in_first P go (among v rising h n) s = absurd (clash (sym stage ∙ s.0))
    where
      clash : stages.First first ≡ stages.Entries → ⊥
      clash e = cc
  in_first P go (inside None lines) s = go lines (subst (λ (f : FirstBase). Reads f a.open_state lines) (same s.first (sym s.stage ∙ stage)) s.reads)
    where
      same : (f : FirstBase) → stages.First f ≡ stages.First first → f ≡ first
      same f e = cc
  in_first P go (inside (Some h) lines) s = absurd (clash s.next (sym stage ∙ s.stage))
    where
      clash : (next : NextBase) → stages.First first ≡ stages.Further next → ⊥
      clash next e = cc

  pub first_goes_on : (a' : Auditor) (line : List ℕ) (first' : FirstBase) → a'.stage ≡ stages.First first' → a'.events ≡ a.events → a'.starts ≡ a.starts →
      ((lines : List (List ℕ)) → Reads first a.open_state lines → TakesBaseLine lines line (Ok false) first' a'.open_state) → (place : Place) → StandsAt a place → GoesTo place line a a'
  first_goes_on a' line first' stage' events starts takes =
      in_first (λ place. GoesTo place line a a')
      (λ lines reads.
      let on = takes lines reads in
      record {
        next = inside None (lines ++ line ∷ []);
        steps = inl on.1;
        stands = record { first = first'; stage = stage'; reads = on.0 };
        counts = counts_none a a' line (in_taken None lines line _ on.1) events starts;
      })

  pub first_ends : (a' : Auditor) (line : List ℕ) (first' : FirstBase) → a'.stage ≡ stages.Entries → a'.version ≡ Two → a'.count ≡ 0 → a'.events ≡ a.events → a'.starts ≡ a.starts →
      ((lines : List (List ℕ)) → Reads first a.open_state lines → TakesBaseLine lines line (Ok true) first' a'.open_state) → (place : Place) → StandsAt a place → GoesTo place line a a'
  first_ends a' line first' stage' version count events starts takes =
      in_first (λ place. GoesTo place line a a')
      (λ lines reads.
      let read = takes lines reads in
      let text = read.is_base in
      base_ends None lines line read.base a a' read.is_base read.lines_are read.tells text.base read.rising version stage' count events starts)

  pub first_stops : (a' : Auditor) (line : List ℕ) (first' : FirstBase) (open_state' : OpenState) (u : UnreadLine) → ((lines : List (List ℕ)) → Reads first a.open_state lines → TakesBaseLine lines line (Err u) first' open_state') →
      (place : Place) → StandsAt a place → Moves place line a (Err u) a'
  first_stops a' line first' open_state' unread.NotOne takes = in_first (λ place. (next : Place) → Steps place line next → ⊥) (λ lines reads. takes lines reads)
  first_stops a' line first' open_state' unread.NoMemory takes = λ place s. tt

-- within that of a further text
module _ (a : Auditor) (next : NextBase) (stage : a.stage ≡ stages.Further next) where
  in_further : (P : Place → Type 0) → ((h : History) (lines : List (List ℕ)) → Expects next h lines → TellsAll a.open_state h → IsLegal h → P (inside (Some h) lines)) → (place : Place) → StandsAt a place → P place
  in_further P go start s = absurd (clash (sym stage ∙ s.0))
    where
      clash : stages.Further next ≡ stages.Start → ⊥
      clash e = cc
  in_further P go (among v rising h n) s = absurd (clash (sym stage ∙ s.0))
    where
      clash : stages.Further next ≡ stages.Entries → ⊥
      clash e = cc
  in_further P go (inside None lines) s = absurd (clash s.first (sym stage ∙ s.stage))
    where
      clash : (first : FirstBase) → stages.Further next ≡ stages.First first → ⊥
      clash first e = cc
  in_further P go (inside (Some h) lines) s = go h lines (subst (λ (n : NextBase). Expects n h lines) (same s.next (sym s.stage ∙ stage)) s.expects) s.tells s.legal
    where
      same : (n : NextBase) → stages.Further n ≡ stages.Further next → n ≡ next
      same n e = cc

  pub further_goes_on : (a' : Auditor) (line : List ℕ) (next' : NextBase) → a'.stage ≡ stages.Further next' → a'.open_state ≡ a.open_state → a'.events ≡ a.events → a'.starts ≡ a.starts →
      ((h : History) (lines : List (List ℕ)) → Expects next h lines → TakesNextLine h lines line Taken next') → (place : Place) → StandsAt a place → GoesTo place line a a'
  further_goes_on a' line next' stage' open_state events starts takes =
      in_further (λ place. GoesTo place line a a')
      (λ h lines expects tells legal.
      let on = takes h lines expects in
      record {
        next = inside (Some h) (lines ++ line ∷ []);
        steps = inl on.1;
        stands = record { next = next'; stage = stage'; expects = on.0; tells = subst (λ (l : OpenState). TellsAll l h) (sym open_state) tells; legal = legal };
        counts = counts_none a a' line (in_taken (Some h) lines line _ on.1) events starts;
      })

  pub further_ends : (a' : Auditor) (line : List ℕ) (next' : NextBase) → a'.stage ≡ stages.Entries → a'.open_state ≡ with_numbers a.open_state (risen a.open_state.numbers) → a'.version ≡ Two → a'.count ≡ 0 → a'.events ≡ a.events → a'.starts ≡ a.starts →
      ((h : History) (lines : List (List ℕ)) → Expects next h lines → TakesNextLine h lines line Last next') → (place : Place) → StandsAt a place → GoesTo place line a a'
  further_ends a' line next' stage' open_state version count events starts takes =
      in_further (λ place. GoesTo place line a a')
      (λ h lines expects tells legal.
      let whole = takes h lines expects in
      let text = whole.is_base in
      base_ends (Some h) lines line whole.base a a' (whole.is_base, whole.says) whole.lines_are
      (subst (λ (l : OpenState). TellsAll l (from whole.base)) (sym open_state) (risen_alike a.open_state h whole.base whole.says tells)) text.base (ap (λ l. l.numbers.rising) open_state) version stage' count events starts)
