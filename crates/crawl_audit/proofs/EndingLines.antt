-- Lines that end what is open, taken after those that an auditor read.
-- Used by `ending`.
use Rattle.std.proofs.Common.{◌≡◌, ℕ, ◌+◌, ◌<◌, Bool, true≢false, All, List, [], ◌∷◌, ◌++◌, Ok, Err, drop, get_or, inl, inr, length, map, take, refl, sym, ap, subst, ◌∙◌, arith, append_assoc, append-nil, length-append}
use Rattle.std.proofs.lemmas.List.{drop_more, length-map, map-append, take-append-drop, take_more}
use Rattle.std.proofs.lemmas.List.Concat.{flat_map-append}
use Rattle.std.proofs.lemmas.List.Elements.{All-append, All-cons, All-head, All-nil}
use Rattle.permit_book.specs.declared.granted_permit.GrantedPermit.{GrantedPermit}
use Rattle.path_normal.specs.declared.schemes.Schemes.{Schemes}
use Rattle.authority_cache.specs.declared.turn.Turn.{Turn}
use Rattle.gate_history.specs.declared.entry.Entry.{Entry}
use Rattle.gate_history.specs.declared.entry.Entry.TheVariants.{Arrived, AskDenied, Begun, Finished, Granted, Returned, StartDenied, Started, Swept}
use Rattle.gate_history.specs.Base.{Base}
use Rattle.gate_history.specs.History.{History, ◌▸◌, entry_count, followed_by}
use Rattle.gate_history.specs.Legal.{MayFollow, Rises}
use Rattle.gate_history.proofs.CallerLemmas.{followed_count, followed_push}
use Rattle.crawl_audit.specs.declared.auditor.Auditor.{Auditor}
use Rattle.crawl_audit.specs.declared.fault.AuditFault.TheVariants.{BadLine}
use Rattle.crawl_audit.specs.declared.record.Record.{Record}
use Rattle.crawl_audit.specs.declared.recover_fault.RecoverFault.{RecoverFault}
use Rattle.crawl_audit.specs.declared.recover_fault.RecoverFault.TheVariants as faults
use Rattle.history_text.specs.declared.version.Version.{Version}
use Rattle.history_text.specs.declared.version.Version.TheVariants.{One, Two}
use Rattle.crawl_audit.specs.Audit.{AddsLine, Holds, is_entry_line}
use Rattle.crawl_audit.specs.ChainAudit.{IsAmong}
use Rattle.crawl_audit.specs.Ending.{AllFollow, EndsAll, EndsOne, HaveRoom, IsEnding, RefusesEnds, TakesEnds, ends_of, finish, give_back, lines_of, unanswered}
use Rattle.history_text.specs.Entries.{HasFields, HasLife, IsEntry}
use Rattle.crawl_audit.specs.Records.{entry_of}
use Rattle.history_text.specs.Spell.{entry_line}
use Rattle.history_text.specs.SpellBase.{ended, lines_text}
use Rattle.crawl_audit.specs.Steps.{Place, Runs, Steps, among, start}
use Rattle.crawl_audit.proofs.CountedLines.{all_behind, entry_counted}
use Rattle.crawl_audit.proofs.Spelling.{one_entry}
use Rattle.crawl_audit.proofs.Stepping.{one_run, run_front}

-- ---- the entries

pub ends_more : {X : Type 0} (f : X → Entry) (ps : List X) (i : ℕ) (d : X) → i < length ps → (olds news more : List Record) (r : Record) → more ≡ news ++ r ∷ [] → entry_of r ≡ f (get_or ps i d) →
    map entry_of news ≡ map entry_of olds ++ map f (take i ps) → map entry_of more ≡ map entry_of olds ++ map f (take (i + 1) ps)
ends_more f ps i d within olds news more r pushed is so_far =
    ap (map entry_of) pushed ∙ map-append entry_of news (r ∷ []) ∙ ap (λ es. es ++ entry_of r ∷ []) so_far
    ∙ append_assoc (map entry_of olds) (map f (take i ps)) (entry_of r ∷ [])
    ∙ ap (λ es. map entry_of olds ++ es) (ap (λ e. map f (take i ps) ++ e ∷ []) is ∙ sym (ap (map f) (take_more ps i d within) ∙ map-append f (take i ps) (get_or ps i d ∷ [])))

all_give : (ps : List GrantedPermit) → All IsEnding (map give_back ps)
all_give [] = All-nil IsEnding
all_give (p ∷ ps) = All-cons IsEnding (give_back p) (map give_back ps) tt (all_give ps)

all_finish : (ps : List GrantedPermit) → All IsEnding (map finish ps)
all_finish [] = All-nil IsEnding
all_finish (p ∷ ps) = All-cons IsEnding (finish p) (map finish ps) tt (all_finish ps)

all_answer : (moment : ℕ) (ts : List Turn) → All IsEnding (map (unanswered moment) ts)
all_answer moment [] = All-nil IsEnding
all_answer moment (t ∷ ts) = All-cons IsEnding (unanswered moment t) (map (unanswered moment) ts) (refl, refl) (all_answer moment ts)

pub all_end : (b : Base) → All IsEnding (ends_of b)
all_end b =
    All-append IsEnding (map give_back b.unspent) (map finish b.running ++ map (unanswered b.moment) b.in_flight) (all_give b.unspent)
    (All-append IsEnding (map finish b.running) (map (unanswered b.moment) b.in_flight) (all_finish b.running) (all_answer b.moment b.in_flight))

lasts : (version : Version) (e : Entry) → IsEnding e → HasLife version e
lasts One (Arrived life moment authority turn says) is = is.0
lasts Two (Arrived life moment authority turn says) is = is.1
lasts version (Returned number) is = tt
lasts version (Finished number) is = tt
lasts version (Begun _ _ _) is = absurd is
lasts version (Granted _ _ _) is = absurd is
lasts version (AskDenied _ _ _) is = absurd is
lasts version (Started _ _ _) is = absurd is
lasts version (StartDenied _ _ _) is = absurd is
lasts version (Swept _ _) is = absurd is

rises : (h : History) (e : Entry) → IsEnding e → Rises h e
rises h (Arrived life moment authority turn says) is = tt
rises h (Returned number) is = tt
rises h (Finished number) is = tt
rises h (Begun _ _ _) is = absurd is
rises h (Granted _ _ _) is = absurd is
rises h (AskDenied _ _ _) is = absurd is
rises h (Started _ _ _) is = absurd is
rises h (StartDenied _ _ _) is = absurd is
rises h (Swept _ _) is = absurd is

-- ---- one line

module _ (schemes : Schemes) (lines : List (List ℕ)) (version : Version) (rising : Bool) (h : History) (count : ℕ) (a a' : Auditor) (e : Entry)
    (holds : Holds schemes a lines (among version rising h count)) (is : IsEnding e) (fields : HasFields e) where
  spelled : IsEntry version e
  spelled = record { fields = fields; life = lasts version e is }

  leads : (next : Place) → Steps (among version rising h count) (entry_line version e) next → next ≡ among version rising (h ▸ e) (count + 1)
  leads next (inl head) = absurd (true≢false (sym (entry_counted version e) ∙ ap is_entry_line head.line_is))
  leads next (inr takes) =
      takes.next_is ∙ ap (λ d. among version rising (h ▸ d) (count + 1)) (one_entry version takes.entry e takes.spelled spelled (sym takes.line_is))

  pub took_one : AddsLine schemes lines (among version rising h count) (entry_line version e) (Ok tt) a' →
      Holds schemes a' (lines ++ entry_line version e ∷ []) (among version rising (h ▸ e) (count + 1))
  took_one adds =
      let after = adds.1 in
      let cut = run_front start adds.0 lines (entry_line version e ∷ []) after.runs in
      let same = one_run start cut.0 (among version rising h count) lines cut.1.0 holds.runs in
      let last = subst (λ (q : Place). Runs q (entry_line version e ∷ []) adds.0) same cut.1.1 in
      let step = subst (λ (q : Place). Steps (among version rising h count) (entry_line version e) q) (sym last.1.1) last.1.0 in
      subst (λ (q : Place). Holds schemes a' (lines ++ entry_line version e ∷ []) q) (leads adds.0 step) adds.1

  pub refused_one : (number : ℕ) → AddsLine schemes lines (among version rising h count) (entry_line version e) (Err (BadLine number)) a' →
      (number ≡ length lines + 1) × (MayFollow h e → HaveRoom schemes (length lines) count (entry_count h) (entry_line version e ∷ []) → ⊥)
  refused_one number adds = (
    adds.0,
    λ may room.
        adds.1 (let fit = room.lines_fit in omega (arith, fit)) (All-head (IsAmong schemes) (entry_line version e) [] room.among) (among version rising (h ▸ e) (count + 1))
        (inr (record {
          entry = e;
          spelled = spelled;
          may = record { fit = may; rises = λ _. rises h e is };
          room = let fit = room.text_fits in omega (arith, fit);
          counted = let fit = room.entries_fit in omega (arith, fit);
          line_is = refl;
          next_is = refl;
        })),
  )

-- ---- several lines

pub parts : (ends : List Record) (i : ℕ) (d : Record) → i < length ends →
    map entry_of ends ≡ map entry_of (take i ends) ++ entry_of (get_or ends i d) ∷ map entry_of (drop (i + 1) ends)
parts ends i d within =
    ap (map entry_of) (sym (take-append-drop i ends) ∙ ap (λ rest. take i ends ++ rest) (drop_more ends i d within))
    ∙ map-append entry_of (take i ends) (get_or ends i d ∷ drop (i + 1) ends)

pub front_more : (ends : List Record) (i : ℕ) (d : Record) → i < length ends →
    map entry_of (take (i + 1) ends) ≡ map entry_of (take i ends) ++ entry_of (get_or ends i d) ∷ []
front_more ends i d within = ap (map entry_of) (take_more ends i d within) ∙ map-append entry_of (take i ends) (get_or ends i d ∷ [])

follows_at : (h : History) (ds : List Entry) (e : Entry) (later : List Entry) → AllFollow h (ds ++ e ∷ later) → MayFollow (followed_by h ds) e
follows_at h [] e later all = all.0
follows_at h (d ∷ ds) e later all = follows_at (h ▸ d) ds e later all.1

module _ (schemes : Schemes) (lines : List (List ℕ)) (version : Version) (rising : Bool) (h : History) (count : ℕ) (ds : List Entry) where
  pub takes_more : (e : Entry) (text more : List ℕ) (a a' : Auditor) → TakesEnds schemes lines version rising h count ds text a →
      Holds schemes a' ((lines ++ lines_of version ds) ++ entry_line version e ∷ []) (among version rising (followed_by h ds ▸ e) (count + length ds + 1)) → more ≡ text ++ ended (entry_line version e) →
      TakesEnds schemes lines version rising h count (ds ++ e ∷ []) more a'
  takes_more e text more a a' taken holds pushed =
      let line = entry_line version e in
      let each : lines_of version (ds ++ e ∷ []) ≡ lines_of version ds ++ line ∷ [] = map-append (entry_line version) ds (e ∷ []) in
      let all : (lines ++ lines_of version ds) ++ line ∷ [] ≡ lines ++ lines_of version (ds ++ e ∷ []) = append_assoc lines (lines_of version ds) (line ∷ []) ∙ ap (λ ls. lines ++ ls) (sym each) in
      let many : count + length ds + 1 ≡ count + length (ds ++ e ∷ []) = omega (arith, length-append ds (e ∷ [])) in
      record {
        holds = subst (λ (n : ℕ). Holds schemes a' (lines ++ lines_of version (ds ++ e ∷ [])) (among version rising (followed_by h (ds ++ e ∷ [])) n)) many
            (subst (λ (g : History). Holds schemes a' (lines ++ lines_of version (ds ++ e ∷ [])) (among version rising g (count + length ds + 1))) (sym (followed_push h ds e))
            (subst (λ (ls : List (List ℕ)). Holds schemes a' ls (among version rising (followed_by h ds ▸ e) (count + length ds + 1))) all holds));
        text_is = pushed ∙ ap (λ t. t ++ ended line) taken.text_is ∙ sym (ap lines_text each ∙ flat_map-append ended (lines_of version ds) (line ∷ [])
            ∙ ap (λ t. lines_text (lines_of version ds) ++ t) (append-nil (ended line)));
      }

  pub refuses_at : (e : Entry) (later : List Entry) (number : ℕ) → number ≡ length (lines ++ lines_of version ds) + 1 →
      (MayFollow (followed_by h ds) e → HaveRoom schemes (length (lines ++ lines_of version ds)) (count + length ds) (entry_count (followed_by h ds)) (entry_line version e ∷ []) → ⊥) →
      RefusesEnds schemes lines version h count (ds ++ e ∷ later) number
  refuses_at e later number is lacks =
      let line = entry_line version e in
      let before : length (lines ++ lines_of version ds) ≡ length lines + length ds = omega (arith, length-append lines (lines_of version ds), length-map ds (entry_line version)) in
      let whole : length (ds ++ e ∷ later) ≡ length ds + 1 + length later = omega (arith, length-append ds (e ∷ later)) in
      let spelled : length (lines_of version (ds ++ e ∷ later)) ≡ length ds + 1 + length later = omega (arith, whole, length-map (ds ++ e ∷ later) (entry_line version)) in
      record {
        above = omega (arith, is, before);
        within = omega (arith, is, before, whole);
        lacks = λ follow room.
            let l = room.lines_fit in
            let t = room.text_fits in
            let n = room.entries_fit in
            lacks (follows_at h ds e later follow) (record {
              lines_fit = omega (arith, l, before, spelled);
              text_fits = omega (arith, t, spelled);
              entries_fit = omega (arith, n, spelled, followed_count h ds);
              among = All-cons (IsAmong schemes) line []
                  (All-head (IsAmong schemes) line (lines_of version later)
                  (all_behind (IsAmong schemes) (lines_of version ds) (line ∷ lines_of version later)
                  (subst (All (IsAmong schemes)) (map-append (entry_line version) ds (e ∷ later)) room.among)))
                  (All-nil (IsAmong schemes));
            });
      }

pub refuses_one : (schemes : Schemes) (lines : List (List ℕ)) (version : Version) (rising : Bool) (h : History) (count : ℕ) (ds : List Entry) (e : Entry) (later : List Entry) (fault : RecoverFault) (a : Auditor) →
    EndsOne schemes (lines ++ lines_of version ds) version rising (followed_by h ds) (count + length ds) e (Err fault) a → EndsAll schemes lines version rising h count (ds ++ e ∷ later) (Err fault) a
refuses_one schemes lines version rising h count ds e later (faults.NoRoom number) a stops = refuses_at schemes lines version rising h count ds e later number stops.0 stops.1
refuses_one schemes lines version rising h count ds e later faults.NoMemory a stops = tt
refuses_one schemes lines version rising h count ds e later (faults.BadLine number) a stops = stops
refuses_one schemes lines version rising h count ds e later (faults.NoEntries number) a stops = stops
refuses_one schemes lines version rising h count ds e later faults.Read a stops = stops
