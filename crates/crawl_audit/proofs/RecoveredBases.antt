-- The base made from the tables behind a text's whole lines, and behind those that end what was left open.
-- Used by `recovering`.
use Rattle.std.proofs.Common.{◌≡◌, ℕ, All, List, Some, Err, filter, length, map, refl, sym, ap, subst, ◌∙◌}
use Rattle.std.specs.Prelude.{Bool, Option}
use Rattle.path_normal.specs.declared.schemes.Schemes.{Schemes}
use Rattle.authority_cache.specs.declared.turn.Turn.{Turn}
use Rattle.gate_history.specs.declared.base.LeftOpen.{LeftOpen}
use Rattle.gate_history.specs.declared.base.Numbers.{Numbers as BaseNumbers}
use Rattle.gate_history.specs.Base.{Base, IsBase}
use Rattle.gate_history.specs.Grants.{IsSlotGrant}
use Rattle.gate_history.specs.History.{History, followed_by, from}
use Rattle.gate_history.specs.Kept.{base_with}
use Rattle.gate_history.specs.Legal.{IsLegal}
use Rattle.gate_history.specs.Order.{IsInOrder, Reorders}
use Rattle.gate_history.specs.Seal.{SaysAs}
use Rattle.gate_core.specs.Resuming.{CanGoOn}
use Rattle.gate_history.proofs.CallerLemmas.{reordering_says, says_base, says_on}
use Rattle.crawl_audit.specs.declared.auditor.Auditor.{Auditor}
use Rattle.crawl_audit.specs.declared.open_state.OpenState.{OpenState}
use Rattle.crawl_audit.specs.declared.recover_fault.RecoverFault.{RecoverFault}
use Rattle.crawl_audit.specs.declared.recover_fault.RecoverFault.TheVariants as faults
use Rattle.crawl_audit.specs.declared.recovering.Recovered.{Recovered}
use Rattle.history_text.specs.declared.version.Version.{Version}
use Rattle.crawl_audit.specs.declared.whole_lines.WholeLines.{WholeLines}
use Rattle.crawl_audit.specs.Audit.{Holds}
use Rattle.crawl_audit.specs.Ending.{EndsAll, HasBegun, IsEnding, TakesEnds, ends_of, lines_of}
use Rattle.crawl_audit.specs.NextBase.{TellsLeft}
use Rattle.crawl_audit.specs.Recovering.{HeardCut, IsRecovered, LeaveOpen, Recovers}
use Rattle.crawl_audit.specs.Steps.{Place, among, inside, start}
use Rattle.crawl_audit.specs.Tables.{TellsAll}
use Rattle.crawl_audit.proofs.EndedHistories.{IsIdle, ended, none_left}
use Rattle.crawl_audit.proofs.EndingLines.{all_end}
use Rattle.crawl_audit.proofs.NextSaying.{grants_fit, left_says}

-- ---- the base made from the tables

module _ (l : OpenState) (left : LeftOpen) (numbers : BaseNumbers) (lists : TellsLeft l left)
    (begun : numbers.begins ≡ l.begins) (moment : numbers.moment ≡ l.clock) (entries : numbers.entries ≡ l.entries) (started : numbers.started ≡ l.started) where
  pub fits_base : (h : History) → IsLegal h → TellsAll l h → IsBase (base_with left numbers)
  fits_base h legal all = says_base (base_with left numbers) h legal (left_says l left numbers lists begun moment entries started h all)

  pub made_says : (made : Base) → Reorders (base_with left numbers) made → (h : History) → IsLegal h → TellsAll l h → SaysAs (from made) h
  made_says made same h legal all =
      says_on (from made) (from (base_with left numbers)) h (reordering_says (base_with left numbers) made (fits_base h legal all) same)
      (left_says l left numbers lists begun moment entries started h all)

  pub fits_slots : (h : History) → TellsAll l h → All IsSlotGrant left.grants.items
  fits_slots h all =
      let table = all.tells.numbers_tell in
      grants_fit _ left.grants.items lists.slots table.slots_fit

-- ---- a base with nothing outstanding

idle_base : (base : Base) (h : History) (cache : OpenState) → SaysAs (from base) h → IsIdle h → TellsAll cache h → CanGoOn base cache.cache
idle_base base h l says idle all =
    let permits = says.permits in
    let runs = says.runs in
    let turns = says.turns in
    let answers = says.answers in
    let cache = all.tells.cache_tells in
    record {
      turns = none_left base.in_flight (λ test. turns.counts test ∙ ap (λ xs. length (filter test xs)) idle.turns);
      permits = none_left base.unspent (λ test. permits.counts test ∙ ap (λ xs. length (filter test xs)) idle.permits);
      runs = none_left base.running (λ test. runs.counts test ∙ ap (λ xs. length (filter test xs)) idle.runs);
      answers = record {
        answers_are = λ a. answers.each a ∙ cache.answers_are a;
        turns_are = λ a. turns.each a ∙ cache.turns_are a;
      };
    }

-- ---- behind the whole lines

at_entries : (P : Place → Type 0) → ((version : Version) (rising : Bool) (h : History) (count : ℕ) → P (among version rising h count)) → (place : Place) → HasBegun place → P place
at_entries P go start begun = absurd begun
at_entries P go (among version rising h count) begun = go version rising h count
at_entries P go (inside after lines) begun = absurd begun

-- a history that the open_state agrees with
abbrev pub Known : OpenState → Type 0
Known l = (h : History) × (IsLegal h × TellsAll l h)

pub known_before : (schemes : Schemes) (a : Auditor) (lines : List (List ℕ)) (place : Place) → HasBegun place → Holds schemes a lines place → Known a.open_state
known_before schemes a lines place begun =
    at_entries (λ place. Holds schemes a lines place → Known a.open_state)
    (λ version rising h count holds. let stands = holds.stands in let entries = stands.1 in (h, (entries.legal, entries.tells))) place begun

-- the auditor took the lines that end the base
abbrev pub Took : Auditor → Base → List ℕ → Auditor → Type 0
Took a left text a' =
    (schemes : Schemes) (lines : List (List ℕ)) (version : Version) (rising : Bool) (h : History) (count : ℕ) → Holds schemes a lines (among version rising h count)
    → All IsEnding (ends_of left) → TakesEnds schemes lines version rising h count (ends_of left) text a'

pub known_after : (schemes : Schemes) (a : Auditor) (lines : List (List ℕ)) (place : Place) → HasBegun place → (left : Base) (text : List ℕ) (a' : Auditor) → Took a left text a' → Holds schemes a lines place → Known a'.open_state
known_after schemes a lines place begun left text a' took =
    at_entries (λ place. Holds schemes a lines place → Known a'.open_state)
    (λ version rising h count holds.
    let taken = took schemes lines version rising h count holds (all_end left) in
    let after = taken.holds in
    let stands = after.stands in
    let entries = stands.1 in
    (followed_by h (ends_of left), (entries.legal, entries.tells))) place begun

-- the base describes, in order, each history that the open_state agrees with
pub record IsBaseOf (l : OpenState) (base : Base) : Type 0 where
  pub says : (h : History) → IsLegal h → TellsAll l h → SaysAs (from base) h
  pub is_base : IsBase base
  pub order : IsInOrder base

-- what comes of the text
abbrev pub Results : Schemes → Option (List ℕ) → Recovered → Type 0
Results schemes input found = (IsBase found.base × CanGoOn found.base found.cache) × ((text : List ℕ) → input ≡ Some text → IsRecovered schemes text found)

module _ (schemes : Schemes) (input : Option (List ℕ)) (w : WholeLines) (cut : HeardCut schemes w input) (begun : HasBegun cut.place) (left : Base) (left_of : IsBaseOf w.auditor.open_state left) where
  abbrev open_at : (version : Version) (rising : Bool) (h : History) (count : ℕ) → Holds schemes w.auditor cut.lines (among version rising h count) → LeaveOpen cut.lines
  open_at version rising h count holds =
      let stands = holds.stands in
      let entries = stands.1 in
      record {
        version = version;
        rising = rising;
        history = h;
        count = count;
        runs = holds.runs;
        left = left;
        is_base = left_of.is_base;
        order = left_of.order;
        says = left_of.says h entries.legal entries.tells;
      }

  pub results : (a' : Auditor) (found : Recovered) → Took w.auditor left found.ending.items a' → IsBaseOf a'.open_state found.base → found.cache ≡ a'.open_state.cache → found.whole ≡ w.octets →
      found.begun.items ≡ map (λ (t : Turn). t.authority) left.in_flight → Results schemes input found
  results a' found took base_of cached octets sites =
      at_entries (λ place. Holds schemes w.auditor cut.lines place → Results schemes input found)
      (λ version rising h count holds.
      let es = ends_of left in
      let stands = holds.stands in
      let entries = stands.1 in
      let done = ended left h left_of.is_base (left_of.says h entries.legal entries.tells) in
      let taken = took schemes cut.lines version rising h count holds (all_end left) in
      let after = taken.holds in
      let stands' = after.stands in
      let entries' = stands'.1 in
      let says' = base_of.says (followed_by h es) entries'.legal entries'.tells in
      let on = idle_base found.base (followed_by h es) a'.open_state says' done.1 entries'.tells in
      let here : CanGoOn found.base found.cache = subst (λ k. CanGoOn found.base k) (sym cached) on in (
        (base_of.is_base, here),
        λ text is. record {
          lines = cut.lines;
          cut = cut.cut text is;
          whole_is = octets ∙ cut.octets_are;
          behind = open_at version rising h count holds;
          begun_are = sites;
          ends = lines_of version es;
          ends_are = refl;
          ending_is = taken.text_is;
          runs = after.runs;
          few = after.few;
          among = after.among;
          leads = record { is_base = base_of.is_base; order = base_of.order; says = says'; answers = here.answers };
        },
      )) cut.place begun cut.holds

  pub refuses : (a' : Auditor) (fault : RecoverFault) →
      ((schemes : Schemes) (lines : List (List ℕ)) (version : Version) (rising : Bool) (h : History) (count : ℕ) → Holds schemes w.auditor lines (among version rising h count) → All IsEnding (ends_of left) →
      EndsAll schemes lines version rising h count (ends_of left) (Err fault) a') → Recovers schemes input (Err fault)
  refuses a' fault stops =
      at_entries (λ place. Holds schemes w.auditor cut.lines place → Recovers schemes input (Err fault))
      (λ version rising h count holds. by fault version rising h count holds (stops schemes cut.lines version rising h count holds (all_end left))) cut.place begun cut.holds
    where
      by : (f : RecoverFault) (version : Version) (rising : Bool) (h : History) (count : ℕ) → Holds schemes w.auditor cut.lines (among version rising h count) →
          EndsAll schemes cut.lines version rising h count (ends_of left) (Err f) a' → Recovers schemes input (Err f)
      by (faults.NoRoom number) version rising h count holds stops =
          let stands = holds.stands in
          let entries = stands.1 in
          let done = ended left h left_of.is_base (left_of.says h entries.legal entries.tells) in
          λ text is. record {
            lines = cut.lines;
            cut = cut.cut text is;
            behind = open_at version rising h count holds;
            lacks = stops.lacks done.0;
            above = stops.above;
            within = stops.within;
          }
      by faults.NoMemory version rising h count holds stops = λ text is. tt
      by (faults.BadLine number) version rising h count holds stops = absurd stops
      by (faults.NoEntries number) version rising h count holds stops = absurd stops
      by faults.Read version rising h count holds stops = absurd stops
