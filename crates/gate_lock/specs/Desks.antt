-- What contracts see of a desk and its unspent values, and what an entry does to it.
-- Cited by a desk's calls, workers, keepers of sessions and shifts.
use Rattle.std.specs.Prelude.{◌≡◌, ℕ, ◌+◌, ◌*◌, ◌≤◌, List, [], ◌∷◌, ◌++◌, length, map}
use Rattle.gate_history.specs.declared.entry.Entry.{Entry}
use Rattle.gate_history.specs.declared.entry.Entry.TheVariants.{Begun, Arrived, Granted, AskDenied, Started, StartDenied, Returned, Finished, Swept}
use Rattle.gate_history.specs.declared.outcome.Reason.{Reason}
use Rattle.gate_history.specs.History.{entry_count}
use Rattle.gate_core.specs.declared.config.Limits.{Limits}
use Rattle.gate_core.specs.Gate.{Gate, HasLegalHistory, history}
use Rattle.gate_marks.specs.declared.mark.Mark.{Mark}
use Rattle.gate_marks.specs.Marks.{AreSealed, Receipt, SealedView, mark_at, nothing_sealed, sealed_with, with_handed}
use Rattle.gate_ledgers.specs.Accounts.{AccountView}

-- a permit or a made fetch: number, token and URL, and the desk that must spend it
pub record Pass : Type 0 where
  pub number : ℕ
  pub token : List ℕ
  pub url : List ℕ
  pub desk : ℕ

-- a fetch that may be made, and why
pub record Run : Type 0 where
  pub pass : Pass
  pub reason : Reason

-- a turn to fetch a robots.txt, and the desk that must bring the answer
pub record Errand : Type 0 where
  pub authority : List ℕ
  pub turn : ℕ
  pub desk : ℕ

-- a desk: its gate's limits; its number; the entries seen; the permits, running fetches and turns that it must spend;
-- what it keeps of sealed entries, and the later marks
pub record DeskView : Type 0 where
  pub limits : Limits
  pub no : ℕ
  pub seen : ℕ
  pub permits : ℕ
  pub runs : ℕ
  pub turns : ℕ
  pub sealed : SealedView
  pub marks : List Mark

-- a gate of a lock with these limits, with a legal history that has at least the entries seen
pub record IsGateOf (limits : Limits) (seen : ℕ) (g : Gate) : Type 0 where
  pub limits_are : g.limits ≡ limits
  pub legal : HasLegalHistory g
  pub seen_are : seen ≤ entry_count (history g)

-- the permits, runs and turns more and less that a desk must spend; what it keeps of sealed entries stays
pub record HasOut (d d2 : DeskView) (permits permits_less runs runs_less turns turns_less : ℕ) : Type 0 where
  pub permits_are : d2.permits + permits_less ≡ d.permits + permits
  pub runs_are : d2.runs + runs_less ≡ d.runs + runs
  pub turns_are : d2.turns + turns_less ≡ d.turns + turns
  pub sealed_are : d2.sealed ≡ d.sealed

-- it must spend what it had to
abbrev pub KeepsOut : DeskView → DeskView → Type 0
KeepsOut d d2 = HasOut d d2 0 0 0 0 0 0

-- what a desk must spend after it made this entry
abbrev pub HasOutBy : Entry → DeskView → DeskView → Type 0
HasOutBy (Begun _ _ _) d d2 = HasOut d d2 0 0 0 0 1 0
HasOutBy (Arrived _ _ _ _ _) d d2 = HasOut d d2 0 0 0 0 0 1
HasOutBy (Granted _ _ _) d d2 = HasOut d d2 1 0 0 0 0 0
HasOutBy (AskDenied _ _ _) d d2 = KeepsOut d d2
HasOutBy (Started _ _ _) d d2 = HasOut d d2 0 1 1 0 0 0
HasOutBy (StartDenied _ _ _) d d2 = HasOut d d2 0 1 0 0 0 0
HasOutBy (Returned _) d d2 = HasOut d d2 0 1 0 0 0 0
HasOutBy (Finished _) d d2 = HasOut d d2 0 0 0 1 0 0
HasOutBy (Swept _ _) d d2 = KeepsOut d d2

-- the desk made an entry in a gate, has seen the history up to it, and keeps its mark
pub record Makes (d : DeskView) (g : Gate) (e : Entry) (d2 : DeskView) : Type 0 where
  pub limits_are : d2.limits ≡ d.limits
  pub no_is : d2.no ≡ d.no
  pub seen_is : d2.seen ≡ entry_count (history g) + 1
  pub out_is : HasOutBy e d d2
  pub marks_are : d2.marks ≡ d.marks ++ mark_at (entry_count (history g)) e ∷ []

-- the desk saw a gate's history and made no entry
pub record Looks (d : DeskView) (g : Gate) (d2 : DeskView) : Type 0 where
  pub limits_are : d2.limits ≡ d.limits
  pub no_is : d2.no ≡ d.no
  pub seen_is : d2.seen ≡ entry_count (history g)
  pub out_is : KeepsOut d d2
  pub marks_are : d2.marks ≡ d.marks

-- the desk handed out this many entries; all else but what it has seen stays
abbrev pub HandsOutMore : DeskView → ℕ → DeskView → Type 0
HandsOutMore d count d2 = d2 ≡ record d { seen = d2.seen; sealed = with_handed d.sealed count }

-- the desk handed out this many entries of a gate, made none, and saw its history
abbrev pub Hands : DeskView → Gate → ℕ → DeskView → Type 0
Hands d g count d2 = HandsOutMore d count d2 × (d2.seen ≡ entry_count (history g))

-- the receipts of a closed desk
abbrev pub receipt_of : DeskView → Receipt
receipt_of d = record { sealed = d.sealed; marks = d.marks }

-- how many values a desk must still spend
abbrev pub out_of : DeskView → ℕ
out_of d = d.permits + d.runs + d.turns

-- a desk's invariant: it keeps only its own entries, and made no more than it has seen; there is room for two marks of
-- each permit and one of each run and turn
pub record IsDesk (seen permits runs turns : ℕ) (account : AccountView) : Type 0 where
  pub none_before : account.sealed.before ≡ 0
  pub few : length account.sealed.places + length account.marks ≤ seen
  pub fits : length account.marks + (2 * permits + runs + turns) ≤ account.room

-- a new desk of a lock with these limits that has seen some history
abbrev pub IsNew : Limits → DeskView → Type 0
IsNew limits d =
    (g : Gate) × (IsGateOf limits 0 g
    × (d ≡ record {
      limits = limits;
      no = d.no;
      seen = entry_count (history g);
      permits = 0;
      runs = 0;
      turns = 0;
      sealed = nothing_sealed;
      marks = [];
    }))

-- of its first marks, with sealed entries, the desk keeps the places and the number of started fetches; it has seen a
-- gate's history
pub record Condenses (d : DeskView) (g : Gate) (d2 : DeskView) : Type 0 where
  pub first : List Mark
  pub limits_are : d2.limits ≡ d.limits
  pub no_is : d2.no ≡ d.no
  pub seen_is : d2.seen ≡ entry_count (history g)
  pub permits_are : d2.permits ≡ d.permits
  pub runs_are : d2.runs ≡ d.runs
  pub turns_are : d2.turns ≡ d.turns
  pub were_sealed : AreSealed g.base.entries (map (λ m. m.place) first)
  pub marks_are : d.marks ≡ first ++ d2.marks
  pub sealed_are : d2.sealed ≡ sealed_with d.sealed first
