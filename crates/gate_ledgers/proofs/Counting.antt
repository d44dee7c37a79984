-- The balance of a gate after one more entry.
-- Used by `CountedBook`.
use Rattle.std.proofs.Common.{◌≡◌, ℕ, ◌+◌, ◌≤◌, List, [], ◌∷◌, length, refl, sym, ap, ◌∙◌, subst, arith}
use Rattle.std.specs.Prelude.{Result, Ok, Err}
use Rattle.authority_cache.specs.Lists.{is_turn_of}
use Rattle.permit_book.specs.Outstanding.{is_numbered}
use Rattle.gate_history.specs.declared.entry.Entry.{Entry}
use Rattle.gate_history.specs.Base.{Base}
use Rattle.gate_history.specs.History.{History, ◌▸◌, entry_count, followed_by, from}
use Rattle.gate_history.specs.Laws.{Counts, OneMore}
use Rattle.gate_history.specs.Outstanding.{running, unspent}
use Rattle.gate_history.specs.Seal.{SaysAs}
use Rattle.gate_history.specs.Segment.{Sealed}
use Rattle.gate_history.specs.Standing.{in_flight}
use Rattle.gate_history.proofs.CallerLemmas.{says-length}
use Rattle.gate_core.specs.declared.refusal.NoMemory.{NoMemory}
use Rattle.gate_core.specs.Gate.{Adds, Gate, history}
use Rattle.gate_core.specs.Sealing.{HandsOut, Seals}
use Rattle.gate_ledgers.specs.Balance.{Balance, IsBalanceOf, IsHandedOut, Loses}
use Rattle.gate_ledgers.specs.Entered.{handed_by}

-- the history after one more entry
pub grown : OneMore → (old new : Gate) (e : Entry) → Adds old e new → history new ≡ history old ▸ e
grown more old new e adds = ap history adds.adds ∙ more (from old.base) old.entries e

-- an entry that ends something: one entry more, less what it ends
pub ended : OneMore → (old new : Gate) (e : Entry) (permits runs turns : ℕ) → Adds old e new → Counts (history old) e 0 0 permits 0 runs 0 turns →
    (b entered left : Balance) → IsBalanceOf (history old) b → entered ≡ record b { entries = b.entries + 1 } → Loses entered left permits runs turns →
    IsBalanceOf (history new) left
ended more old new e permits runs turns adds counts b entered left is enters loses =
    subst (λ (h : History). IsBalanceOf h left) (sym (grown more old new e adds)) (record {
      entries = omega (arith, ap (λ (b : Balance). b.entries) enters, loses.entries_are, is.entries, counts.entries_are);
      starts = omega (arith, ap (λ (b : Balance). b.starts) enters, loses.starts_are, is.starts, counts.started_are);
      unspent = omega (arith, ap (λ (b : Balance). b.unspent) enters, loses.unspent_are, is.unspent, counts.unspent_are);
      running = omega (arith, ap (λ (b : Balance). b.running) enters, loses.running_are, is.running, counts.running_are);
      turns = omega (arith, ap (λ (b : Balance). b.turns) enters, loses.turns_are, is.turns, counts.flights_are);
    })

-- a start: one entry and one running fetch more, and one unspent permit less
pub begun : OneMore → (old new : Gate) (e : Entry) → Adds old e new → Counts (history old) e 1 0 1 1 0 0 0 →
    (b started now : Balance) → IsBalanceOf (history old) b →
    started ≡ record b { entries = b.entries + 1; starts = b.starts + 1; running = b.running + 1 } → Loses started now 1 0 0 →
    IsBalanceOf (history new) now
begun more old new e adds counts b started now is starts loses =
    subst (λ (h : History). IsBalanceOf h now) (sym (grown more old new e adds)) (record {
      entries = omega (arith, ap (λ (b : Balance). b.entries) starts, loses.entries_are, is.entries, counts.entries_are);
      starts = omega (arith, ap (λ (b : Balance). b.starts) starts, loses.starts_are, is.starts, counts.started_are);
      unspent = omega (arith, ap (λ (b : Balance). b.unspent) starts, loses.unspent_are, is.unspent, counts.unspent_are);
      running = omega (arith, ap (λ (b : Balance). b.running) starts, loses.running_are, is.running, counts.running_are);
      turns = omega (arith, ap (λ (b : Balance). b.turns) starts, loses.turns_are, is.turns, counts.flights_are);
    })

-- a grant: one entry and one unspent permit more
pub granted : OneMore → (old new : Gate) (e : Entry) → Adds old e new → Counts (history old) e 0 1 0 0 0 0 0 →
    (b entered now : Balance) → IsBalanceOf (history old) b → entered ≡ record b { entries = b.entries + 1 } →
    now ≡ record entered { unspent = entered.unspent + 1 } → IsBalanceOf (history new) now
granted more old new e adds counts b entered now is enters grants =
    subst (λ (h : History). IsBalanceOf h now) (sym (grown more old new e adds)) (record {
      entries = omega (arith, ap (λ (b : Balance). b.entries) grants, ap (λ (b : Balance). b.entries) enters, is.entries, counts.entries_are);
      starts = omega (arith, ap (λ (b : Balance). b.starts) grants, ap (λ (b : Balance). b.starts) enters, is.starts, counts.started_are);
      unspent = omega (arith, ap (λ (b : Balance). b.unspent) grants, ap (λ (b : Balance). b.unspent) enters, is.unspent, counts.unspent_are);
      running = omega (arith, ap (λ (b : Balance). b.running) grants, ap (λ (b : Balance). b.running) enters, is.running, counts.running_are);
      turns = omega (arith, ap (λ (b : Balance). b.turns) grants, ap (λ (b : Balance). b.turns) enters, is.turns, counts.flights_are);
    })

-- a denied ask: one entry more
pub noted : OneMore → (old new : Gate) (e : Entry) → Adds old e new → Counts (history old) e 0 0 0 0 0 0 0 →
    (b entered : Balance) → IsBalanceOf (history old) b → entered ≡ record b { entries = b.entries + 1 } → IsBalanceOf (history new) entered
noted more old new e adds counts b entered is enters =
    subst (λ (h : History). IsBalanceOf h entered) (sym (grown more old new e adds)) (record {
      entries = omega (arith, ap (λ (b : Balance). b.entries) enters, is.entries, counts.entries_are);
      starts = omega (arith, ap (λ (b : Balance). b.starts) enters, is.starts, counts.started_are);
      unspent = omega (arith, ap (λ (b : Balance). b.unspent) enters, is.unspent, counts.unspent_are);
      running = omega (arith, ap (λ (b : Balance). b.running) enters, is.running, counts.running_are);
      turns = omega (arith, ap (λ (b : Balance). b.turns) enters, is.turns, counts.flights_are);
    })

says_balance : (base : Base) (h : History) (b : Balance) → SaysAs (from base) h → IsBalanceOf h b → IsBalanceOf (from base) b
says_balance base h b says is = record {
  entries = is.entries ∙ sym says.entries;
  starts = is.starts ∙ sym says.started;
  unspent = is.unspent ∙ sym (says-length is_numbered base.unspent (unspent h) says.permits);
  running = is.running ∙ sym (says-length is_numbered base.running (running h) says.runs);
  turns = is.turns ∙ sym (says-length is_turn_of base.in_flight (in_flight h) says.turns);
}

handed_out : (entries : List Entry) (old new : Gate) (s : Sealed) (b : Balance) → HandsOut entries old s new → IsBalanceOf (history old) b → IsBalanceOf (history new) b
handed_out [] old new s b hands is = subst (λ (g : Gate). IsBalanceOf (history g) b) (sym hands.1) is
handed_out (e ∷ later) old new s b hands is =
    subst (λ (es : List Entry). IsBalanceOf (followed_by (from new.base) es) b) (sym hands.1.entries) (says_balance new.base (history old) b hands.1.says is)

pub sealed : (old new : Gate) (result : Result Sealed NoMemory) (b : Balance) → Seals old result new → IsBalanceOf (history old) b → IsBalanceOf (history new) b
sealed old new (Ok s) b seals is = handed_out old.entries old new s b seals is
sealed old new (Err refusal) b stays is = subst (λ (g : Gate). IsBalanceOf (history g) b) (sym stays) is

pub counted : (h : History) (later : List Entry) → entry_count (followed_by h later) ≡ entry_count h + length later
counted h [] = omega arith
counted h (e ∷ later) = let more = counted (h ▸ e) later in omega (arith, more)

pub stays_handed : (old new : Gate) (e : Entry) (b entered left : Balance) → Adds old e new → IsHandedOut old.base b.handed → entered.handed ≡ b.handed →
    left.handed ≡ entered.handed → IsHandedOut new.base left.handed
stays_handed old new e b entered left adds is enters loses =
    let base = ap (λ (g : Gate). g.base) adds.adds in
    record {
      handed_are = loses ∙ enters ∙ is.handed_are ∙ sym (ap (λ (b : Base). b.entries) base);
      from_start = λ none. base ∙ is.from_start (sym (ap (λ (b : Base). b.entries) base) ∙ none);
    }

-- the balance of a history does not depend on what was handed out
pub hands_more : (h : History) (b b2 : Balance) (handed : ℕ) → b2 ≡ record b { handed = handed } → IsBalanceOf h b → IsBalanceOf h b2
hands_more h b b2 handed same is = record {
  entries = ap (λ (b : Balance). b.entries) same ∙ is.entries;
  starts = ap (λ (b : Balance). b.starts) same ∙ is.starts;
  unspent = ap (λ (b : Balance). b.unspent) same ∙ is.unspent;
  running = ap (λ (b : Balance). b.running) same ∙ is.running;
  turns = ap (λ (b : Balance). b.turns) same ∙ is.turns;
}

hands_out : (entries : List Entry) (old new : Gate) (s : Sealed) (b : Balance) → HandsOut entries old s new → entries ≡ old.entries → IsHandedOut old.base b.handed →
    IsHandedOut new.base (b.handed + length s.entries)
hands_out [] old new s b hands are is =
    let none = ap (λ (s : Sealed). length s.entries) hands.0 in
    let same : b.handed ≡ b.handed + length s.entries = omega (arith, none) in
    subst (λ (g : Gate). IsHandedOut g.base (b.handed + length s.entries)) (sym hands.1) (subst (λ (n : ℕ). IsHandedOut old.base n) same is)
hands_out (e ∷ later) old new s b hands are is =
    let count = ap (λ (s : Sealed). length s.entries) hands.0 in
    let base = hands.1.says.entries in
    let all = counted (from old.base) old.entries in
    let some = ap length are in
    let handed = is.handed_are in
    record {
      handed_are = omega (arith, count, base, all, handed);
      from_start = λ none. absurd (omega (arith, none, base, all, some));
    }

pub seals_out : (old new : Gate) (result : Result Sealed NoMemory) (b : Balance) → Seals old result new → IsHandedOut old.base b.handed →
    IsHandedOut new.base (b.handed + handed_by result)
seals_out old new (Ok s) b seals is = hands_out old.entries old new s b seals refl is
seals_out old new (Err refusal) b stays is =
    let same : b.handed ≡ b.handed + 0 = omega arith in
    subst (λ (g : Gate). IsHandedOut g.base (b.handed + 0)) (sym stays) (subst (λ (n : ℕ). IsHandedOut old.base n) same is)

pub handed_few : (old new : Gate) (result : Result Sealed NoMemory) (b : Balance) → Seals old result new → IsHandedOut old.base b.handed →
    b.handed + handed_by result ≤ entry_count (history old)
handed_few old new (Ok s) b seals is = few old.entries old new s b seals refl is
  where
    few : (entries : List Entry) (old new : Gate) (s : Sealed) (b : Balance) → HandsOut entries old s new → entries ≡ old.entries → IsHandedOut old.base b.handed →
        b.handed + length s.entries ≤ entry_count (history old)
    few [] old new s b hands are is =
        let none = ap (λ (s : Sealed). length s.entries) hands.0 in
        let all = counted (from old.base) old.entries in
        let handed = is.handed_are in
        omega (arith, none, all, handed)
    few (e ∷ later) old new s b hands are is =
        let count = ap (λ (s : Sealed). length s.entries) hands.0 in
        let all = counted (from old.base) old.entries in
        let handed = is.handed_are in
        omega (arith, count, all, handed)
handed_few old new (Err refusal) b stays is =
    let all = counted (from old.base) old.entries in
    let handed = is.handed_are in
    omega (arith, all, handed)
