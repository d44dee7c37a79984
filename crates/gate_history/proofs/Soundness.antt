-- A legal history leads to a base, shown for each kind of entry, and covers each granted number.
-- Used by the laws.
use Rattle.std.proofs.Common.{◌≡◌, ℕ, zero, suc, ◌+◌, ◌<◌, ◌==◌, Bool, true, false, ◌||◌, max, inl, inr, refl, sym, ap, subst, ◌∙◌, true≢false, arith}
use Rattle.std.proofs.Math.Nat.{le-max_left, le-max_right}
use Rattle.std.proofs.lemmas.Bool.Decides.{eqb_tells}
use Rattle.authority_cache.specs.Calls.{one_if}
use Rattle.gate_history.specs.declared.entry.Entry.{Entry}
use Rattle.gate_history.specs.declared.entry.Entry.TheVariants.{Begun, Arrived, Granted, AskDenied, Started, StartDenied, Returned, Finished, Swept}
use Rattle.gate_history.specs.Base.{AreTurns, IsBase, times_out}
use Rattle.gate_history.specs.Grants.{is_covered}
use Rattle.gate_history.specs.History.{History, from, ◌▸◌, begins, moment_of, now}
use Rattle.gate_history.specs.Outstanding.{grants, running, unspent, was_granted}
use Rattle.gate_history.specs.Standing.{in_flight, standing}
use Rattle.gate_history.specs.Legal.{IsLegal, MayFollow}
use Rattle.gate_history.specs.Seal.{base_after}
use Rattle.gate_history.specs.Laws.{EachStandsOnce, GrantedIsCovered, LeadsToBase}
use Rattle.gate_history.proofs.GrantLaws.{own-covered, still-covered}
use Rattle.gate_history.proofs.SoundParts.{own-turn, permits-granted, permits-moved, times-finished, times-granted, times-returned, times-started, turns-arrived, turns-begun, turns-later, turns-swept}

-- a legal history leads to a base, and each outstanding number was granted
record IsSound (h : History) : Type 0 where
  base : IsBase (base_after h)
  granted : (number : ℕ) → 0 < times_out (unspent h) (running h) number → was_granted h number ≡ true

pub granted_covered : GrantedIsCovered
granted_covered (from base) n granted = granted
granted_covered (h ▸ Begun _ _ _) n granted = granted_covered h n granted
granted_covered (h ▸ Arrived _ _ _ _ _) n granted = granted_covered h n granted
granted_covered (h ▸ Granted m k fetch) n granted = by (k == n) refl (granted_covered h n) granted
  where
    by : (b : Bool) → (k == n) ≡ b → (was_granted h n ≡ true → is_covered (grants h) n ≡ true) → (b || was_granted h n) ≡ true →
        is_covered (grants (h ▸ Granted m k fetch)) n ≡ true
    by true is before granted = elim (eqb_tells k n) [
      | inl e ↦ subst (λ j. is_covered (grants (h ▸ Granted m k fetch)) j ≡ true) e.1 (own-covered k (grants h))
      | inr d ↦ absurd (true≢false (sym is ∙ d.0))
    ]
    by false is before granted = still-covered k (grants h) n (before granted)
granted_covered (h ▸ AskDenied _ _ _) n granted = granted_covered h n granted
granted_covered (h ▸ Started _ _ _) n granted = granted_covered h n granted
granted_covered (h ▸ StartDenied _ _ _) n granted = granted_covered h n granted
granted_covered (h ▸ Returned _) n granted = granted_covered h n granted
granted_covered (h ▸ Finished _) n granted = granted_covered h n granted
granted_covered (h ▸ Swept _ _) n granted = granted_covered h n granted

not_out : (h : History) → IsSound h → (n : ℕ) → was_granted h n ≡ false → times_out (unspent h) (running h) n ≡ 0
not_out h sound n new = by (times_out (unspent h) (running h) n) refl
  where
    by : (k : ℕ) → times_out (unspent h) (running h) n ≡ k → k ≡ 0
    by zero is = refl
    by (suc k) is = absurd (true≢false (sym (sound.granted n (omega arith)) ∙ new))

later : (h : History) (e : Entry) → IsSound h → AreTurns (standing h) (in_flight h) (begins h) (now (h ▸ e))
later h e sound = turns-later (standing h) (in_flight h) (begins h) (now h) (now (h ▸ e)) (le-max_right (moment_of e) (now h)) sound.base.turns

step : (h : History) (e : Entry) → IsSound h → MayFollow h e → IsSound (h ▸ e)
step h (Begun m a turn) sound fit = record {
  base = record {
    permits = sound.base.permits;
    turns = subst (λ n. AreTurns (standing h) (in_flight (h ▸ Begun m a n)) (begins h + 1) (now (h ▸ Begun m a n))) (sym fit.2)
        (turns-begun (standing h) (in_flight h) (begins h) (now h) (max m (now h)) a (le-max_right m (now h)) fit.1 sound.base.turns m (le-max_left m (now h)));
    counts = let were = sound.base.counts in omega arith;
  };
  granted = sound.granted;
}
step h (Arrived life m a turn says) sound fit = record {
  base = record {
    permits = sound.base.permits;
    turns = turns-arrived (standing h) (in_flight h) (begins h) (now h) (max m (now h)) a turn says life (le-max_right m (now h)) fit.1 fit.2 sound.base.turns;
    counts = let were = sound.base.counts in omega arith;
  };
  granted = sound.granted;
}
step h (Granted m n fetch) sound fit = record {
  base = record {
    permits = permits-granted (unspent h) (running h) (grants h) n fetch sound.base.permits (not_out h sound n fit.1);
    turns = later h (Granted m n fetch) sound;
    counts = let were = sound.base.counts in omega arith;
  };
  granted = λ k out. by k (n == k) refl out;
}
  where
    by : (k : ℕ) (b : Bool) → (n == k) ≡ b → 0 < times_out (unspent (h ▸ Granted m n fetch)) (running h) k → (b || was_granted h k) ≡ true
    by k true is out = refl
    by k false is out =
        let other : one_if (n == k) ≡ 0 = ap one_if is in
        sound.granted k (omega (arith, times-granted (unspent h) (running h) n fetch k))
step h (AskDenied m fetch cause) sound fit = record {
  base = record {
    permits = sound.base.permits;
    turns = later h (AskDenied m fetch cause) sound;
    counts = let were = sound.base.counts in omega arith;
  };
  granted = sound.granted;
}
step h (Started m n reason) sound fit = record {
  base = record {
    permits = permits-moved (unspent h) (running h) (unspent (h ▸ Started m n reason)) (running (h ▸ Started m n reason)) (grants h) sound.base.permits
        (λ k. omega (arith, times-started (unspent h) (running h) n k));
    turns = later h (Started m n reason) sound;
    counts = let were = sound.base.counts in omega arith;
  };
  granted = λ k out. sound.granted k (omega (arith, times-started (unspent h) (running h) n k));
}
step h (StartDenied m n cause) sound fit = record {
  base = record {
    permits = permits-moved (unspent h) (running h) (unspent (h ▸ StartDenied m n cause)) (running h) (grants h) sound.base.permits (times-returned (unspent h) (running h) n);
    turns = later h (StartDenied m n cause) sound;
    counts = let were = sound.base.counts in omega arith;
  };
  granted = λ k out. sound.granted k (omega (arith, times-returned (unspent h) (running h) n k));
}
step h (Returned n) sound fit = record {
  base = record {
    permits = permits-moved (unspent h) (running h) (unspent (h ▸ Returned n)) (running h) (grants h) sound.base.permits (times-returned (unspent h) (running h) n);
    turns = later h (Returned n) sound;
    counts = let were = sound.base.counts in omega arith;
  };
  granted = λ k out. sound.granted k (omega (arith, times-returned (unspent h) (running h) n k));
}
step h (Finished n) sound fit = record {
  base = record {
    permits = permits-moved (unspent h) (running h) (unspent h) (running (h ▸ Finished n)) (grants h) sound.base.permits (times-finished (unspent h) (running h) n);
    turns = later h (Finished n) sound;
    counts = let were = sound.base.counts in omega arith;
  };
  granted = λ k out. sound.granted k (omega (arith, times-finished (unspent h) (running h) n k));
}
step h (Swept m count) sound fit = record {
  base = record {
    permits = sound.base.permits;
    turns = turns-swept (standing h) (in_flight h) (begins h) (now h) (max m (now h)) m (le-max_right m (now h)) sound.base.turns;
    counts = let were = sound.base.counts in omega arith;
  };
  granted = sound.granted;
}

sound : (h : History) → IsLegal h → IsSound h
sound (from base) legal = record { base = legal; granted = λ n out. legal.permits.numbers_granted n out }
sound (h ▸ e) legal = step h e (sound h legal.0) legal.1

pub leads_to_base : LeadsToBase
leads_to_base h legal = (sound h legal).base

pub stands_once : EachStandsOnce
stands_once h legal =
    let base = leads_to_base h legal in
    record {
      permits = base.permits;
      turns = base.turns;
      own_turn = own-turn (standing h) (in_flight h) (begins h) (now h) base.turns;
    }
