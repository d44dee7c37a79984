-- The open things are those that were opened and no later entry closes.
-- Used by `no_later_entry_closes` of `laws.rt`.
use Rattle.std.proofs.Common.{◌≡◌, Bool, true, false, cond, not, ◌||◌, List, [], ◌∷◌, ◌++◌, filter, refl, sym, ap, ◌∙◌, append_assoc}
use Rattle.std.proofs.lemmas.List.{append-nil}
use Rattle.std.proofs.lemmas.List.Elements.{filter-append}
use Rattle.permit_book.proofs.CallerLemmas.{filter-all}
use Rattle.gate_history.specs.declared.entry.Entry.{Entry}
use Rattle.gate_history.specs.declared.entry.Entry.TheVariants.{Begun, Arrived, Granted, AskDenied, Started, StartDenied, Returned, Finished, Swept}
use Rattle.gate_history.specs.History.{History, ◌▸◌, followed_by}
use Rattle.gate_history.specs.Outstanding.{running, unspent}
use Rattle.gate_history.specs.Standing.{in_flight, standing}
use Rattle.gate_history.specs.LeftOpen.{answers_opened, closes_answer, closes_permit, closes_run, closes_turn, is_closed_by, left_open, opened, permits_opened, runs_opened, turns_opened}
use Rattle.gate_history.specs.Laws.{NoLaterEntryCloses}

module _ {X : Type 0} (closes : Entry → X → Bool) where
  two-filters : (e : Entry) (later : List Entry) (xs : List X) →
      filter (λ x. not (is_closed_by closes later x)) (filter (λ x. not (closes e x)) xs) ≡ filter (λ x. not (is_closed_by closes (e ∷ later) x)) xs
  two-filters e later [] = refl
  two-filters e later (x ∷ xs) = by (closes e x) (is_closed_by closes later x) refl (two-filters e later xs)
    where
      by : (a b : Bool) → is_closed_by closes later x ≡ b →
          filter (λ y. not (is_closed_by closes later y)) (filter (λ y. not (closes e y)) xs) ≡ filter (λ y. not (is_closed_by closes (e ∷ later) y)) xs →
          filter (λ y. not (is_closed_by closes later y)) (cond (not a) (x ∷ filter (λ y. not (closes e y)) xs) (filter (λ y. not (closes e y)) xs))
          ≡ cond (not (a || b)) (x ∷ filter (λ y. not (is_closed_by closes (e ∷ later) y)) xs) (filter (λ y. not (is_closed_by closes (e ∷ later) y)) xs)
      by true b is rest = rest
      by false true is rest = rw is rest
      by false false is rest = rw is (ap (λ ys. x ∷ ys) rest)

  -- it is enough that one entry keeps what it does not close and adds what it opens
  leaves_open : (has : History → List X) (opens : History → Entry → List X) →
      ((h : History) (e : Entry) → has (h ▸ e) ≡ filter (λ x. not (closes e x)) (has h) ++ opens h e) →
      (h : History) (later : List Entry) → has (followed_by h later) ≡ left_open has opens closes h later
  leaves_open has opens step h [] = sym (append-nil (filter (λ _. true) (has h)) ∙ filter-all (has h))
  leaves_open has opens step h (e ∷ later) =
      leaves_open has opens step (h ▸ e) later
      ∙ (ap (λ xs. filter (λ x. not (is_closed_by closes later x)) xs ++ opened opens closes (h ▸ e) later) (step h e)
      ∙ (ap (λ xs. xs ++ opened opens closes (h ▸ e) later)
      (filter-append (λ x. not (is_closed_by closes later x)) (filter (λ x. not (closes e x)) (has h)) (opens h e)
      ∙ ap (λ xs. xs ++ filter (λ x. not (is_closed_by closes later x)) (opens h e)) (two-filters e later (has h)))
      ∙ append_assoc (filter (λ x. not (is_closed_by closes (e ∷ later) x)) (has h)) (filter (λ x. not (is_closed_by closes later x)) (opens h e)) (opened opens closes (h ▸ e) later)))

idle : {X : Type 0} (xs : List X) → xs ≡ filter (λ _. true) xs ++ []
idle xs = sym (append-nil (filter (λ _. true) xs) ∙ filter-all xs)

shut : {X : Type 0} (p : X → Bool) (xs : List X) → filter p xs ≡ filter p xs ++ []
shut p xs = sym (append-nil (filter p xs))

more : {X : Type 0} (xs ys : List X) → xs ++ ys ≡ filter (λ _. true) xs ++ ys
more xs ys = ap (λ zs. zs ++ ys) (sym (filter-all xs))

turns : (h : History) (e : Entry) → in_flight (h ▸ e) ≡ filter (λ t. not (closes_turn e t)) (in_flight h) ++ turns_opened h e
turns h (Begun m a turn) = more (in_flight h) _
turns h (Arrived life m a turn says) = shut _ (in_flight h)
turns h (Granted _ _ _) = idle (in_flight h)
turns h (AskDenied _ _ _) = idle (in_flight h)
turns h (Started _ _ _) = idle (in_flight h)
turns h (StartDenied _ _ _) = idle (in_flight h)
turns h (Returned _) = idle (in_flight h)
turns h (Finished _) = idle (in_flight h)
turns h (Swept _ _) = idle (in_flight h)

answers : (h : History) (e : Entry) → standing (h ▸ e) ≡ filter (λ s. not (closes_answer e s)) (standing h) ++ answers_opened h e
answers h (Begun _ _ _) = idle (standing h)
answers h (Arrived life m a turn says) = refl
answers h (Granted _ _ _) = idle (standing h)
answers h (AskDenied _ _ _) = idle (standing h)
answers h (Started _ _ _) = idle (standing h)
answers h (StartDenied _ _ _) = idle (standing h)
answers h (Returned _) = idle (standing h)
answers h (Finished _) = idle (standing h)
answers h (Swept m count) = shut _ (standing h)

permits : (h : History) (e : Entry) → unspent (h ▸ e) ≡ filter (λ p. not (closes_permit e p)) (unspent h) ++ permits_opened h e
permits h (Begun _ _ _) = idle (unspent h)
permits h (Arrived _ _ _ _ _) = idle (unspent h)
permits h (Granted m n fetch) = more (unspent h) _
permits h (AskDenied _ _ _) = idle (unspent h)
permits h (Started m n reason) = shut _ (unspent h)
permits h (StartDenied m n cause) = shut _ (unspent h)
permits h (Returned n) = shut _ (unspent h)
permits h (Finished _) = idle (unspent h)
permits h (Swept _ _) = idle (unspent h)

runs : (h : History) (e : Entry) → running (h ▸ e) ≡ filter (λ p. not (closes_run e p)) (running h) ++ runs_opened h e
runs h (Begun _ _ _) = idle (running h)
runs h (Arrived _ _ _ _ _) = idle (running h)
runs h (Granted _ _ _) = idle (running h)
runs h (AskDenied _ _ _) = idle (running h)
runs h (Started m n reason) = more (running h) _
runs h (StartDenied _ _ _) = idle (running h)
runs h (Returned _) = idle (running h)
runs h (Finished n) = shut _ (running h)
runs h (Swept _ _) = idle (running h)

pub no_later_entry_closes : NoLaterEntryCloses
no_later_entry_closes h later = record {
  turns = leaves_open closes_turn in_flight turns_opened turns h later;
  answers = leaves_open closes_answer standing answers_opened answers h later;
  permits = leaves_open closes_permit unspent permits_opened permits h later;
  runs = leaves_open closes_run running runs_opened runs h later;
}
