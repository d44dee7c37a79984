-- Histories that say the same decide alike, and have the same legal entries.
-- Used by `order_changes_nothing` and `order_keeps_legal` of `laws.rt`.
use Rattle.std.proofs.Common.{◌≡◌, ℕ, Bool, true, false, nat_le, List, [], ◌∷◌, refl, sym, subst, ◌∙◌, true≢false, arith}
use Rattle.std.specs.Prelude.{Option, Result, Ok, Err}
use Rattle.path_normal.specs.PageText.{authority_of}
use Rattle.permit_book.specs.Outstanding.{is_numbered}
use Rattle.authority_cache.specs.declared.standing_answer.StandingAnswer.{StandingAnswer}
use Rattle.authority_cache.specs.declared.turn.Turn.{Turn}
use Rattle.authority_cache.specs.Lists.{has_number, is_answer_for, is_turn_of}
use Rattle.gate_history.specs.declared.entry.Entry.{Entry}
use Rattle.gate_history.specs.declared.entry.Entry.TheVariants.{Begun, Arrived, Granted, AskDenied, Started, StartDenied, Returned, Finished, Swept}
use Rattle.gate_history.specs.declared.outcome.Cause.{Cause}
use Rattle.gate_history.specs.declared.outcome.Reason.{Reason}
use Rattle.gate_history.specs.Base.{IsBase, has_its_life, is_of_turn, times_out, times_turned}
use Rattle.gate_history.specs.Grants.{is_in}
use Rattle.gate_history.specs.History.{History, from, ◌▸◌, begins, followed_by, now}
use Rattle.gate_history.specs.Outstanding.{running, unspent, was_granted}
use Rattle.gate_history.specs.Standing.{in_flight, standing}
use Rattle.gate_history.specs.Cause.{Decides, Judges}
use Rattle.gate_history.specs.Legal.{IsLegal, MayFollow, Rises, SpendsAs}
use Rattle.gate_history.specs.Seal.{AnswersAlike, SaysAs, base_after}
use Rattle.gate_history.specs.Laws.{DecideAlike, LegalAhead, LegalBehind, SaysBase}
use Rattle.gate_history.proofs.OrderLaws.{answer_alike, one-more}
use Rattle.gate_history.proofs.Saying.{says-all}
use Rattle.gate_history.proofs.Soundness.{granted_covered, leads_to_base}

back : (g h : History) → AnswersAlike g h → AnswersAlike h g
back g h alike = record {
  standing_of = λ a. sym (alike.standing_of a);
  past_count = λ m. sym (alike.past_count m);
  has_turn = λ a turn. sym (alike.has_turn a turn);
  is_fetching = λ a. sym (alike.is_fetching a);
  is_known = λ a. sym (alike.is_known a);
  known_count = sym alike.known_count;
  flights = sym alike.flights;
  stands = λ n token url. sym (alike.stands n token url);
  is_unspent = λ n. sym (alike.is_unspent n);
  is_running = λ n. sym (alike.is_running n);
  permits = sym alike.permits;
  runs = sym alike.runs;
  unspent_for = λ a. sym (alike.unspent_for a);
  running_for = λ a. sym (alike.running_for a);
  is_covered = λ n. sym (alike.is_covered n);
}

decides : (g h : History) → AnswersAlike g h → (token url : List ℕ) (moment : ℕ) (outcome : Result Reason Cause) →
    Decides g token url moment outcome → Decides h token url moment outcome
decides g h alike token url moment outcome =
    subst (λ (o : Option StandingAnswer). Decides g token url moment outcome → Judges o token url moment outcome) (alike.standing_of (authority_of url)) (λ d. d)

pub decide_alike : DecideAlike
decide_alike g h token url moment outcome same =
    let alike = answer_alike g h same in
    (decides g h alike token url moment outcome, decides h g (back g h alike) token url moment outcome)

spends : (g h : History) → AnswersAlike g h → (number moment : ℕ) (outcome : Result Reason Cause) → SpendsAs g number moment outcome → SpendsAs h number moment outcome
spends g h alike number moment outcome spent =
    (spent.0, (spent.1.0, (sym (alike.stands number spent.0 spent.1.0) ∙ spent.1.1.0, decides g h alike spent.0 spent.1.0 moment outcome spent.1.1.1)))

-- a grant's number was never granted
abbrev IsNew : History → Entry → Type 0
IsNew h (Granted _ number _) = was_granted h number ≡ false
IsNew h _ = Unit {0}

legal-after : (g h : History) (e : Entry) → AnswersAlike g h → now g ≡ now h → begins g ≡ begins h → IsNew h e → MayFollow g e → MayFollow h e
legal-after g h (Begun m a turn) alike moment count new fit = (rw (← moment) fit.0, sym (alike.is_fetching a) ∙ fit.1, rw (← count) fit.2)
legal-after g h (Arrived life m a turn says) alike moment count new fit = (rw (← moment) fit.0, sym (alike.has_turn a turn) ∙ fit.1, fit.2)
legal-after g h (Granted m n fetch) alike moment count new fit =
    (rw (← moment) fit.0, new, (fit.2.0, decides g h alike fetch.token fetch.url m (Ok fit.2.0) fit.2.1))
legal-after g h (AskDenied m fetch cause) alike moment count new fit = (rw (← moment) fit.0, decides g h alike fetch.token fetch.url m (Err cause) fit.1)
legal-after g h (Started m n reason) alike moment count new fit = (rw (← moment) fit.0, spends g h alike n m (Ok reason) fit.1)
legal-after g h (StartDenied m n cause) alike moment count new fit = (rw (← moment) fit.0, spends g h alike n m (Err cause) fit.1)
legal-after g h (Returned n) alike moment count new fit = sym (alike.is_unspent n) ∙ fit
legal-after g h (Finished n) alike moment count new fit = sym (alike.is_running n) ∙ fit
legal-after g h (Swept m k) alike moment count new fit = (rw (← moment) fit.0, fit.1 ∙ alike.past_count m)

new-behind : (g h : History) (e : Entry) → SaysAs g h → MayFollow g e → IsNew h e
new-behind g h (Granted m n fetch) same fit = by (was_granted h n) refl
  where
    by : (b : Bool) → was_granted h n ≡ b → b ≡ false
    by true is = absurd (true≢false (sym (same.granted n is) ∙ fit.1))
    by false is = refl
new-behind g h (Begun _ _ _) same fit = tt
new-behind g h (Arrived _ _ _ _ _) same fit = tt
new-behind g h (AskDenied _ _ _) same fit = tt
new-behind g h (Started _ _ _) same fit = tt
new-behind g h (StartDenied _ _ _) same fit = tt
new-behind g h (Returned _) same fit = tt
new-behind g h (Finished _) same fit = tt
new-behind g h (Swept _ _) same fit = tt

new-ahead : (g h : History) (e : Entry) → AnswersAlike g h → Rises h e → IsNew g e
new-ahead g h (Granted m n fetch) alike rises = by (was_granted g n) refl
  where
    by : (b : Bool) → was_granted g n ≡ b → b ≡ false
    by true is = absurd (true≢false (sym (granted_covered g n is) ∙ (alike.is_covered n ∙ rises)))
    by false is = refl
new-ahead g h (Begun _ _ _) alike rises = tt
new-ahead g h (Arrived _ _ _ _ _) alike rises = tt
new-ahead g h (AskDenied _ _ _) alike rises = tt
new-ahead g h (Started _ _ _) alike rises = tt
new-ahead g h (StartDenied _ _ _) alike rises = tt
new-ahead g h (Returned _) alike rises = tt
new-ahead g h (Finished _) alike rises = tt
new-ahead g h (Swept _ _) alike rises = tt

legal-before : (h : History) (later : List Entry) → IsLegal (followed_by h later) → IsLegal h
legal-before h [] legal = legal
legal-before h (e ∷ later) legal = (legal-before (h ▸ e) later legal).0

pub legal_behind : LegalBehind
legal_behind g h [] same legal all = legal
legal_behind g h (e ∷ later) same legal all =
    let fit = (legal-before (g ▸ e) later all).1 in
    legal_behind (g ▸ e) (h ▸ e) later (one-more g h e same)
    (legal, legal-after g h e (answer_alike g h same) same.moment same.begun (new-behind g h e same fit) fit) all

pub legal_ahead : LegalAhead
legal_ahead g h [] same legal rise all = legal
legal_ahead g h (e ∷ later) same legal rise all =
    let fit = (legal-before (h ▸ e) later all).1 in
    let alike = answer_alike g h same in
    legal_ahead (g ▸ e) (h ▸ e) later (one-more g h e same)
    (legal, legal-after h g e (back g h alike) (sym same.moment) (sym same.begun) (new-ahead g h e alike rise.0) fit) rise.1 all

pub says_base : SaysBase
says_base b h legal same = record {
  permits = record {
    numbers_once = λ n. let once = were.permits.numbers_once n in let times = out n in omega arith;
    numbers_granted = λ n some. alike.is_covered n ∙ were.permits.numbers_granted n (let times = out n in omega arith);
    slots_once = λ slot. let once = were.permits.slots_once slot in let times = same.slots.counts (is_in slot) in omega arith;
  };
  turns = record {
    flights_once = λ a. let once = were.turns.flights_once a in let times = same.turns.counts (is_turn_of a) in omega arith;
    answers_once = λ a. let once = were.turns.answers_once a in let times = same.answers.counts (is_answer_for a) in omega arith;
    turns_once = λ turn. let once = were.turns.turns_once turn in let times = turned turn in omega arith;
    turns_begun = λ turn some. let begun = same.begun in let low = were.turns.turns_begun turn (let times = turned turn in omega arith) in omega arith;
    flights_begun = rw same.moment (says-all is_turn_of b.in_flight (in_flight h) same.turns (λ (t : Turn). nat_le t.begun (now h)) were.turns.flights_begun);
    answers_begun = rw same.moment (says-all is_answer_for b.standing (standing h) same.answers (λ (s : StandingAnswer). nat_le s.begun (now h)) were.turns.answers_begun);
    lives = says-all is_answer_for b.standing (standing h) same.answers has_its_life were.turns.lives;
  };
  counts = let begun = same.begun in let started = same.started in let entries = same.entries in let few = were.counts in omega arith;
}
  where
    were : IsBase (base_after h)
    were = leads_to_base h legal

    alike : AnswersAlike (from b) h
    alike = answer_alike (from b) h same

    out : (n : ℕ) → times_out b.unspent b.running n ≡ times_out (unspent h) (running h) n
    out n = let unspents = same.permits.counts (is_numbered n) in let runs = same.runs.counts (is_numbered n) in omega arith

    turned : (turn : ℕ) → times_turned b.standing b.in_flight turn ≡ times_turned (standing h) (in_flight h) turn
    turned turn = let stand = same.answers.counts (is_of_turn turn) in let fly = same.turns.counts (has_number turn) in omega arith
