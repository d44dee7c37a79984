-- Histories that say the same, in any order, still do after any entries, and answer alike.
-- Used by `order_changes_nothing` and `sealing_changes_nothing` of `laws.rt`.
use Rattle.std.proofs.Common.{◌≡◌, ℕ, ◌+◌, ◌==◌, Bool, true, false, cond, not, ◌&&◌, ◌||◌, max, List, [], ◌∷◌, length, filter, refl, sym, ap, ◌∙◌, arith}
use Rattle.std.specs.Str.{bytes_eq}
use Rattle.path_normal.specs.PageText.{authority_of}
use Rattle.permit_book.specs.declared.granted_permit.GrantedPermit.{GrantedPermit}
use Rattle.permit_book.specs.Numbers.{slot_of, generation_of}
use Rattle.permit_book.specs.Outstanding.{fetch_of, granted_in, is_numbered, permit_for}
use Rattle.permit_book.specs.Table.{is_fetch_of}
use Rattle.authority_cache.specs.declared.turn.Turn.{Turn}
use Rattle.authority_cache.specs.Lists.{answered, has_number, is_answer_for, is_past_answer, is_turn_of, known_by, lacks_answer, turn_for}
use Rattle.gate_history.specs.declared.base.SlotGrant.{SlotGrant}
use Rattle.gate_history.specs.declared.entry.Entry.{Entry}
use Rattle.gate_history.specs.declared.entry.Entry.TheVariants.{Begun, Arrived, Granted, AskDenied, Started, StartDenied, Returned, Finished, Swept}
use Rattle.gate_history.specs.Grants.{generation_in, greatest_of, is_covered, is_in, with_grant}
use Rattle.gate_history.specs.History.{History, ◌▸◌}
use Rattle.gate_history.specs.Outstanding.{grants, running, unspent, was_granted}
use Rattle.gate_history.specs.Standing.{in_flight, standing}
use Rattle.gate_history.specs.Seal.{SaySame, SaysAs}
use Rattle.gate_history.specs.Laws.{GoOnAlike, SayingAnswersAlike, SealSaysAlike}
use Rattle.gate_history.proofs.Counting.{count-alike}
use Rattle.gate_history.proofs.SealLaws.{greatest_is}
use Rattle.gate_history.proofs.Soundness.{granted_covered}
use Rattle.gate_history.proofs.Saying.{same_on, says-any, says-append, says-filter, says-first, says-itself, says-length, says-map}

of_slot : (xs : List SlotGrant) (slot : ℕ) → greatest_of xs slot ≡ greatest_of (filter (is_in slot) xs) slot
of_slot [] slot = refl
of_slot (x ∷ xs) slot = by (is_in slot x) refl (of_slot xs slot)
  where
    by : (b : Bool) → is_in slot x ≡ b → greatest_of xs slot ≡ greatest_of (filter (is_in slot) xs) slot →
        max (generation_in slot x) (greatest_of xs slot) ≡ greatest_of (cond b (x ∷ filter (is_in slot) xs) (filter (is_in slot) xs)) slot
    by true is rest = ap (max (generation_in slot x)) rest
    by false is rest = let none : generation_in slot x ≡ 0 = rw is refl in omega arith

pub greatest_alike : (xs ys : List SlotGrant) → SaySame is_in xs ys → (slot : ℕ) → greatest_of xs slot ≡ greatest_of ys slot
greatest_alike xs ys same slot = of_slot xs slot ∙ (ap (λ zs. greatest_of zs slot) (same.each slot) ∙ sym (of_slot ys slot))

grants_alike : (number : ℕ) (xs ys : List SlotGrant) → SaySame is_in xs ys → SaySame is_in (with_grant number xs) (with_grant number ys)
grants_alike number xs ys same =
    says-append is_in (filter (λ g. not (is_in (slot_of number) g)) xs) (filter (λ g. not (is_in (slot_of number) g)) ys) (one xs) (one ys)
    (says-filter is_in (λ g. not (is_in (slot_of number) g)) xs ys same)
    (record { each = λ k. ap (filter (is_in k)) equal; counts = λ p. ap (λ gs. length (filter p gs)) equal })
  where
    one : List SlotGrant → List SlotGrant
    one gs = record { slot = slot_of number; generation = max (generation_of number) (greatest_of gs (slot_of number)) } ∷ []

    equal : one xs ≡ one ys
    equal = ap (λ n. (let g : SlotGrant = record { slot = slot_of number; generation = max (generation_of number) n } in g) ∷ []) (greatest_alike xs ys same (slot_of number))

pub covered_alike : (xs ys : List SlotGrant) → SaySame is_in xs ys → (number : ℕ) → is_covered xs number ≡ is_covered ys number
covered_alike xs ys same number =
    rw (says-any is_in xs ys same (is_in (slot_of number)), greatest_alike xs ys same (slot_of number)) refl

pub says_on : (f g h : History) → SaysAs f g → SaysAs g h → SaysAs f h
says_on f g h one other = record {
  answers = same_on _ (standing f) (standing g) (standing h) one.answers other.answers;
  turns = same_on _ (in_flight f) (in_flight g) (in_flight h) one.turns other.turns;
  permits = same_on _ (unspent f) (unspent g) (unspent h) one.permits other.permits;
  runs = same_on _ (running f) (running g) (running h) one.runs other.runs;
  slots = same_on _ (grants f) (grants g) (grants h) one.slots other.slots;
  greatest = λ slot. one.greatest slot ∙ other.greatest slot;
  granted = λ number is. one.granted number (other.granted number is);
  begun = one.begun ∙ other.begun;
  moment = one.moment ∙ other.moment;
  entries = one.entries ∙ other.entries;
  started = one.started ∙ other.started;
}

pub one-more : (g h : History) (e : Entry) → SaysAs g h → SaysAs (g ▸ e) (h ▸ e)
one-more g h (Begun m a turn) same = record {
  answers = same.answers;
  turns = (let new : Turn = turn_for a (record { turn = turn; begun = m }) in
      says-append is_turn_of (in_flight g) (in_flight h) (new ∷ []) (new ∷ []) same.turns (says-itself is_turn_of (new ∷ [])));
  permits = same.permits;
  runs = same.runs;
  slots = same.slots;
  greatest = same.greatest;
  granted = same.granted;
  begun = ap (λ n. n + 1) same.begun;
  moment = ap (max m) same.moment;
  entries = ap (λ n. n + 1) same.entries;
  started = same.started;
}
one-more g h (Arrived life m a turn says) same = record {
  answers = says-append is_answer_for (filter (λ s. not (is_answer_for a s)) (standing g)) (filter (λ s. not (is_answer_for a s)) (standing h)) _ _
      (says-filter is_answer_for (λ s. not (is_answer_for a s)) (standing g) (standing h) same.answers)
      (says-map is_answer_for (answered says life) (filter (has_number turn) (in_flight g)) (filter (has_number turn) (in_flight h))
      (says-filter is_turn_of (has_number turn) (in_flight g) (in_flight h) same.turns));
  turns = says-filter is_turn_of (λ t. not (has_number turn t)) (in_flight g) (in_flight h) same.turns;
  permits = same.permits;
  runs = same.runs;
  slots = same.slots;
  greatest = same.greatest;
  granted = same.granted;
  begun = same.begun;
  moment = ap (max m) same.moment;
  entries = ap (λ n. n + 1) same.entries;
  started = same.started;
}
one-more g h (Granted m n fetch) same = record {
  answers = same.answers;
  turns = same.turns;
  permits = (let new : GrantedPermit = permit_for n fetch in
      says-append is_numbered (unspent g) (unspent h) (new ∷ []) (new ∷ []) same.permits (says-itself is_numbered (new ∷ [])));
  runs = same.runs;
  slots = grants_alike n (grants g) (grants h) same.slots;
  greatest = λ slot. ap (max (granted_in n slot)) (same.greatest slot);
  granted = λ k. by k (n == k);
  begun = same.begun;
  moment = ap (max m) same.moment;
  entries = ap (λ n. n + 1) same.entries;
  started = same.started;
}
  where
    by : (k : ℕ) (b : Bool) → (b || was_granted h k) ≡ true → (b || was_granted g k) ≡ true
    by k true granted = refl
    by k false granted = same.granted k granted
one-more g h (AskDenied m fetch cause) same = record {
  answers = same.answers;
  turns = same.turns;
  permits = same.permits;
  runs = same.runs;
  slots = same.slots;
  greatest = same.greatest;
  granted = same.granted;
  begun = same.begun;
  moment = ap (max m) same.moment;
  entries = ap (λ n. n + 1) same.entries;
  started = same.started;
}
one-more g h (Started m n reason) same = record {
  answers = same.answers;
  turns = same.turns;
  permits = says-filter is_numbered (λ p. not (is_numbered n p)) (unspent g) (unspent h) same.permits;
  runs = says-append is_numbered (running g) (running h) (filter (is_numbered n) (unspent g)) (filter (is_numbered n) (unspent h)) same.runs
      (says-filter is_numbered (is_numbered n) (unspent g) (unspent h) same.permits);
  slots = same.slots;
  greatest = same.greatest;
  granted = same.granted;
  begun = same.begun;
  moment = ap (max m) same.moment;
  entries = ap (λ n. n + 1) same.entries;
  started = ap (λ n. n + 1) same.started;
}
one-more g h (StartDenied m n cause) same = record {
  answers = same.answers;
  turns = same.turns;
  permits = says-filter is_numbered (λ p. not (is_numbered n p)) (unspent g) (unspent h) same.permits;
  runs = same.runs;
  slots = same.slots;
  greatest = same.greatest;
  granted = same.granted;
  begun = same.begun;
  moment = ap (max m) same.moment;
  entries = ap (λ n. n + 1) same.entries;
  started = same.started;
}
one-more g h (Returned n) same = record {
  answers = same.answers;
  turns = same.turns;
  permits = says-filter is_numbered (λ p. not (is_numbered n p)) (unspent g) (unspent h) same.permits;
  runs = same.runs;
  slots = same.slots;
  greatest = same.greatest;
  granted = same.granted;
  begun = same.begun;
  moment = ap (max 0) same.moment;
  entries = ap (λ n. n + 1) same.entries;
  started = same.started;
}
one-more g h (Finished n) same = record {
  answers = same.answers;
  turns = same.turns;
  permits = same.permits;
  runs = says-filter is_numbered (λ p. not (is_numbered n p)) (running g) (running h) same.runs;
  slots = same.slots;
  greatest = same.greatest;
  granted = same.granted;
  begun = same.begun;
  moment = ap (max 0) same.moment;
  entries = ap (λ n. n + 1) same.entries;
  started = same.started;
}
one-more g h (Swept m count) same = record {
  answers = says-filter is_answer_for (λ s. not (is_past_answer m s)) (standing g) (standing h) same.answers;
  turns = same.turns;
  permits = same.permits;
  runs = same.runs;
  slots = same.slots;
  greatest = same.greatest;
  granted = same.granted;
  begun = same.begun;
  moment = ap (max m) same.moment;
  entries = ap (λ n. n + 1) same.entries;
  started = same.started;
}

pub go_on : GoOnAlike
go_on g h [] same = same
go_on g h (e ∷ later) same = go_on (g ▸ e) (h ▸ e) later (one-more g h e same)

pub seal_says : SealSaysAlike
seal_says h = record {
  answers = says-itself is_answer_for (standing h);
  turns = says-itself is_turn_of (in_flight h);
  permits = says-itself is_numbered (unspent h);
  runs = says-itself is_numbered (running h);
  slots = says-itself is_in (grants h);
  greatest = greatest_is h;
  granted = granted_covered h;
  begun = refl;
  moment = refl;
  entries = refl;
  started = refl;
}

known_alike : (g h : History) → SaysAs g h → known_by (standing g) (in_flight g) ≡ known_by (standing h) (in_flight h)
known_alike g h same =
    let all = says-length is_answer_for (standing g) (standing h) same.answers in
    let lacking : length (filter (lacks_answer (standing g)) (in_flight g)) ≡ length (filter (lacks_answer (standing h)) (in_flight g)) =
    count-alike (lacks_answer (standing g)) (lacks_answer (standing h)) (in_flight g)
    (λ t. ap not (says-any is_answer_for (standing g) (standing h) same.answers (is_answer_for t.authority))) in
    let turns = same.turns.counts (lacks_answer (standing h)) in
    omega arith

pub answer_alike : SayingAnswersAlike
answer_alike g h same = record {
  standing_of = λ a. says-first is_answer_for (standing g) (standing h) same.answers a;
  past_count = λ m. same.answers.counts (is_past_answer m);
  has_turn = λ a turn. says-any is_turn_of (in_flight g) (in_flight h) same.turns (λ t. has_number turn t && is_turn_of a t);
  is_fetching = λ a. says-any is_turn_of (in_flight g) (in_flight h) same.turns (is_turn_of a);
  is_known = λ a. rw (
    says-any is_answer_for (standing g) (standing h) same.answers (is_answer_for a),
    says-any is_turn_of (in_flight g) (in_flight h) same.turns (is_turn_of a),
  ) refl;
  known_count = known_alike g h same;
  flights = says-length is_turn_of (in_flight g) (in_flight h) same.turns;
  stands = λ n token url. says-any is_numbered (unspent g) (unspent h) same.permits (λ p. is_numbered n p && is_fetch_of token url (fetch_of p));
  is_unspent = λ n. says-any is_numbered (unspent g) (unspent h) same.permits (is_numbered n);
  is_running = λ n. says-any is_numbered (running g) (running h) same.runs (is_numbered n);
  permits = says-length is_numbered (unspent g) (unspent h) same.permits;
  runs = says-length is_numbered (running g) (running h) same.runs;
  unspent_for = λ a. same.permits.counts (λ p. bytes_eq (authority_of p.url) a);
  running_for = λ a. same.runs.counts (λ p. bytes_eq (authority_of p.url) a);
  is_covered = covered_alike (grants g) (grants h) same.slots;
}
