-- Whether a turn of an authority is due, by how its answer stands.
-- Used by `begin_if_stale`.
use Rattle.std.proofs.Common.{rules, ◌≡◌, ◌∙◌, ℕ, Bool, true, false, List, inl, inr, refl, sym, ap, subst}
use Rattle.std.specs.Prelude.{◌⊎◌, ◌↔◌, IsTrue, MatchBool, Option, None, Some}
use Rattle.robots_verdict.specs.declared.answer.Closure.TheVariants as closures
use Rattle.robots_verdict.specs.declared.said.Said.{Said}
use Rattle.robots_verdict.specs.declared.said.Said.TheVariants as says
use Rattle.authority_cache.specs.declared.standing_answer.StandingAnswer.{StandingAnswer}
use Rattle.authority_cache.specs.Lists.{is_past_answer}
use Rattle.gate_history.specs.Standing.{is_fetching, standing_of}
use Rattle.gate_core.specs.declared.state.Standing.{Standing}
use Rattle.gate_core.specs.declared.state.Standing.TheVariants as standings
use Rattle.gate_core.specs.declared.state.State.{State}
use Rattle.gate_core.specs.Gate.{Gate, history}
use Rattle.gate_core.specs.Replies.{moment_at}
use Rattle.gate_core.specs.States.{standing_as, StandsAs}
use Rattle.page_worker.specs.Stale.{IsDue, IsNoAnswer, LacksAnswer, WasClosed}

past_or_not : (is_past : Bool) (said one other : Standing) → MatchBool is_past (one ≡ standings.Expired) (one ≡ said) →
    MatchBool is_past (other ≡ standings.Expired) (other ≡ said) → one ≡ other
past_or_not true said one other is is' = is ∙ sym is'
past_or_not false said one other is is' = is ∙ sym is'

stands_once : (answer : Option StandingAnswer) (moment : ℕ) (one other : Standing) → StandsAs answer moment one → StandsAs answer moment other → one ≡ other
stands_once None moment one other is is' = is ∙ sym is'
stands_once (Some s) moment one other is is' = past_or_not (is_past_answer moment s) (standing_as s.says) one other is is'

not_both : (standing : Standing) → (standing ≡ standings.Closed) ⊎ ((standing ≡ standings.Open) ⊎ (standing ≡ standings.Rules)) → IsNoAnswer standing → ⊥
not_both standing (inl closed) (inl unknown) = cc
not_both standing (inl closed) (inr expired) = cc
not_both standing (inr (inl opened)) (inl unknown) = cc
not_both standing (inr (inl opened)) (inr expired) = cc
not_both standing (inr (inr rules)) (inl unknown) = cc
not_both standing (inr (inr rules)) (inr expired) = cc

-- an answer in force leaves none to lack
pub has_answer : (g : Gate) (authority : List ℕ) (m : ℕ) (word : Standing) → StandsAs (standing_of (history g) authority) (moment_at g m) word →
    (word ≡ standings.Closed) ⊎ ((word ≡ standings.Open) ⊎ (word ≡ standings.Rules)) → LacksAnswer g authority m → ⊥
has_answer g authority m word is in_force lacks =
    let same = stands_once (standing_of (history g) authority) (moment_at g m) lacks.0.word word lacks.1.0.standing is in
    not_both word in_force (subst IsNoAnswer same lacks.1.1)

-- without an answer in force a turn is due
pub due_without : (closed_for : ℕ) (g : Gate) (authority : List ℕ) (m : ℕ) (word : Standing) →
    StandsAs (standing_of (history g) authority) (moment_at g m) word → IsNoAnswer word → IsDue closed_for g authority m
due_without closed_for g authority m word is none =
    inl (record { word = word; fetching = is_fetching (history g) authority }, (record { standing = is; fetching = refl }, none))

closed_apart : (word : Standing) → (word ≡ standings.Expired) ⊎ (word ≡ standings.Closed) → (word ≡ standings.Open) ⊎ (word ≡ standings.Rules) → ⊥
closed_apart word (inl expired) (inl opened) = cc
closed_apart word (inl expired) (inr rules) = cc
closed_apart word (inr closed) (inl opened) = cc
closed_apart word (inr closed) (inr rules) = cc

closed_word : (is_past : Bool) (said : Said) (word : Standing) → said ≡ says.Closed closures.Network →
    MatchBool is_past (word ≡ standings.Expired) (word ≡ standing_as said) → (word ≡ standings.Expired) ⊎ (word ≡ standings.Closed)
closed_word true said word is stands = inl stands
closed_word false said word is stands = inr (stands ∙ ap standing_as is)

not_closed : (answer : Option StandingAnswer) (seconds m moment : ℕ) (word : Standing) → StandsAs answer moment word →
    (word ≡ standings.Open) ⊎ (word ≡ standings.Rules) → WasClosed answer seconds m → ⊥
not_closed None seconds m moment word is in_force was = absurd was
not_closed (Some s) seconds m moment word is in_force was =
    closed_apart word (closed_word (is_past_answer moment s) s.says word was.0 is) in_force

-- with an open answer or rules in force no turn is due
pub not_due_open : (closed_for : ℕ) (g : Gate) (authority : List ℕ) (m : ℕ) (word : Standing) →
    StandsAs (standing_of (history g) authority) (moment_at g m) word → (word ≡ standings.Open) ⊎ (word ≡ standings.Rules) →
    IsDue closed_for g authority m → ⊥
not_due_open closed_for g authority m word is in_force (inl lacks) = has_answer g authority m word is (inr in_force) lacks
not_due_open closed_for g authority m word is in_force (inr was) =
    not_closed (standing_of (history g) authority) closed_for m (moment_at g m) word is in_force was

-- with a closed answer in force one is due only if a network fault closed the site long ago
pub due_closed : (closed_for : ℕ) (g : Gate) (authority : List ℕ) (m : ℕ) (word : Standing) →
    StandsAs (standing_of (history g) authority) (moment_at g m) word → word ≡ standings.Closed →
    IsDue closed_for g authority m → WasClosed (standing_of (history g) authority) closed_for m
due_closed closed_for g authority m word is closed (inl lacks) = absurd (has_answer g authority m word is (inl closed) lacks)
due_closed closed_for g authority m word is closed (inr was) = was

never : false ≡ true → ⊥
never e = search rules

-- whether a turn is due, by each way in which an answer stands

pub due_none : (closed_for : ℕ) (g : Gate) (authority : List ℕ) (m : ℕ) (word : Standing) →
    StandsAs (standing_of (history g) authority) (moment_at g m) word → IsNoAnswer word → IsTrue true ↔ IsDue closed_for g authority m
due_none closed_for g authority m word is none = ((λ _. due_without closed_for g authority m word is none), λ _. refl)

pub due_open : (closed_for : ℕ) (g : Gate) (authority : List ℕ) (m : ℕ) (word : Standing) →
    StandsAs (standing_of (history g) authority) (moment_at g m) word → (word ≡ standings.Open) ⊎ (word ≡ standings.Rules) →
    IsTrue false ↔ IsDue closed_for g authority m
due_open closed_for g authority m word is in_force =
    ((λ e. absurd (never e)), λ due. absurd (not_due_open closed_for g authority m word is in_force due))

pub due_if_closed : (closed_for : ℕ) (g : Gate) (authority : List ℕ) (m : ℕ) (word : Standing) (was : Bool) →
    StandsAs (standing_of (history g) authority) (moment_at g m) word → word ≡ standings.Closed →
    (IsTrue was ↔ WasClosed (standing_of (history g) authority) closed_for m) → IsTrue was ↔ IsDue closed_for g authority m
due_if_closed closed_for g authority m word was is closed iff =
    ((λ e. inr (iff.0 e)), λ due. iff.1 (due_closed closed_for g authority m word is closed due))

due_of : (closed_for : ℕ) (one other : Gate) (name authority : List ℕ) (m : ℕ) → one ≡ other → name ≡ authority →
    IsDue closed_for one name m → IsDue closed_for other authority m
due_of closed_for one other name authority m same named due =
    subst (λ (a : List ℕ). IsDue closed_for other a m) named (subst (λ (g : Gate). IsDue closed_for g name m) same due)

-- what was found due of a book is due of the gate that was handed in

pub some_due : (closed_for : ℕ) (gate held book : Gate) (authority name : List ℕ) (m : ℕ) (found : Bool) →
    (IsTrue found ↔ IsDue closed_for book name m) → found ≡ true → book ≡ held → held ≡ gate → name ≡ authority →
    IsDue closed_for gate authority m
some_due closed_for gate held book authority name m found iff is one other named =
    due_of closed_for book gate name authority m (one ∙ other) named (iff.0 is)

pub none_due : (closed_for : ℕ) (gate held book : Gate) (authority name : List ℕ) (m : ℕ) (found : Bool) →
    (IsTrue found ↔ IsDue closed_for book name m) → found ≡ false → book ≡ held → held ≡ gate → name ≡ authority →
    IsDue closed_for gate authority m → ⊥
none_due closed_for gate held book authority name m found iff is one other named due =
    never (sym is ∙ iff.1 (due_of closed_for gate book authority name m (sym (one ∙ other)) (sym named) due))
