-- What is read line by line is a prefix of a chain's lines, and a whole chain where a text ends.
-- Used by `laws`.
use Rattle.std.proofs.Common.{◌≡◌, ℕ, ◌+◌, ◌≤◌, ◌==◌, ◌⊎◌, Bool, true, false, cond, List, [], ◌∷◌, ◌++◌, length, inl, inr, refl, sym, ap, subst, ◌∙◌, arith, append-nil, append_assoc, length-append, codes}
use Rattle.std.specs.Prelude.{Option, Some, None}
use Rattle.std.proofs.lemmas.Bool.Decides.{nat_tests}
use Rattle.std.proofs.lemmas.List.Elements.{All-nil}
use Rattle.gate_history.specs.Base.{Base, empty_base}
use Rattle.gate_history.specs.History.{History, ◌▸◌, entry_count, from}
use Rattle.gate_history.specs.Legal.{MayFollow, Rises}
use Rattle.gate_history.specs.Seal.{SaysAs}
use Rattle.gate_history.proofs.CallerLemmas.{followed_push}
use Rattle.history_text.specs.declared.version.Version.{Version}
use Rattle.history_text.specs.declared.version.Version.TheVariants.{One, Two}
use Rattle.history_text.specs.BaseFields.{IsAnswerRow, IsGrantRow, IsPermitRow, IsTurnRow}
use Rattle.gate_history.specs.Grants.{IsSlotGrant}
use Rattle.history_text.specs.Texts.{FollowsBase, IsText, IsTextBase, Text, text_history, text_lines}
use Rattle.crawl_audit.specs.Chains.{chain_lines, IsChain, IsFront, most_lines}
use Rattle.history_text.specs.Entries.{IsEntry}
use Rattle.crawl_audit.specs.Laws.{EndsAreChains, ReadsAreFronts}
use Rattle.history_text.specs.Spell.{entry_line}
use Rattle.history_text.specs.SpellBase.{base_lines, numbers_line, open_lines}
use Rattle.crawl_audit.specs.Steps.{IsBaseFor, Place, among, inside, Runs, start, Steps, TakesEntry}
use Rattle.crawl_audit.proofs.Growing.{empty_is_base, HasRoomFor, base_grows, based, chain_grows, grow_first, grow_last, grow_later, grow_lines, last_text, snoc_all, snoc_last, snoc_lines, with_entry}

-- ---- texts without entries

abbrev plain : Version → Base → Text
plain v b = record { version = v; base = b; entries = [] }

plain_text : (v : Version) → IsText (plain v empty_base)
plain_text v = record { follows = inl refl; spelled = All-nil (IsEntry v); legal = empty_is_base; within = omega arith; counted = omega arith }

plain_follows : (b : Base) → IsTextBase b → FollowsBase (plain Two b)
plain_follows b is = record { base = is; version = refl; rises = tt }

based_text : (b : Base) → IsTextBase b → IsText (plain Two b)
based_text b is =
    let fields = is.fields in
    let numbers = fields.numbers in
    let small = numbers.entries in
    record { follows = inr (plain_follows b is); spelled = All-nil (IsEntry Two); legal = is.base; within = omega arith; counted = omega arith }

based_lines : (b : Base) → IsTextBase b → text_lines (plain Two b) ≡ base_lines b
based_lines b is =
    let some = is.some in
    let test : (b.entries == 0) ≡ false = grind (arith, nat_tests) in
    ap (λ t. cond t (codes "V 2" ∷ []) (base_lines b) ++ []) test ∙ append-nil (base_lines b)

-- a base with one entry, for a text that begins with such a line
abbrev one_sealed : Base
one_sealed = record { standing = []; in_flight = []; unspent = []; running = []; grants = []; begins = 0; moment = 0; entries = 1; started = 0 }

one_sealed_is : IsTextBase one_sealed
one_sealed_is =
    let e = empty_is_base in
    let permits = e.permits in
    let turns = e.turns in
    record {
      fields = record {
        standing = All-nil IsAnswerRow;
        in_flight = All-nil IsTurnRow;
        grants = All-nil IsGrantRow;
        unspent = All-nil IsPermitRow;
        running = All-nil IsPermitRow;
        numbers = record { entries = omega arith; started = omega arith; begins = omega arith; moment = omega arith };
      };
      slots = All-nil IsSlotGrant;
      base = record { permits = permits; turns = turns; counts = omega arith };
      order = record {
        answers = λ k d low high. absurd (omega arith);
        turns = λ k d low high. absurd (omega arith);
        permits = λ k d low high. absurd (omega arith);
        runs = λ k d low high. absurd (omega arith);
        grants = λ k d low high. absurd (omega arith);
      };
      some = omega arith;
    }

-- ---- what was read

-- the last text, of this version and with this history
record IsLast (t : Text) (v : Version) (r : Bool) (h : History) (n : ℕ) : Type 0 where
  version : t.version ≡ v
  history : text_history t ≡ h
  count : length t.entries ≡ n
  rising : ((t.base ≡ empty_base) × (r ≡ false)) ⊎ (FollowsBase t × (r ≡ true))

-- the lines of a chain
record AmongReached (v : Version) (r : Bool) (h : History) (n : ℕ) (lines : List (List ℕ)) : Type 0 where
  first : Text
  later : List Text
  chain : IsChain first later
  lines_are : chain_lines first later ≡ lines
  last : IsLast (last_text first later) v r h n

-- the lines of a chain with this history
record ChainBefore (h : History) (lines : List (List ℕ)) : Type 0 where
  first : Text
  later : List Text
  chain : IsChain first later
  lines_are : chain_lines first later ≡ lines
  history : text_history (last_text first later) ≡ h

abbrev IsBefore : Option History → List (List ℕ) → Type 0
IsBefore None before = before ≡ []
IsBefore (Some h) before = ChainBefore h before

-- the first lines of a base
record BaseFront (after : Option History) (ls : List (List ℕ)) : Type 0 where
  base : Base
  is_base : IsBaseFor after base
  following : List ℕ
  later : List (List ℕ)
  lines_are : base_lines base ≡ ls ++ following ∷ later

record InsideReached (after : Option History) (ls lines : List (List ℕ)) : Type 0 where
  before : List (List ℕ)
  lines_are : lines ≡ before ++ ls
  is_before : IsBefore after before
  front : (ls ≡ codes "V 3" ∷ []) ⊎ BaseFront after ls

abbrev Reached : Place → List (List ℕ) → Type 0
Reached start lines = lines ≡ []
Reached (among v r h n) lines = AmongReached v r h n lines
Reached (inside after ls) lines = InsideReached after ls lines

entry_reached : (v : Version) (r : Bool) (h : History) (n : ℕ) (lines : List (List ℕ)) (line : List ℕ) (q : Place) → AmongReached v r h n lines → TakesEntry v r h n line q → Reached q (lines ++ line ∷ [])
entry_reached v r h n lines line q a takes =
    let e = takes.entry in
    let may = takes.may in
    let last = a.last in
    let t = last_text a.first a.later in
    let chain = a.chain in
    let room : HasRoomFor t e = record {
      spelled = subst (λ (x : Version). IsEntry x e) (sym last.version) takes.spelled;
      fit = subst (λ (k : History). MayFollow k e) (sym last.history) may.fit;
      rises = λ base. subst (λ (k : History). Rises k e) (sym last.history) (may.rises (rising_of last.rising base));
      room = (let few = takes.room in omega (arith, last.count));
      counted = (let few = takes.counted in omega (arith, ap entry_count last.history));
    } in
    let grown = chain_grows a.first a.later e chain.begins chain.goes_on room in
    subst (λ (x : Place). Reached x (lines ++ line ∷ [])) (sym takes.next_is) (record {
      first = grow_first a.first a.later e;
      later = grow_later a.later e;
      chain = record { begins = grown.0; goes_on = grown.1 };
      lines_are = grow_lines a.first a.later e ∙ (λ i. a.lines_are i ++ entry_line (last.version i) e ∷ []) ∙ ap (λ l. lines ++ l ∷ []) (sym takes.line_is);
      last = subst (λ (x : Text). IsLast x v r (h ▸ e) (n + 1)) (sym (grow_last a.first a.later e)) (record {
        version = last.version;
        history = followed_push (from t.base) t.entries e ∙ ap (λ k. k ▸ e) last.history;
        count = omega (arith, length-append t.entries (e ∷ []), last.count);
        rising = still last.rising room;
      });
    })
  where
    rising_of : ((last_text a.first a.later).base ≡ empty_base × (r ≡ false)) ⊎ (FollowsBase (last_text a.first a.later) × (r ≡ true)) → FollowsBase (last_text a.first a.later) → r ≡ true
    rising_of (inl none) base = absurd (let is = base.base in let some = is.some in omega (arith, ap (λ b. b.entries) none.0))
    rising_of (inr based) base = based.1

    still : ((last_text a.first a.later).base ≡ empty_base × (r ≡ false)) ⊎ (FollowsBase (last_text a.first a.later) × (r ≡ true)) → HasRoomFor (last_text a.first a.later) takes.entry →
        ((last_text a.first a.later).base ≡ empty_base × (r ≡ false)) ⊎ (FollowsBase (with_entry (last_text a.first a.later) takes.entry) × (r ≡ true))
    still (inl none) room = inl none
    still (inr base) room = inr (base_grows (last_text a.first a.later) takes.entry base.0 (room.rises base.0), base.1)

plain_reached : (v : Version) (lines : List (List ℕ)) → text_lines (plain v empty_base) ++ [] ≡ lines → AmongReached v false (from empty_base) 0 lines
plain_reached v lines same = record {
  first = plain v empty_base;
  later = [];
  chain = record { begins = plain_text v; goes_on = tt };
  lines_are = same;
  last = record { version = refl; history = refl; count = refl; rising = inl (refl, refl) };
}

base_reached : (after : Option History) (ls : List (List ℕ)) (line : List ℕ) (lines : List (List ℕ)) (b : Base) → IsBaseFor after b → base_lines b ≡ ls ++ line ∷ [] → InsideReached after ls lines → AmongReached Two true (from b) 0 (lines ++ line ∷ [])
base_reached None ls line lines b is whole a = record {
  first = plain Two b;
  later = [];
  chain = record { begins = based_text b is; goes_on = tt };
  lines_are = append-nil (text_lines (plain Two b)) ∙ based_lines b is ∙ whole ∙ ap (λ l. l ++ line ∷ []) (sym (a.lines_are ∙ ap (λ k. k ++ ls) a.is_before));
  last = record { version = refl; history = refl; count = refl; rising = inr (plain_follows b is, refl) };
}
base_reached (Some h) ls line lines b is whole a =
    let before = a.is_before in
    let chain = before.chain in
    let t = plain Two b in
    record {
      first = before.first;
      later = before.later ++ t ∷ [];
      chain = record {
        begins = chain.begins;
        goes_on = snoc_all before.first before.later t chain.goes_on
            (record { text = based_text b is.0; base = plain_follows b is.0; says = subst (SaysAs (from b)) (sym before.history) is.1 });
      };
      lines_are = snoc_lines before.first before.later t ∙ (λ i. before.lines_are i ++ (based_lines b is.0 ∙ whole) i) ∙ sym (append_assoc a.before ls (line ∷ [])) ∙ ap (λ l. l ++ line ∷ []) (sym a.lines_are);
      last = subst (λ (x : Text). IsLast x Two true (from b) 0) (sym (snoc_last before.first before.later t)) (record { version = refl; history = refl; count = refl; rising = inr (plain_follows b is.0, refl) });
    }

step_reached : (p : Place) (line : List ℕ) (q : Place) (lines : List (List ℕ)) → Reached p lines → Steps p line q → Reached q (lines ++ line ∷ [])
step_reached start line q lines none (inl head) =
    subst (λ (x : Place). Reached x (lines ++ line ∷ [])) (sym head.next_is) (plain_reached Two (lines ++ line ∷ []) (λ i. sym none i ++ sym head.line_is i ∷ []))
step_reached start line q lines none (inr (inl head)) =
    subst (λ (x : Place). Reached x (lines ++ line ∷ [])) (sym head.next_is) (record { before = []; lines_are = λ i. none i ++ head.line_is i ∷ []; is_before = refl; front = inl refl })
step_reached start line q lines none (inr (inr takes)) = entry_reached One false (from empty_base) 0 lines line q (plain_reached One lines (sym none)) takes
step_reached (among v r h n) line q lines a (inl head) =
    let last = a.last in
    subst (λ (x : Place). Reached x (lines ++ line ∷ [])) (sym head.next_is) (record {
      before = lines;
      lines_are = ap (λ l. lines ++ l ∷ []) head.line_is;
      is_before = record { first = a.first; later = a.later; chain = a.chain; lines_are = a.lines_are; history = last.history };
      front = inl refl;
    })
step_reached (among v r h n) line q lines a (inr takes) = entry_reached v r h n lines line q a takes
step_reached (inside after ls) line q lines a (inl takes) =
    subst (λ (x : Place). Reached x (lines ++ line ∷ [])) (sym takes.next_is) (record {
      before = a.before;
      lines_are = ap (λ l. l ++ line ∷ []) a.lines_are ∙ append_assoc a.before ls (line ∷ []);
      is_before = a.is_before;
      front = inr (record { base = takes.base; is_base = takes.is_base; following = takes.following; later = takes.later; lines_are = takes.lines_are });
    })
step_reached (inside after ls) line q lines a (inr ends) =
    subst (λ (x : Place). Reached x (lines ++ line ∷ [])) (sym ends.next_is) (base_reached after ls line lines ends.base ends.is_base ends.lines_are a)

run_reached : (p q : Place) (lines ls : List (List ℕ)) → Reached p lines → Runs p ls q → Reached q (lines ++ ls)
run_reached p q lines [] a runs = subst (λ (x : Place). Reached x (lines ++ [])) (sym runs) (subst (Reached p) (sym (append-nil lines)) a)
run_reached p q lines (l ∷ ls) a runs =
    subst (Reached q) (append_assoc lines (l ∷ []) ls) (run_reached runs.0 q (lines ++ l ∷ []) ls (step_reached p l runs.0 lines a runs.1.0) runs.1.1)

-- ---- what was read is a prefix

-- the lines of a base behind its first
abbrev behind : Base → List (List ℕ)
behind b = numbers_line b ∷ (open_lines b ++ codes "E" ∷ [])

front_of : (q : Place) (lines : List (List ℕ)) → Reached q lines → length lines ≤ most_lines → IsFront lines
front_of start lines none few = record {
  first = plain One empty_base;
  later = [];
  chain = record { begins = plain_text One; goes_on = tt };
  begins = inl ([], ap (λ l. l ++ []) (sym none));
  few = few;
}
front_of (among v r h n) lines a few = record { first = a.first; later = a.later; chain = a.chain; begins = inl ([], a.lines_are ∙ sym (append-nil lines)); few = few }
front_of (inside None ls) lines a few = elim a.front [
  | inl head ↦ record {
    first = plain Two one_sealed;
    later = [];
    chain = record { begins = based_text one_sealed one_sealed_is; goes_on = tt };
    begins = inl (behind one_sealed, append-nil (text_lines (plain Two one_sealed)) ∙ based_lines one_sealed one_sealed_is ∙ ap (λ l. l ++ behind one_sealed) (sym (all ∙ head)));
    few = few;
  }
  | inr front ↦ record {
    first = plain Two front.base;
    later = [];
    chain = record { begins = based_text front.base front.is_base; goes_on = tt };
    begins = inl (front.following ∷ front.later, append-nil (text_lines (plain Two front.base)) ∙ based_lines front.base front.is_base ∙ front.lines_are ∙ ap (λ l. l ++ front.following ∷ front.later) (sym all));
    few = few;
  }
]
  where
    all : lines ≡ ls
    all = a.lines_are ∙ ap (λ k. k ++ ls) a.is_before
front_of (inside (Some h) ls) lines a few = elim a.front [
  | inl head ↦ record {
    first = before.first;
    later = before.later;
    chain = before.chain;
    begins = inr (a.lines_are ∙ (λ i. sym before.lines_are i ++ head i));
    few = few;
  }
  | inr front ↦ in_base front
]
  where
    before : ChainBefore h a.before
    before = a.is_before

    in_base : BaseFront (Some h) ls → IsFront lines
    in_base front =
        let t = plain Two front.base in
        let chain = before.chain in
        let is = front.is_base in
        record {
          first = before.first;
          later = before.later ++ t ∷ [];
          chain = record {
            begins = chain.begins;
            goes_on = snoc_all before.first before.later t chain.goes_on
                (record { text = based_text front.base is.0; base = plain_follows front.base is.0; says = subst (SaysAs (from front.base)) (sym before.history) is.1 });
          };
          begins = inl (
            front.following ∷ front.later,
            snoc_lines before.first before.later t ∙ (λ i. before.lines_are i ++ (based_lines front.base is.0 ∙ front.lines_are) i)
                ∙ sym (append_assoc a.before ls (front.following ∷ front.later)) ∙ ap (λ l. l ++ front.following ∷ front.later) (sym a.lines_are),
          );
          few = few;
        }

pub reads_are_fronts : ReadsAreFronts
reads_are_fronts lines place runs few = front_of place lines (run_reached start place [] lines refl runs) few

pub ends_are_chains : EndsAreChains
ends_are_chains lines start runs end = (plain One empty_base, ([], (record { begins = plain_text One; goes_on = tt }, sym (run_reached start start [] lines refl runs))))
ends_are_chains lines (among v r h n) runs end = let a = run_reached start (among v r h n) [] lines refl runs in (a.first, (a.later, (a.chain, a.lines_are)))
ends_are_chains lines (inside after ls) runs end = absurd end
