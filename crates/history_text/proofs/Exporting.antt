-- A legal history whose entries have their fields is a text's.
-- Used by `export`.
use Rattle.std.proofs.Common.{◌≡◌, ◌≢◌, ℕ, ◌<◌, ◌≤◌, ◌==◌, All, List, [], ◌∷◌, ◌++◌, ap, cond, false, flat_map, map, inl, inr, refl, subst, ◌∙◌, append_assoc, arith, codes, sym}
use Rattle.std.specs.Prelude.{OnErr, OnOk, Option, Result, Ok, Err}
use Rattle.std.proofs.lemmas.Bool.Decides.{nat_tests}
use Rattle.counted_io.specs.Device.{AppendsPrefix}
use Rattle.counted_io.specs.Output.{Passes}
use Rattle.counted_io.proofs.CallerLemmas.{Passes-cut-all}
use Rattle.std.proofs.lemmas.List.Concat.{flat_map-append}
use Rattle.std.proofs.lemmas.List.Elements.{All-nil, All-cons, All-head, All-tail}
use Rattle.permit_book.specs.declared.granted_permit.GrantedPermit.{GrantedPermit}
use Rattle.authority_cache.specs.declared.standing_answer.StandingAnswer.{StandingAnswer}
use Rattle.authority_cache.specs.declared.turn.Turn.{Turn}
use Rattle.gate_history.specs.declared.base.SlotGrant.{SlotGrant}
use Rattle.gate_history.specs.declared.entry.Entry.{Entry}
use Rattle.gate_history.specs.declared.entry.Entry.TheVariants.{Begun, Arrived, Granted, AskDenied, Started, StartDenied, Returned, Finished, Swept}
use Rattle.gate_history.specs.Base.{Base, empty_base}
use Rattle.gate_history.specs.History.{History, ◌▸◌, followed_by, from}
use Rattle.gate_history.specs.Legal.{AllRise, IsLegal, MayFollow}
use Rattle.gate_history.specs.Grants.{IsSlotGrant}
use Rattle.gate_history.specs.Order.{IsInOrder}
use Rattle.gate_history.specs.Segment.{history_in, Sealed}
use Rattle.gate_core.specs.Gate.{Gate, HasLegalHistory, room}
use Rattle.gate_core.specs.Limits.{AreLimits}
use Rattle.history_text.specs.declared.version.Version.TheVariants.{Two}
use Rattle.history_text.specs.declared.base_parts.BasePart.{BasePart}
use Rattle.history_text.specs.Entries.{HasFields, HasLife, IsEntry}
use Rattle.history_text.specs.Exports.{history_of, IsExport, IsSegmentText}
use Rattle.history_text.specs.BaseFields.{HasBaseFields}
use Rattle.history_text.specs.Spell.{entry_lines, spell}
use Rattle.history_text.specs.SpellBase.{answer_line, base_text, ended, grant_line, lines_text, numbers_line, open_lines, running_line, spell_segment, turn_line, unspent_line}

pub legal_before : (h : History) (later : List Entry) → IsLegal (followed_by h later) → IsLegal h
legal_before h [] legal = legal
legal_before h (e ∷ later) legal = (legal_before (h ▸ e) later legal).0

life_of_legal : (h : History) (e : Entry) → MayFollow h e → HasLife Two e
life_of_legal h (Begun _ _ _) fit = tt
life_of_legal h (Arrived _ _ _ _ _) fit = fit.2
life_of_legal h (Granted _ _ _) fit = tt
life_of_legal h (AskDenied _ _ _) fit = tt
life_of_legal h (Started _ _ _) fit = tt
life_of_legal h (StartDenied _ _ _) fit = tt
life_of_legal h (Returned _) fit = tt
life_of_legal h (Finished _) fit = tt
life_of_legal h (Swept _ _) fit = tt

entries_of_legal : (h : History) (later : List Entry) → IsLegal (followed_by h later) → All HasFields later → All (IsEntry Two) later
entries_of_legal h [] legal fields = All-nil (IsEntry Two)
entries_of_legal h (e ∷ later) legal fields =
    All-cons (IsEntry Two) e later
    (record { fields = All-head HasFields e later fields; life = life_of_legal h e (legal_before (h ▸ e) later legal).1 })
    (entries_of_legal (h ▸ e) later legal (All-tail HasFields e later fields))

pub exported : (g : Gate) → HasLegalHistory g → AreLimits g.limits → room g ≤ g.limits.log_limit → All HasFields g.entries → g.base ≡ empty_base → IsExport Two g.entries
exported g legal limits within fields empty =
    let all : IsLegal (history_of g.entries) = subst (λ (b : Base). IsLegal (followed_by (from b) g.entries)) empty legal in
    record {
      spelled = entries_of_legal (from empty_base) g.entries all fields;
      legal = all;
      within = omega (arith, within, limits.entries);
    }

pub on_ok : {T E P : Type 0} → (r : Result T E) → P → OnOk r P
on_ok (Ok _) p = p
on_ok (Err _) p = tt

-- ---- segments

pub segment_text : (s : Sealed) → IsLegal (history_in s) → AllRise (from s.base) s.entries → All IsSlotGrant s.base.grants → IsInOrder s.base → (0 < s.base.entries → HasBaseFields s.base) →
    All HasFields s.entries → IsSegmentText s
segment_text s legal rises grants order base fields =
    let entries = entries_of_legal (from s.base) s.entries legal fields in
    record {
      legal = legal;
      entries = entries;
      base = base;
      text = λ can. record {
        follows = elim can.begins [
          | inl none ↦ inl none
          | inr some ↦ inr (record {
            base = record { fields = base some; slots = grants; base = legal_before (from s.base) s.entries legal; order = order; some = some };
            version = refl;
            rises = rises;
          })
        ];
        spelled = entries;
        legal = legal;
        within = can.within;
        counted = can.counted;
      };
    }

-- the segment of a base and entries
abbrev pub segment_with : Base → List Entry → Sealed
segment_with b es = record { base = b; entries = es }

pub segment_same : (b : Base) (es : List Entry) (s : Sealed) → b ≡ s.base → es ≡ s.entries → segment_with b es ≡ s
segment_same b es s base entries = λ i. record { base = base i; entries = entries i }

pub first_segment : (b : Base) (es : List Entry) → b.entries ≡ 0 → spell_segment (record { base = b; entries = es }) ≡ spell Two es
first_segment b es zero = ap (λ n. cond (n == 0) (spell Two es) (base_text b ++ entry_lines Two es)) zero

pub later_segment : (b : Base) (es : List Entry) → b.entries ≢ 0 → spell_segment (record { base = b; entries = es }) ≡ base_text b ++ entry_lines Two es
later_segment b es some =
    let test : (b.entries == 0) ≡ false = grind (arith, nat_tests) in
    ap (λ t. cond t (spell Two es) (base_text b ++ entry_lines Two es)) test

pub flush_cut : {T E : Type 0} (a b c : Option (List ℕ)) (text pending : List ℕ) (result : Result T E) → Passes a b text pending →
    OnErr result (AppendsPrefix b c pending) → OnErr result (AppendsPrefix a c text)
flush_cut a b c text pending (Ok _) passes cut = tt
flush_cut a b c text pending (Err _) passes cut = Passes-cut-all a b c text pending passes cut

-- ---- the parts of a base

lines_map : {X : Type 0} (line : X → List ℕ) (xs : List X) → lines_text (map line xs) ≡ flat_map (λ x. ended (line x)) xs
lines_map line [] = refl
lines_map line (x ∷ xs) = ap (λ l. ended (line x) ++ l) (lines_map line xs)

lines_before : {X : Type 0} (line : X → List ℕ) (xs : List X) (later : List (List ℕ)) → lines_text (map line xs ++ later) ≡ flat_map (λ x. ended (line x)) xs ++ lines_text later
lines_before line xs later = flat_map-append ended (map line xs) later ∙ ap (λ l. l ++ lines_text later) (lines_map line xs)

lines_then : {X : Type 0} (line : X → List ℕ) (xs : List X) (later end : List (List ℕ)) → lines_text ((map line xs ++ later) ++ end) ≡ flat_map (λ x. ended (line x)) xs ++ lines_text (later ++ end)
lines_then line xs later end = ap lines_text (append_assoc (map line xs) later end) ∙ lines_before line xs (later ++ end)

pub open_parts : (b : Base) (end : List (List ℕ)) → lines_text (open_lines b ++ end)
    ≡ flat_map (λ s. ended (answer_line s)) b.standing
    ++ (flat_map (λ t. ended (turn_line t)) b.in_flight
    ++ (flat_map (λ g. ended (grant_line g)) b.grants
    ++ (flat_map (λ p. ended (unspent_line p)) b.unspent
    ++ (flat_map (λ p. ended (running_line p)) b.running ++ lines_text end))))
open_parts b end =
    let permits = map unspent_line b.unspent ++ map running_line b.running in
    let grants = map grant_line b.grants ++ permits in
    let turns = map turn_line b.in_flight ++ grants in
    lines_then answer_line b.standing turns end
    ∙ ap (λ l. flat_map (λ s. ended (answer_line s)) b.standing ++ l) (lines_then turn_line b.in_flight grants end
    ∙ ap (λ l. flat_map (λ t. ended (turn_line t)) b.in_flight ++ l) (lines_then grant_line b.grants permits end
    ∙ ap (λ l. flat_map (λ g. ended (grant_line g)) b.grants ++ l) (lines_then unspent_line b.unspent (map running_line b.running) end
    ∙ ap (λ l. flat_map (λ p. ended (unspent_line p)) b.unspent ++ l) (lines_before running_line b.running end))))

pub parts_same : (b : Base) (hs : List StandingAnswer) (is : List Turn) (ls : List SlotGrant) (us ys : List GrantedPermit) →
    hs ≡ b.standing → is ≡ b.in_flight → ls ≡ b.grants → us ≡ b.unspent → ys ≡ b.running →
    ended (codes "V 3") ++ (ended (numbers_line b)
    ++ (flat_map (λ s. ended (answer_line s)) hs
    ++ (flat_map (λ t. ended (turn_line t)) is
    ++ (flat_map (λ g. ended (grant_line g)) ls
    ++ (flat_map (λ p. ended (unspent_line p)) us
    ++ (flat_map (λ p. ended (running_line p)) ys ++ (ended (codes "E") ++ []))))))) ≡ base_text b
parts_same b hs is ls us ys h i l u y =
    (λ k. ended (codes "V 3") ++ (ended (numbers_line b)
    ++ (flat_map (λ s. ended (answer_line s)) (h k)
    ++ (flat_map (λ t. ended (turn_line t)) (i k)
    ++ (flat_map (λ g. ended (grant_line g)) (l k)
    ++ (flat_map (λ p. ended (unspent_line p)) (u k)
    ++ (flat_map (λ p. ended (running_line p)) (y k) ++ (ended (codes "E") ++ []))))))))
    ∙ sym (ap (λ text. ended (codes "V 3") ++ (ended (numbers_line b) ++ text)) (open_parts b (codes "E" ∷ [])))

pub ok_so : {T E P Q : Type 0} → (r : Result T E) → OnOk r P → (P → Q) → OnOk r Q
ok_so (Ok _) p so = so p
ok_so (Err _) p so = tt

pub middle_parts : (P : BasePart → Type 0) (a b c d e f g h : BasePart) → All P (a ∷ b ∷ c ∷ d ∷ e ∷ f ∷ g ∷ h ∷ []) → P b × P c × P d × P e × P f × P g
middle_parts P a b c d e f g h all =
    let at1 = All-tail P a (b ∷ c ∷ d ∷ e ∷ f ∷ g ∷ h ∷ []) all in
    let at2 = All-tail P b (c ∷ d ∷ e ∷ f ∷ g ∷ h ∷ []) at1 in
    let at3 = All-tail P c (d ∷ e ∷ f ∷ g ∷ h ∷ []) at2 in
    let at4 = All-tail P d (e ∷ f ∷ g ∷ h ∷ []) at3 in
    let at5 = All-tail P e (f ∷ g ∷ h ∷ []) at4 in
    let at6 = All-tail P f (g ∷ h ∷ []) at5 in (
      All-head P b (c ∷ d ∷ e ∷ f ∷ g ∷ h ∷ []) at1,
      All-head P c (d ∷ e ∷ f ∷ g ∷ h ∷ []) at2,
      All-head P d (e ∷ f ∷ g ∷ h ∷ []) at3,
      All-head P e (f ∷ g ∷ h ∷ []) at4,
      All-head P f (g ∷ h ∷ []) at5,
      All-head P g (h ∷ []) at6,
    )
