-- One more entry, and one more text, at the end of a chain.
-- Used by `Reaching`.
use Rattle.std.proofs.Common.{◌≡◌, ◌<◌, List, [], ◌∷◌, ◌++◌, length, flat_map, map, inl, inr, refl, sym, ap, subst, ◌∙◌, arith, append-nil, append_assoc, length-append}
use Rattle.std.proofs.lemmas.List.Concat.{flat_map-append}
use Rattle.std.proofs.lemmas.List.Elements.{All-push}
use Rattle.gate_history.specs.declared.entry.Entry.{Entry}
use Rattle.gate_history.specs.Base.{Base, empty_base, IsBase}
use Rattle.gate_history.specs.History.{entry_count, from}
use Rattle.gate_history.specs.Legal.{IsLegal, MayFollow, Rises}
use Rattle.gate_history.specs.Seal.{SaysAs}
use Rattle.gate_history.proofs.CallerLemmas.{followed_push, rise_push}
use Rattle.gate_core.specs.Limits.{greatest_number, most_entries}
use Rattle.history_text.specs.Texts.{FollowsBase, head_lines, IsText, Text, text_history, text_lines}
use Rattle.crawl_audit.specs.Chains.{AllGoOn, chain_lines, GoesOn}
use Rattle.history_text.specs.Entries.{IsEntry}
use Rattle.history_text.specs.Spell.{entry_line}

-- ---- one more entry at the end of a chain

abbrev pub with_entry : Text → Entry → Text
with_entry t e = record { version = t.version; base = t.base; entries = t.entries ++ e ∷ [] }

pub map_push : {X Y : Type 0} (f : X → Y) (xs : List X) (x : X) → map f (xs ++ x ∷ []) ≡ map f xs ++ f x ∷ []
map_push f [] x = refl
map_push f (y ∷ xs) x = ap (λ l. f y ∷ l) (map_push f xs x)

abbrev pub last_text : Text → List Text → Text
last_text first [] = first
last_text first (t ∷ later) = last_text t later

abbrev pub grow_first : Text → List Text → Entry → Text
grow_first first [] e = with_entry first e
grow_first first (t ∷ later) e = first

abbrev pub grow_later : List Text → Entry → List Text
grow_later [] e = []
grow_later (t ∷ later) e = grow_first t later e ∷ grow_later later e

pub grow_lines : (first : Text) (later : List Text) (e : Entry) → chain_lines (grow_first first later e) (grow_later later e) ≡ chain_lines first later ++ entry_line (last_text first later).version e ∷ []
grow_lines first [] e =
    let f = entry_line first.version in
    append-nil (head_lines first ++ map f (first.entries ++ e ∷ [])) ∙ ap (λ l. head_lines first ++ l) (map_push f first.entries e)
    ∙ sym (append_assoc (head_lines first) (map f first.entries) (f e ∷ [])) ∙ ap (λ l. l ++ f e ∷ []) (sym (append-nil (text_lines first)))
grow_lines first (t ∷ later) e =
    ap (λ l. text_lines first ++ l) (grow_lines t later e) ∙ sym (append_assoc (text_lines first) (chain_lines t later) (entry_line (last_text t later).version e ∷ []))

pub grow_last : (first : Text) (later : List Text) (e : Entry) → last_text (grow_first first later e) (grow_later later e) ≡ with_entry (last_text first later) e
grow_last first [] e = refl
grow_last first (t ∷ later) e = grow_last t later e

-- an entry that may end a text
pub record HasRoomFor (t : Text) (e : Entry) : Type 0 where
  pub spelled : IsEntry t.version e
  pub fit : MayFollow (text_history t) e
  pub rises : FollowsBase t → Rises (text_history t) e
  pub room : length t.entries < most_entries
  pub counted : entry_count (text_history t) < greatest_number

pub base_grows : (t : Text) (e : Entry) → FollowsBase t → Rises (text_history t) e → FollowsBase (with_entry t e)
base_grows t e base rises = record { base = base.base; version = base.version; rises = rise_push (from t.base) t.entries e base.rises rises }

pub text_grows : (t : Text) (e : Entry) → IsText t → HasRoomFor t e → IsText (with_entry t e)
text_grows t e is room =
    let longer = followed_push (from t.base) t.entries e in
    let more = ap entry_count longer in
    let few = room.room in
    let counted = room.counted in
    record {
      follows = elim is.follows [ inl none ↦ inl none | inr base ↦ inr (base_grows t e base (room.rises base)) ];
      spelled = All-push (IsEntry t.version) t.entries e is.spelled room.spelled;
      legal = subst IsLegal (sym longer) (is.legal, room.fit);
      within = omega (arith, length-append t.entries (e ∷ []));
      counted = omega (arith, more);
    }

pub same_base : (t : Text) (later : List Text) (e : Entry) → (grow_first t later e).base ≡ t.base
same_base t [] e = refl
same_base t (u ∷ later) e = refl

pub based : (t : Text) (later : List Text) (e : Entry) → FollowsBase t → HasRoomFor (last_text t later) e → FollowsBase (grow_first t later e)
based t [] e base room = base_grows t e base (room.rises base)
based t (u ∷ later) e base room = base

pub chain_grows : (first : Text) (later : List Text) (e : Entry) → IsText first → AllGoOn (text_history first) later → HasRoomFor (last_text first later) e →
    IsText (grow_first first later e) × AllGoOn (text_history (grow_first first later e)) (grow_later later e)
chain_grows first [] e is all room = (text_grows first e is room, tt)
chain_grows first (t ∷ later) e is all room =
    let on = all.0 in
    let rest = chain_grows t later e on.text all.1 room in (
      is,
      (
        record {
          text = rest.0;
          base = based t later e on.base room;
          says = subst (λ (b : Base). SaysAs (from b) (text_history first)) (sym (same_base t later e)) on.says;
        },
        rest.1,
      ),
    )

-- ---- one more text at the end of a chain

pub snoc_lines : (first : Text) (later : List Text) (t : Text) → chain_lines first (later ++ t ∷ []) ≡ chain_lines first later ++ text_lines t
snoc_lines first later t =
    ap (λ l. text_lines first ++ l) (flat_map-append text_lines later (t ∷ []) ∙ ap (λ l. flat_map text_lines later ++ l) (append-nil (text_lines t)))
    ∙ sym (append_assoc (text_lines first) (flat_map text_lines later) (text_lines t))

pub snoc_last : (first : Text) (later : List Text) (t : Text) → last_text first (later ++ t ∷ []) ≡ t
snoc_last first [] t = refl
snoc_last first (u ∷ later) t = snoc_last u later t

pub snoc_all : (first : Text) (later : List Text) (t : Text) → AllGoOn (text_history first) later → GoesOn (text_history (last_text first later)) t → AllGoOn (text_history first) (later ++ t ∷ [])
snoc_all first [] t all on = (on, tt)
snoc_all first (u ∷ later) t all on = (all.0, snoc_all u later t all.1 on)

pub empty_is_base : IsBase empty_base
empty_is_base = record {
  permits = record {
    numbers_once = λ n. omega arith;
    numbers_granted = λ n some. absurd (omega arith);
    slots_once = λ s. omega arith;
  };
  turns = record {
    flights_once = λ a. omega arith;
    answers_once = λ a. omega arith;
    turns_once = λ n. omega arith;
    turns_begun = λ n some. omega arith;
    flights_begun = refl;
    answers_begun = refl;
    lives = refl;
  };
  counts = omega arith;
}
