-- The base made from the tables may be that of a text, and agrees with the history.
-- Used by `OpenState::next_base`, and where a further text's base was read.
use Rattle.std.proofs.Common.{◌≡◌, ℕ, ◌<◌, All, true, true≢false, List, [], ◌∷◌, codes, filter, inl, inr, refl, sym, subst, ◌∙◌, arith}
use Rattle.std.specs.Prelude.{Option, Some, None}
use Rattle.std.proofs.lemmas.Bool.Decides.{eqb_tells}
use Rattle.std.proofs.lemmas.List.Elements.{All-cons, All-nil}
use Rattle.permit_book.proofs.CallerLemmas.{same_number}
use Rattle.authority_cache.specs.Lists.{TellsCache}
use Rattle.gate_history.specs.declared.base.LeftOpen.{LeftOpen}
use Rattle.gate_history.specs.declared.base.Numbers.{Numbers as BaseNumbers}
use Rattle.gate_history.specs.declared.base.SlotGrant.{SlotGrant}
use Rattle.gate_history.specs.Base.{Base}
use Rattle.gate_history.specs.Grants.{IsSlotGrant, is_in}
use Rattle.gate_history.specs.History.{History, entry_count, from}
use Rattle.gate_history.specs.Kept.{base_with}
use Rattle.gate_history.specs.Legal.{IsLegal}
use Rattle.gate_history.specs.Outstanding.{grants, running, unspent}
use Rattle.gate_history.specs.Seal.{SaySame, SaysAs}
use Rattle.gate_history.specs.Standing.{in_flight, standing}
use Rattle.gate_history.proofs.CallerLemmas.{covered_alike, granted_covered, greatest_alike, greatest_is, keys_say, reordering_says, says_base, says_on}
use Rattle.crawl_audit.specs.declared.open_state.OpenState.{OpenState}
use Rattle.crawl_audit.specs.declared.next_base.NextBase.{NextBase}
use Rattle.history_text.specs.Texts.{IsTextBase}
use Rattle.crawl_audit.specs.Loading.{risen, with_numbers}
use Rattle.crawl_audit.specs.NextBase.{Expects, IsNextOf, TellsLeft, base_in, lines_behind}
use Rattle.crawl_audit.specs.Tables.{Lasts, Tells, TellsAll, TellsNumbers, grants_under}
use Rattle.gate_history.proofs.CallerLemmas.{Among, among_filter}

-- ---- tables that agree with a history

pub tells_alike : (l : OpenState) (h : History) (b : Base) → SaysAs (from b) h → Tells l h → l.numbers.rising ≡ true → Tells l (from b)
tells_alike l h b says tells rising =
    let cache = tells.cache_tells in
    let table = tells.numbers_tell in
    record {
      clock_is = tells.clock_is ∙ sym says.moment;
      begins_are = tells.begins_are ∙ sym says.begun;
      cache_tells = record {
        answers_are = λ a. says.answers.each a ∙ cache.answers_are a;
        turns_are = λ a. says.turns.each a ∙ cache.turns_are a;
      };
      numbers_tell = record {
        unspent_are = λ n. says.permits.each n ∙ table.unspent_are n;
        running_are = λ n. says.runs.each n ∙ table.running_are n;
        grants_are = λ slot. says.slots.each slot ∙ table.grants_are slot;
        granted_are = λ any n. absurd (true≢false (sym rising ∙ any));
        out_noted = table.out_noted;
        out_covered = table.out_covered;
        slots_fit = table.slots_fit;
      };
    }

pub all_alike : (l : OpenState) (h : History) (b : Base) → SaysAs (from b) h → TellsAll l h → l.numbers.rising ≡ true → TellsAll l (from b)
all_alike l h b says all rising = record {
  tells = tells_alike l h b says all.tells rising;
  entries_are = all.entries_are ∙ sym says.entries;
  started_are = all.started_are ∙ sym says.started;
  few = all.few;
}

pub risen_alike : (l : OpenState) (h : History) (b : Base) → SaysAs (from b) h → TellsAll l h → TellsAll (with_numbers l (risen l.numbers)) (from b)
risen_alike l h b says all = all_alike (with_numbers l (risen l.numbers)) h b says risen_all refl
  where
    tells : Tells l h
    tells = all.tells

    table : TellsNumbers l.numbers h
    table = tells.numbers_tell

    risen_all : TellsAll (with_numbers l (risen l.numbers)) h
    risen_all = record {
      tells = record {
        clock_is = tells.clock_is;
        begins_are = tells.begins_are;
        cache_tells = tells.cache_tells;
        numbers_tell = record {
          unspent_are = table.unspent_are;
          running_are = table.running_are;
          grants_are = table.grants_are;
          granted_are = λ any n. absurd (true≢false any);
          out_noted = λ any n none. absurd (true≢false any);
          out_covered = table.out_covered;
          slots_fit = table.slots_fit;
        };
      };
      entries_are = all.entries_are;
      started_are = all.started_are;
      few = all.few;
    }

-- ---- slots and generations

all_among : {X : Type 0} (P : X → Type 0) (xs : List X) → ((x : X) → Among x xs → P x) → All P xs
all_among P [] each = All-nil P
all_among P (x ∷ xs) each = All-cons P x xs (each x (inl refl)) (all_among P xs (λ y there. each y (inr there)))

pub grants_fit : (lasts : Lasts) (gs : List SlotGrant) → ((slot : ℕ) → filter (is_in slot) gs ≡ grants_under slot (lasts slot)) →
    ((slot generation : ℕ) → lasts slot ≡ Some generation → IsSlotGrant (record { slot = slot; generation = generation })) → All IsSlotGrant gs
grants_fit lasts gs are fit =
    all_among IsSlotGrant gs (λ g there. of_slot g (lasts g.slot) refl (subst (Among g) (are g.slot) (among_filter (is_in g.slot) g gs (same_number g.slot) there)))
  where
    of_slot : (g : SlotGrant) (last : Option ℕ) → lasts g.slot ≡ last → Among g (grants_under g.slot last) → IsSlotGrant g
    of_slot g None is there = absurd there
    of_slot g (Some generation) is (inl same) = subst IsSlotGrant (sym same) (fit g.slot generation is)
    of_slot g (Some generation) is (inr there) = absurd there

-- ---- the base

module _ (l : OpenState) (left : LeftOpen) (numbers : BaseNumbers) (lists : TellsLeft l left)
    (begun : numbers.begins ≡ l.begins) (moment : numbers.moment ≡ l.clock) (entries : numbers.entries ≡ l.entries) (started : numbers.started ≡ l.started) where
  pub left_says : (h : History) → TellsAll l h → SaysAs (from (base_with left numbers)) h
  left_says h all = record {
    answers = keys_say.answers left.standing.items (standing h) (λ a. lists.answers a ∙ sym (cache.answers_are a));
    turns = keys_say.turns left.in_flight.items (in_flight h) (λ a. lists.turns a ∙ sym (cache.turns_are a));
    permits = keys_say.permits left.unspent.items (unspent h) (λ n. lists.permits n ∙ sym (table.unspent_are n));
    runs = keys_say.permits left.running.items (running h) (λ n. lists.runs n ∙ sym (table.running_are n));
    slots = same;
    greatest = λ slot. greatest_alike left.grants.items (grants h) same slot ∙ greatest_is h slot;
    granted = λ n is. covered_alike left.grants.items (grants h) same n ∙ granted_covered h n is;
    begun = begun ∙ tells.begins_are;
    moment = moment ∙ tells.clock_is;
    entries = entries ∙ all.entries_are;
    started = started ∙ all.started_are;
  }
    where
      tells : Tells l h
      tells = all.tells

      cache : TellsCache l.cache (standing h) (in_flight h)
      cache = tells.cache_tells

      table : TellsNumbers l.numbers h
      table = tells.numbers_tell

      same : SaySame is_in left.grants.items (grants h)
      same = keys_say.grants left.grants.items (grants h) (λ slot. lists.slots slot ∙ sym (table.grants_are slot))

  next_says : (next : NextBase) → IsNextOf left numbers next → (h : History) → IsLegal h → TellsAll l h → SaysAs (from (base_in next)) h
  next_says next is h legal all =
      let says = left_says h all in
      says_on (from (base_in next)) (from (base_with left numbers)) h (reordering_says (base_with left numbers) (base_in next) (says_base (base_with left numbers) h legal says) is.same) says

  next_text : (next : NextBase) → IsNextOf left numbers next → (h : History) → IsLegal h → TellsAll l h → 0 < entry_count h → IsTextBase (base_in next)
  next_text next is h legal all some =
      let says = next_says next is h legal all in
      let table = all.tells.numbers_tell in
      record {
        fields = is.fields;
        slots = grants_fit _ (base_in next).grants (λ slot. says.slots.each slot ∙ table.grants_are slot) table.slots_fit;
        base = says_base (base_in next) h legal says;
        order = is.order;
        some = let same = says.entries in omega arith;
      }

  pub next_expects : (next : NextBase) → IsNextOf left numbers next → (h : History) → IsLegal h → TellsAll l h → Expects next h (codes "V 3" ∷ [])
  next_expects next is h legal all = elim (eqb_tells next.numbers.entries 0) [
    | inl none ↦ inr (record { none = none.1; entries = sym says.entries ∙ none.1; lines_are = refl })
    | inr some ↦ inl (record {
      base = next_text next is h legal all (let same = says.entries in let apart = some.1 in omega arith);
      says = says;
      rest = lines_behind (base_in next);
      lines_are = refl;
      taken = let none = is.taken in omega arith;
      count = is.count;
    })
  ]
    where
      says : SaysAs (from (base_in next)) h
      says = next_says next is h legal all
