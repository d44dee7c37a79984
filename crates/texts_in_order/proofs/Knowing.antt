-- Texts of which some are not known, and count as empty.
-- Used by the proof of `finish_known`.
use Rattle.std.proofs.Common.{◌≡◌, ◌<◌, ◌≤◌, ℕ, zero, suc, ◌+◌, ◌++◌, List, [], ◌∷◌, length, take, refl, sym, ap, subst, ◌∙◌, append-nil, add-zero, true, false, if◌then◌else◌, arith}
use Rattle.std.specs.Prelude.{Option, None, Some, OnOk, Result, Ok, Err, Vec}
use Rattle.std.specs.List.{concat, slice_get}
use Rattle.std.specs.Io.KnownBytes.{Appends}
use Rattle.std.specs.declared.alloc.Global.{Global}
use Rattle.std.proofs.lemmas.Grind.{common_steps}
use Rattle.std.proofs.lemmas.List.{take_all}
use Rattle.std.proofs.lemmas.Option.{get_or_from_slice_get, slice_get-get_or}
use Rattle.counted_io.specs.Output.{Passes}
use Rattle.counted_io.proofs.CallerLemmas.{Passes-push, Passes-written}
use Rattle.texts_in_order.specs.Order.{AreInOrder, FinishesKnown, GoesPast, OrderView, is_known, known_of, text_at, waiting_at}

-- a text that is known, or none
abbrev known_text : OrderView → ℕ → List ℕ → List ℕ
known_text order number text = if is_known order number then text else []

pub length-known_of : (order : OrderView) (n : ℕ) (texts : List (List ℕ)) → length (known_of order n texts) ≡ length texts
length-known_of order n [] = refl
length-known_of order n (text ∷ later) = ap suc (length-known_of order (n + 1) later)

pub known_at : (order : OrderView) (n i : ℕ) (texts : List (List ℕ)) (text : List ℕ) → slice_get texts i ≡ Some text
    → slice_get (known_of order n texts) i ≡ Some (known_text order (n + i) text)
known_at order n i [] text is = absurd (cc)
known_at order n zero (first ∷ later) text is =
    let same : first ≡ text = cc in
    ap (λ t. Some (known_text order n t)) same ∙ ap (λ m. Some (known_text order m text)) (sym (add-zero n))
known_at order n (suc i) (first ∷ later) text is =
    let next : (n + 1) + i ≡ n + suc i = omega arith in
    known_at order (n + 1) i later text is ∙ ap (λ m. Some (known_text order m text)) next

from_zero : (n : ℕ) → 0 + n ≡ n
from_zero n = omega arith

-- what was passed on is known
passed_is_known : (order : OrderView) (number : ℕ) → number < order.next → is_known order number ≡ true
passed_is_known order number there = grind (arith, common_steps)

-- a text that waits is known
waiting_is_known : (order : OrderView) (number : ℕ) (text : Vec ℕ Global) → waiting_at order.kept number ≡ Some text → is_known order number ≡ true
waiting_is_known order number text waits = grind (arith, common_steps)

-- a text that was not passed on and does not wait is not known
is_unknown : (order : OrderView) (number : ℕ) → order.next ≤ number → waiting_at order.kept number ≡ None → is_known order number ≡ false
is_unknown order number there none = grind (arith, common_steps)

-- the texts that were passed on are all known
take_known : (order : OrderView) (n m : ℕ) (texts : List (List ℕ)) → n + m ≤ order.next → take m (known_of order n texts) ≡ take m texts
take_known order n zero texts there = refl
take_known order n (suc m) [] there = refl
take_known order n (suc m) (text ∷ later) there =
    let known : is_known order n ≡ true = passed_is_known order n (omega (arith, there)) in
    let first : known_text order n text ≡ text = ap (λ b. if b then text else []) known in
    ap (λ t. t ∷ take m (known_of order (n + 1) later)) first ∙ ap (λ l. text ∷ l) (take_known order (n + 1) m later (omega (arith, there)))

-- texts in order are so, too, if those that are not known are taken as empty
pub known_in_order : (texts : List (List ℕ)) (start written : Option (List ℕ)) (order : OrderView)
    → AreInOrder texts start written order → AreInOrder (known_of order 0 texts) start written order
known_in_order texts start written order p =
    let many = length-known_of order 0 texts in record {
      count = p.count ∙ sym many;
      within = omega (arith, many, p.within);
      passed = subst (λ l. Passes start written (concat l) order.pending) (sym (take_known order 0 order.next texts (omega arith))) p.passed;
      kept = λ number text there waits.
          let own = p.kept number text (omega (arith, many, there)) waits in
          known_at order 0 number texts text.items own ∙ ap (λ m. Some (known_text order m text.items)) (from_zero number)
          ∙ ap (λ b. Some (if b then text.items else [])) (waiting_is_known order number text waits);
    }

-- the texts that are known were passed on from the old order to the new one
pub record KnownSoFar (written written' : Option (List ℕ)) (old new : OrderView) : Type 0 where
  pub further : old.next ≤ new.next
  pub count : length new.kept ≡ length old.kept
  pub later : (number : ℕ) → new.next ≤ number → waiting_at new.kept number ≡ waiting_at old.kept number
  pub order : (texts : List (List ℕ)) (start : Option (List ℕ))
      → AreInOrder texts start written old → AreInOrder (known_of old 0 texts) start written' new

pub known_at_first : (written : Option (List ℕ)) (order : OrderView) → KnownSoFar written written order order
known_at_first written order = record {
  further = omega arith;
  count = refl;
  later = λ number there. refl;
  order = λ texts start p. known_in_order texts start written order p;
}

-- a number of texts that are known is that of texts
blank_at : (old : OrderView) (texts : List (List ℕ)) (number : ℕ) → number < length texts → old.next ≤ number
    → waiting_at old.kept number ≡ None → text_at (known_of old 0 texts) number ≡ []
blank_at old texts number there behind none =
    let is = known_at old 0 number texts (text_at texts number) (slice_get-get_or texts number [] there)
    ∙ ap (λ m. Some (known_text old m (text_at texts number))) (from_zero number) in
    get_or_from_slice_get (known_of old 0 texts) number (known_text old number (text_at texts number)) [] is
    ∙ ap (λ b. if b then text_at texts number else []) (is_unknown old number behind none)

pub known_further : (a b c : Option (List ℕ)) (old mid new : OrderView) → mid.next < length mid.kept
    → KnownSoFar a b old mid → GoesPast b c mid new → KnownSoFar a c old new
known_further a b c old mid new within so_far past = record {
  further = omega (arith, so_far.further, past.next);
  count = past.count ∙ so_far.count;
  later = λ number there.
      past.later number (omega (arith, there, past.next)) ∙ so_far.later number (omega (arith, there, past.next));
  order = λ texts start p.
      let known = so_far.order texts start p in
      let many = length-known_of old 0 texts in
      let there : mid.next < length texts = omega (arith, within, known.count, many) in
      past.order (known_of old 0 texts) start (omega (arith, there, many))
      (λ none. blank_at old texts mid.next there so_far.further (sym (so_far.later mid.next (omega arith)) ∙ none)) known;
}

-- all known texts and a last one are written
pub known_finished : (a b c d : Option (List ℕ)) (old mid : OrderView) (last pending : List ℕ) → length mid.kept ≤ mid.next
    → KnownSoFar a b old mid → Passes b c (mid.pending ++ last) pending → Appends c d pending → FinishesKnown last a d old
known_finished a b c d old mid last pending ended so_far passes written texts start p =
    let known = so_far.order texts start p in
    let all : take mid.next (known_of old 0 texts) ≡ known_of old 0 texts = take_all mid.next (known_of old 0 texts) (omega (arith, ended, known.count)) in
    let through : Passes start b (concat (known_of old 0 texts)) mid.pending =
    subst (λ l. Passes start b (concat l) mid.pending) all known.passed in
    let pushed = Passes-push start b c (concat (known_of old 0 texts)) mid.pending last pending through passes in
    subst (Appends start d) (append-nil (concat (known_of old 0 texts) ++ last))
    (Passes-written start c d (concat (known_of old 0 texts) ++ last) pending [] pushed
    (subst (Appends c d) (sym (append-nil pending)) written))

pub known_flushed : {T E : Type 0} (r : Result T E) (a b c d : Option (List ℕ)) (old mid : OrderView) (last pending : List ℕ)
    → length mid.kept ≤ mid.next → KnownSoFar a b old mid → Passes b c (mid.pending ++ last) pending
    → OnOk r (Appends c d pending) → OnOk r (FinishesKnown last a d old)
known_flushed (Ok _) a b c d old mid last pending ended so_far passes written =
    known_finished a b c d old mid last pending ended so_far passes written
known_flushed (Err _) a b c d old mid last pending ended so_far passes written = tt
