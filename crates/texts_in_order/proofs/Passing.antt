-- Texts that are passed on, one by one.
-- Used by the proofs of `TextsInOrder`.
use Rattle.std.proofs.Common.{◌≡◌, ◌<◌, ℕ, ◌+◌, List, [], ◌∷◌, ◌++◌, length, take, drop, get_or, set, refl, sym, ap, subst, ◌∙◌, append_assoc, append-nil, arith}
use Rattle.std.specs.Prelude.{Option, None, Some, Result, Ok, Err, OnOk, OnErr, Vec}
use Rattle.std.specs.List.{concat, slice_get}
use Rattle.std.specs.Io.KnownBytes.{Appends}
use Rattle.std.specs.declared.alloc.Global.{Global}
use Rattle.std.proofs.lemmas.Grind.{common_steps}
use Rattle.std.proofs.lemmas.List.{get_or_default, take_all, take_more, take-append-drop}
use Rattle.std.proofs.lemmas.Option.{get_or_from_slice_get, slice_get_within}
use Rattle.counted_io.specs.Device.{AppendsPrefix}
use Rattle.counted_io.specs.Output.{Passes}
use Rattle.counted_io.proofs.CallerLemmas.{Passes-cut, Passes-cut-all, Passes-push, Passes-written, prefix_longer}
use Rattle.texts_in_order.specs.Order.{AreInOrder, OrderView, StaysInOrder, TakesText, WritesPrefix, waiting_at}

pub concat-append : (xs ys : List (List ℕ)) → concat (xs ++ ys) ≡ concat xs ++ concat ys
concat-append [] ys = refl
concat-append (x ∷ xs) ys = ap (λ l. x ++ l) (concat-append xs ys) ∙ sym (append_assoc x (concat xs) (concat ys))

-- the first texts and one more
pub concat_more : (texts : List (List ℕ)) (n : ℕ) (text : List ℕ) → slice_get texts n ≡ Some text
    → concat (take n texts) ++ text ≡ concat (take (n + 1) texts)
concat_more texts n text is =
    let more = take_more texts n text (slice_get_within texts n text is) in
    let one = ap (λ (t : List ℕ). take n texts ++ t ∷ []) (get_or_from_slice_get texts n text text is) in
    sym (ap concat (more ∙ one) ∙ concat-append (take n texts) (text ∷ []) ∙ ap (λ l. concat (take n texts) ++ l) (append-nil text))

-- the first texts and the others
pub concat_rest : (texts : List (List ℕ)) (n : ℕ) → concat (take n texts) ++ concat (drop n texts) ≡ concat texts
concat_rest texts n = sym (concat-append (take n texts) (drop n texts)) ∙ ap concat (take-append-drop n texts)

-- a prefix of the first texts is one of all
pub prefix_of_all : (start written : Option (List ℕ)) (texts : List (List ℕ)) (n : ℕ)
    → AppendsPrefix start written (concat (take n texts)) → AppendsPrefix start written (concat texts)
prefix_of_all start written texts n p =
    subst (AppendsPrefix start written) (concat_rest texts n) (prefix_longer start written (concat (take n texts)) (concat (drop n texts)) p)

-- what was written of octets that are passed on is a prefix of them
pub passed_prefix : (start written : Option (List ℕ)) (text pending : List ℕ)
    → Passes start written text pending → AppendsPrefix start written text
passed_prefix start written text pending p =
    let all : take (length p.front) p.front ≡ p.front = grind (arith, common_steps) in
    subst (AppendsPrefix start written) (sym p.split)
    (prefix_longer start written p.front pending (length p.front, subst (Appends start written) (sym all) p.wrote))

-- one more text is passed on
pub one_more : (texts : List (List ℕ)) (start written written' : Option (List ℕ)) (old new : OrderView) (text : List ℕ)
    → AreInOrder texts start written old → slice_get texts old.next ≡ Some text
    → Passes written written' (old.pending ++ text) new.pending → new.next ≡ old.next + 1
    → length new.kept ≡ length old.kept
    → ((number : ℕ) (kept : Vec ℕ Global) → waiting_at new.kept number ≡ Some kept → waiting_at old.kept number ≡ Some kept)
    → AreInOrder texts start written' new
one_more texts start written written' old new text p is passes next same fits =
    let below : old.next < length texts = slice_get_within texts old.next text is in record {
      count = same ∙ p.count;
      within = omega (arith, below, next);
      passed = subst (λ n. Passes start written' (concat (take n texts)) new.pending) (sym next)
          (subst (λ l. Passes start written' l new.pending) (concat_more texts old.next text is)
          (Passes-push start written written' (concat (take old.next texts)) old.pending text new.pending p.passed passes));
      kept = λ number kept there waits. p.kept number kept there (fits number kept waits);
    }

-- a write that fails within one more text
pub cut_more : (texts : List (List ℕ)) (start written written' : Option (List ℕ)) (old : OrderView) (text : List ℕ)
    → AreInOrder texts start written old → slice_get texts old.next ≡ Some text
    → AppendsPrefix written written' (old.pending ++ text) → AppendsPrefix start written' (concat texts)
cut_more texts start written written' old text p is cut =
    prefix_of_all start written' texts (old.next + 1)
    (subst (AppendsPrefix start written') (concat_more texts old.next text is)
    (Passes-cut start written written' (concat (take old.next texts)) old.pending text p.passed cut))

-- what is written of texts in order is a prefix of all
pub order_prefix : (texts : List (List ℕ)) (start written : Option (List ℕ)) (order : OrderView)
    → AreInOrder texts start written order → AppendsPrefix start written (concat texts)
order_prefix texts start written order p =
    prefix_of_all start written texts order.next (passed_prefix start written (concat (take order.next texts)) order.pending p.passed)

-- octets that were appended are a prefix of themselves
pub as_prefix : (a b : Option (List ℕ)) (octets : List ℕ) → Appends a b octets → AppendsPrefix a b octets
as_prefix a b octets appended = (length octets, subst (Appends a b) (sym (take_all (length octets) octets (omega arith))) appended)

-- what a flush of the pending octets leaves is a prefix of all texts
pub flush_prefix : {T E : Type 0} (r : Result T E) (written written' : Option (List ℕ)) (order : OrderView)
    → OnOk r (Appends written written' order.pending) → OnErr r (AppendsPrefix written written' order.pending)
    → WritesPrefix written written' order
flush_prefix (Ok _) written written' order whole cut texts start p =
    prefix_of_all start written' texts order.next
    (Passes-cut-all start written written' (concat (take order.next texts)) order.pending p.passed (as_prefix written written' order.pending whole))
flush_prefix (Err _) written written' order whole cut texts start p =
    prefix_of_all start written' texts order.next
    (Passes-cut-all start written written' (concat (take order.next texts)) order.pending p.passed cut)

-- a flush leaves the texts in order
pub flushed : {T E : Type 0} (r : Result T E) (written written' : Option (List ℕ)) (old new : OrderView)
    → new.next ≡ old.next → new.kept ≡ old.kept → new.pending ≡ [] → OnOk r (Appends written written' old.pending)
    → OnOk r (StaysInOrder written written' old new)
flushed (Err _) written written' old new next kept pending whole = tt
flushed (Ok _) written written' old new next same pending whole = λ texts start p.
    let all = concat (take old.next texts) in
    let wrote : Appends start written' all = subst (Appends start written') (append-nil all)
    (Passes-written start written written' all old.pending [] p.passed
    (subst (Appends written written') (sym (append-nil old.pending)) whole)) in
    let split : all ≡ all ++ [] = sym (append-nil all) in
    let passed : Passes start written' all [] = record { front = all; wrote = wrote; split = split } in record {
      count = ap length same ∙ p.count;
      within = omega (arith, next, p.within);
      passed = subst (λ left. Passes start written' (concat (take new.next texts)) left) (sym pending)
          (subst (λ n. Passes start written' (concat (take n texts)) []) (sym next) passed);
      kept = λ number text there waits. p.kept number text there (subst (λ k. waiting_at k number ≡ Some text) same waits);
    }

-- an empty text is passed on
pub blank_next : (texts : List (List ℕ)) (start written : Option (List ℕ)) (order : OrderView)
    → slice_get texts order.next ≡ Some [] → AreInOrder texts start written order
    → AreInOrder texts start written (record { next = order.next + 1; kept = order.kept; pending = order.pending })
blank_next texts start written order is p =
    let below = slice_get_within texts order.next [] is in record {
      count = p.count;
      within = omega (arith, below);
      passed = subst (λ l. Passes start written l order.pending) (sym (append-nil (concat (take order.next texts))) ∙ concat_more texts order.next [] is) p.passed;
      kept = p.kept;
    }

-- what is read at a number waits there
pub waits_there : (kept : List (Option (Vec ℕ Global))) (i : ℕ) (x : Option (Vec ℕ Global)) → i < length kept
    → x ≡ get_or kept i x → waiting_at kept i ≡ x
waits_there kept i x there is = get_or_default kept i None x there ∙ sym is

-- once a number is emptied, each text that waits did so before
pub emptied : (kept : List (Option (Vec ℕ Global))) (i : ℕ) (x : Option (Vec ℕ Global)) → i < length kept → x ≡ None
    → (number : ℕ) (text : Vec ℕ Global) → waiting_at (set kept i x) number ≡ Some text → waiting_at kept number ≡ Some text
emptied kept i x there none number text waits = grind (arith, common_steps)

-- what a text needs stays with all calls after it
pub taken_through : {T E : Type 0} (r : Result T E) (number : ℕ) (text : List ℕ) (a b c : Option (List ℕ)) (old mid new : OrderView)
    → TakesText number text a b old mid → OnOk r (StaysInOrder b c mid new) → OnOk r (TakesText number text a c old new)
taken_through (Ok _) number text a b c old mid new first rest = λ texts start is p. rest texts start (first texts start is p)
taken_through (Err _) number text a b c old mid new first rest = tt
