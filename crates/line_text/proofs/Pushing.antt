-- How much of a row of texts passes to an output.
-- Used by the answers of all that pushes one text after another.
use Rattle.std.proofs.Common.{◌≡◌, ◌<◌, ◌+◌, ℕ, suc, List, ◌++◌, Option, length, take, drop, get_or, flat_map, ap, sym, ◌∙◌, subst, append_assoc, drop-cons, rules}
use Rattle.std.proofs.lemmas.List.{take-append-drop, flat_map_more, take_more}
use Rattle.std.proofs.lemmas.List.Concat.{flat_map-append}
use Rattle.std.specs.Prelude.{Result, Ok, Err, IsErr}
use Rattle.counted_io.specs.Device.{AppendsPrefix, one_more}
use Rattle.counted_io.specs.Output.{Passes, Pushes}
use Rattle.counted_io.proofs.CallerLemmas.{Passes-cut, Passes-cut-piece, Passes-pieces, Passes-push, prefix_longer}

pub cut_at : {X : Type 0} (f : X → List ℕ) (xs : List X) (i : ℕ) (d : X) → i < length xs →
    flat_map f xs ≡ flat_map f (take i xs) ++ (f (get_or xs i d) ++ flat_map f (drop (suc i) xs))
cut_at f xs i d within =
    ap (flat_map f) (sym (take-append-drop i xs)) ∙ flat_map-append f (take i xs) (drop i xs)
    ∙ ap (λ l. flat_map f (take i xs) ++ flat_map f l) (drop-cons xs i d within)

pub row_more : {X : Type 0} (f : X → List ℕ) (xs : List X) (i : ℕ) (d : X) (a b c : Option (List ℕ)) (first pending left : List ℕ) → i < length xs →
    Passes a b (first ++ flat_map f (take i xs)) pending → Passes b c (pending ++ f (get_or xs i d)) left →
    Passes a c (first ++ flat_map f (take (i + 1) xs)) left
row_more f xs i d a b c first pending left within before this =
    subst (λ (text : List ℕ). Passes a c text left)
    (flat_map_more f first (take i xs) (get_or xs i d) ∙ ap (λ l. first ++ flat_map f l) (sym (take_more xs i d within)))
    (Passes-push a b c (first ++ flat_map f (take i xs)) pending (f (get_or xs i d)) left before this)

pub row_cut : {X : Type 0} (f : X → List ℕ) (xs : List X) (i : ℕ) (d : X) (a b c : Option (List ℕ)) (first pending : List ℕ) → i < length xs →
    Passes a b (first ++ flat_map f (take i xs)) pending → AppendsPrefix b c (pending ++ f (get_or xs i d)) →
    AppendsPrefix a c (first ++ flat_map f xs)
row_cut f xs i d a b c first pending within before this =
    let text : List ℕ = first ++ flat_map f (take i xs) in
    let piece : List ℕ = f (get_or xs i d) in
    let later : List ℕ = flat_map f (drop (suc i) xs) in
    subst (AppendsPrefix a c)
    (append_assoc text piece later ∙ append_assoc first (flat_map f (take i xs)) (piece ++ later) ∙ ap (λ l. first ++ l) (sym (cut_at f xs i d within)))
    (prefix_longer a c (text ++ piece) later (Passes-cut a b c text pending piece before this))

pub pushes_cut : {T E : Type 0} (a c : Option (List ℕ)) (failures failures' : ℕ) (pending left octets : List ℕ) (result : Result T E) → IsErr result →
    AppendsPrefix a c (pending ++ octets) → failures' ≡ one_more failures → Pushes a c failures failures' pending left octets result
pushes_cut a c failures failures' pending left octets (Ok x) failed cut count = search rules
pushes_cut a c failures failures' pending left octets (Err e) failed cut count = record { ok = tt; err = cut; count = count }

pub pushes_then : {T E : Type 0} (a b c : Option (List ℕ)) (f f' f'' : ℕ) (pending mid left xs ys : List ℕ) (result : Result T E) →
    Passes a b (pending ++ xs) mid → f' ≡ f → Pushes b c f' f'' mid left ys result → Pushes a c f f'' pending left (xs ++ ys) result
pushes_then a b c f f' f'' pending mid left xs ys (Ok x) before same then =
    record { ok = Passes-pieces a b c pending xs mid ys left before then.ok; err = tt; count = then.count ∙ same }
pushes_then a b c f f' f'' pending mid left xs ys (Err e) before same then =
    record { ok = tt; err = Passes-cut-piece a b c pending xs mid ys before then.err; count = then.count ∙ ap one_more same }
