-- A tape that is cut where it was cut before.
-- Used by the proofs of `end_text`.
use Rattle.std.proofs.Common.{◌≡◌, ◌≤◌, ℕ, List, ◌++◌, length, take, refl, sym, ap, subst, ◌∙◌, arith}
use Rattle.std.specs.Prelude.{Option, None, Some, Result, Ok, Err, OnOk, OnErr, is_ok, is_err, false}
use Rattle.std.proofs.lemmas.Grind.{common_steps}
use Rattle.std.proofs.lemmas.List.{take_all}
use Rattle.std.specs.Io.KnownBytes.{Appends}
use Rattle.counted_io.specs.Device.{AppendsPrefix}
use Rattle.journal.specs.Cutting.{Cuts}

cut_grown : (size : ℕ) (octets more all : List ℕ) → size ≤ length octets → all ≡ take size octets ++ more
    → (size ≤ length all) × (take size all ≡ take size octets)
cut_grown size octets more all fits grown = grind (arith, common_steps)

-- what was appended since a cut is gone after the same cut
pub cut_again : (size : ℕ) (old cut longer new : Option (List ℕ)) (text : List ℕ) → Cuts size old cut
    → AppendsPrefix cut longer text → Cuts size longer new → Cuts size old new
cut_again size old cut None new text first appended second octets is fits =
    absurd (subst (λ known. Appends known None (take appended.0 text)) (first octets is fits) appended.1)
cut_again size old cut (Some all) new text first appended second octets is fits =
    let grown : all ≡ take size octets ++ take appended.0 text =
    subst (λ known. Appends known (Some all) (take appended.0 text)) (first octets is fits) appended.1 in
    let both = cut_grown size octets (take appended.0 text) all fits grown in
    second all refl both.0 ∙ ap Some both.1

-- a call that fails after all octets were appended, and changes nothing, leaves a prefix of them
pub prefix_on_err : {T E : Type 0} (r : Result T E) (old mid new : Option (List ℕ)) (octets : List ℕ) → Appends old mid octets
    → new ≡ mid → OnErr r (AppendsPrefix old new octets)
prefix_on_err (Ok _) old mid new octets appended same = tt
prefix_on_err (Err _) old mid new octets appended same = (
  length octets,
  subst (λ known. Appends old known (take (length octets) octets)) (sym same)
      (subst (Appends old mid) (sym (take_all (length octets) octets (omega arith))) appended),
)

-- after a cut that worked and a text that could not be appended, the same cut leaves nothing of the text
pub undone : {T E T' E' : Type 0} (first : Result T E) (second : Result T' E') (size : ℕ) (old cut longer new : Option (List ℕ))
    (text : List ℕ) → is_err first ≡ false → OnOk first (Cuts size old cut) → is_ok second ≡ false
    → OnErr second (AppendsPrefix cut longer text) → Cuts size longer new → Cuts size old new
undone (Ok _) (Err _) size old cut longer new text worked cuts failed appended again =
    cut_again size old cut longer new text cuts appended again
undone (Ok _) (Ok _) size old cut longer new text worked cuts failed appended again = absurd (cc)
undone (Err _) second size old cut longer new text worked cuts failed appended again = absurd (cc)
