-- Parts of a list of octets: they stay when octets are appended.
-- Used by `Rows` and `Rewritten`.
use Rattle.std.proofs.Common.{◌≡◌, ℕ, ◌+◌, ◌≤◌, All, List, [], ◌∷◌, ◌++◌, length, map, take, drop, refl, sym, ap, ◌∙◌, subst, arith, length-append}
use Rattle.std.proofs.lemmas.List.{drop-append-le, take-append-le, length-drop, length-take, map-append}
use Rattle.std.proofs.lemmas.List.Elements.{All-head, All-push, All-tail, All-weaker}
use Rattle.std.proofs.Math.Seq.{drop-append_seam, take-length}
use Rattle.robots_verdict.specs.Rows.{part}

part_more : (octets more : List ℕ) (start len : ℕ) → start + len ≤ length octets → part (octets ++ more) start len ≡ part octets start len
part_more octets more start len there =
    let begins : start ≤ length octets = omega arith in
    let rest : len ≤ length (drop start octets) = omega (arith, length-drop start octets) in
    ap (take len) (drop-append-le start octets more begins) ∙ take-append-le len (drop start octets) more rest

new_part : (octets form : List ℕ) → part (octets ++ form) (length octets) (length form) ≡ form
new_part octets form = ap (take (length form)) (drop-append_seam octets form) ∙ take-length form

pub part_length : (octets : List ℕ) (start len : ℕ) → start + len ≤ length octets → length (part octets start len) ≡ len
part_length octets start len there = omega (arith, length-take len (drop start octets), length-drop start octets)

-- each x points to a part, and is seen as made of itself and that part
module _ {X Y : Type 0} (start len : X → ℕ) (make : X → List ℕ → Y) where
  abbrev pub Points : List ℕ → X → Type 0
  Points octets x = start x + len x ≤ length octets

  abbrev pub seen : List ℕ → X → Y
  seen octets x = make x (part octets (start x) (len x))

  pub there_more : (octets more : List ℕ) (xs : List X) → length octets ≤ length more → All (Points octets) xs → All (Points more) xs
  there_more octets more xs longer there = All-weaker (Points octets) (Points more) (λ x is. omega (arith, is, longer)) xs there

  seen_more : (octets more : List ℕ) (xs : List X) → All (Points octets) xs → map (seen (octets ++ more)) xs ≡ map (seen octets) xs
  seen_more octets more [] there = refl
  seen_more octets more (x ∷ xs) there =
      let here = part_more octets more (start x) (len x) (All-head (Points octets) x xs there) in
      let later = seen_more octets more xs (All-tail (Points octets) x xs there) in
      λ i. make x (here i) ∷ later i

  pub pushed : (octets form new : List ℕ) (xs more : List X) (x : X) → All (Points octets) xs → new ≡ octets ++ form → more ≡ xs ++ x ∷ [] →
      start x ≡ length octets → len x ≡ length form → map (seen new) more ≡ map (seen octets) xs ++ make x form ∷ []
  pushed octets form new xs more x there is with_x begins long =
      let last : seen (octets ++ form) x ≡ make x form = ap (make x) ((λ i. part (octets ++ form) (begins i) (long i)) ∙ new_part octets form) in
      (λ i. map (seen (is i)) (with_x i)) ∙ map-append (seen (octets ++ form)) xs (x ∷ []) ∙ (λ i. seen_more octets form xs there i ++ last i ∷ [])

  pub all_there : (octets form new : List ℕ) (xs more : List X) (x : X) → All (Points octets) xs → new ≡ octets ++ form → more ≡ xs ++ x ∷ [] →
      start x ≡ length octets → len x ≡ length form → All (Points new) more
  all_there octets form new xs more x there is with_x begins long =
      let total = length-append octets form in
      let longer : length octets ≤ length new = omega (arith, ap length is, total) in
      let fits : start x + len x ≤ length new = omega (arith, ap length is, total, begins, long) in
      subst (All (Points new)) (sym with_x) (All-push (Points new) xs x (there_more octets new xs longer there) fits)
