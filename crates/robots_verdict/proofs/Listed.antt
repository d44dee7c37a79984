-- The list of the indices that have a parent.
-- Used by `Parents`.
use Rattle.std.proofs.Common.{◌≡◌, ◌≢◌, ℕ, zero, suc, ◌<◌, All, true, false, inl, inr, List, [], ◌∷◌, ◌++◌, length, map, get_or, refl, ap, ◌∙◌, arith}
use Rattle.std.specs.Prelude.{◌==◌, if◌then◌else◌, nat_lt, Option, Some, None}
use Rattle.std.specs.List.Sorted.{IsNonDecreasingBy, IsPartitionPoint}
use Rattle.std.proofs.lemmas.Bool.{cases_lt, eq-eqb, ltb-false, ltb-true, ne_eqb}
use Rattle.std.proofs.lemmas.List.{get_or-map, length-map}
use Rattle.robots_verdict.specs.declared.parents.Child.{Child}
use Rattle.robots_verdict.specs.Parents.{child, index_of, listed, parent_of}

-- the others of a list of which all hold
tail_of : (P : (ℕ × ℕ) → Type 0) (it : ℕ × ℕ) (its : List (ℕ × ℕ)) → All P (it ∷ its) → All P its
tail_of P it its all k d less = all (suc k) d (omega (arith, less))

head_of : (P : (ℕ × ℕ) → Type 0) (it : ℕ × ℕ) (its : List (ℕ × ℕ)) → All P (it ∷ its) → P it
head_of P it its all = all 0 it (omega arith)

passes : (it : ℕ × ℕ) (its : List (ℕ × ℕ)) (index : ℕ) → it.0 ≢ index → parent_of (it ∷ its) index ≡ parent_of its index
passes it its index other = ap (λ b. if b then Some it.1 else parent_of its index) (ne_eqb it.0 index other)

pub finds : (it : ℕ × ℕ) (its : List (ℕ × ℕ)) (index : ℕ) → it.0 ≡ index → parent_of (it ∷ its) index ≡ Some it.1
finds it its index same = ap (λ b. if b then Some it.1 else parent_of its index) (eq-eqb it.0 index same)

alone_behind : (count : ℕ) (parent : Option ℕ) (index : ℕ) → index < count → parent_of (listed count parent) index ≡ None
alone_behind count None index less = refl
alone_behind count (Some parent) index less = passes (count, parent) [] index (λ same. omega (arith, same, less))

alone_last : (count : ℕ) (parent : Option ℕ) → parent_of (listed count parent) count ≡ parent
alone_last count None = refl
alone_last count (Some parent) = finds (count, parent) [] count refl

pub pushed_behind : (children : List (ℕ × ℕ)) (count : ℕ) (parent : Option ℕ) (index : ℕ) → index < count → parent_of (children ++ listed count parent) index ≡ parent_of children index
pushed_behind [] count parent index less = alone_behind count parent index less
pushed_behind (it ∷ its) count parent index less = ap (λ (found : Option ℕ). if it.0 == index then Some it.1 else found) (pushed_behind its count parent index less)

pub pushed_last : (children : List (ℕ × ℕ)) (count : ℕ) (parent : Option ℕ) → All (λ child. child.0 < count) children → parent_of (children ++ listed count parent) count ≡ parent
pushed_last [] count parent behind = alone_last count parent
pushed_last (it ∷ its) count parent behind =
    passes it (its ++ listed count parent) count (λ same. let less = head_of (λ child. child.0 < count) it its behind in omega (arith, same, less))
    ∙ pushed_last its count parent (tail_of (λ child. child.0 < count) it its behind)

-- the parent of the index that is found among the children, all before which have smaller ones
pub found_at : (children : List Child) (index at : ℕ) (d : Child) → ((k : ℕ) (e : Child) → k < at → index_of (get_or children k e) < index) → at < length children →
    index_of (get_or children at d) ≡ index → parent_of (map child children) index ≡ Some (get_or children at d).parent
found_at [] index at d below within same = absurd (omega (arith, within))
found_at (it ∷ its) index zero d below within same = finds (child it) (map child its) index same
found_at (it ∷ its) index (suc at) d below within same =
    passes (child it) (map child its) index (λ is. let less = below 0 it (omega arith) in omega (arith, is, less))
    ∙ found_at its index at d (λ k e less. below (suc k) e (omega (arith, less))) (omega (arith, within)) same

-- no parent, where no child has the index
pub not_found : (children : List Child) (index : ℕ) → ((k : ℕ) (d : Child) → k < length children → index_of (get_or children k d) ≢ index) → parent_of (map child children) index ≡ None
not_found [] index other = refl
not_found (it ∷ its) index other =
    passes (child it) (map child its) index (other 0 it (omega arith))
    ∙ not_found its index (λ k d less. other (suc k) d (omega (arith, less)))

-- each child of the list is before the index
pub all_before : (children : List Child) (index : ℕ) → All (λ (it : ℕ × ℕ). it.0 < index) (map child children) → (k : ℕ) (d : Child) → k < length children → index_of (get_or children k d) < index
all_before children index behind k d less =
    let is = get_or-map child children k d (child d) less in
    let low = behind k (child d) (omega (arith, less, length-map children child)) in
    omega (arith, low, ap (λ (it : ℕ × ℕ). it.0) is)

-- the children before the place have smaller indices than this one, and those from it on have not
abbrev pub IsSplit : List Child → ℕ → ℕ → Type 0
IsSplit children index at = IsPartitionPoint (λ (it : Child). nat_lt (index_of it) index ≡ true) (λ (it : Child). nat_lt (index_of it) index ≡ false) children at

pub found : (children : List Child) (index at : ℕ) (d : Child) → IsSplit children index at → at < length children → index_of (get_or children at d) ≡ index →
    parent_of (map child children) index ≡ Some (get_or children at d).parent
found children index at d split within same =
    found_at children index at d (λ k e less. ltb-true (index_of (get_or children k e)) index (split.0 k e (omega arith) less)) within same

pub missing : (children : List Child) (index at : ℕ) → IsNonDecreasingBy index_of children → IsSplit children index at →
    ((d : Child) → at < length children → index_of (get_or children at d) ≢ index) → parent_of (map child children) index ≡ None
missing children index at up split other = not_found children index by
  where
    by : (k : ℕ) (d : Child) → k < length children → index_of (get_or children k d) ≢ index
    by k d less same = elim (cases_lt k at) [
      | inl before ↦ (let low = ltb-true (index_of (get_or children k d)) index (split.0 k d (omega arith) before) in omega (arith, low, same))
      | inr behind ↦ (
          let within : at < length children = omega (arith, less, behind) in
          let high = ltb-false (index_of (get_or children at d)) index (split.1 at d (omega arith) within) in
          let order = up at k d behind less in
          other d within (omega (arith, high, order, same))
          )
    ]
