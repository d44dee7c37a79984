-- Which indices of plain places have a parent.
-- The view of `Parents`.
use Rattle.std.specs.Prelude.{ℕ, ◌==◌, List, [], ◌∷◌, Option, Some, None, if◌then◌else◌}
use Rattle.robots_verdict.specs.declared.parents.Child.{Child}

-- an index that has a parent
abbrev pub index_of : Child → ℕ
index_of child = child.index

-- it, and its parent
abbrev pub child : Child → ℕ × ℕ
child it = (it.index, it.parent)

-- an index and its parent, if it has one
abbrev pub listed : ℕ → Option ℕ → List (ℕ × ℕ)
listed index None = []
listed index (Some parent) = (index, parent) ∷ []

-- the parent that a list has for an index, if any
abbrev pub parent_of : List (ℕ × ℕ) → ℕ → Option ℕ
parent_of [] index = None
parent_of (child ∷ children) index = if child.0 == index then Some child.1 else parent_of children index
