-- The last line of a shift's report, whole or ended early, as docs/FORMATS.md has it.
-- Used by `report_text`.
use Rattle.std.specs.Prelude.{ℕ, List, [], ◌∷◌, codes, decimal}
use Rattle.line_text.specs.Pieces.{line_of}

-- the last line
abbrev pub sums_text : ℕ → ℕ → ℕ → List ℕ
sums_text jobs hops starts =
    line_of (codes "SHIFT" ∷ codes "jobs" ∷ decimal jobs ∷ codes "hops" ∷ decimal hops ∷ codes "starts" ∷ decimal starts
    ∷ [])

-- the last line of a report that ended early, with the number of jobs that are left
abbrev pub early_sums_text : ℕ → ℕ → ℕ → ℕ → List ℕ
early_sums_text jobs hops starts left =
    line_of (codes "SHIFT" ∷ codes "jobs" ∷ decimal jobs ∷ codes "hops" ∷ decimal hops ∷ codes "starts" ∷ decimal starts
    ∷ codes "left" ∷ decimal left ∷ [])
