-- Where a line leads behind the first lines of the next base.
-- Used by `NextBase::take`.
use Rattle.std.proofs.Common.{◌≡◌, ℕ, ◌+◌, ◌-◌, ◌≤◌, ◌⊎◌, List, [], ◌∷◌, ◌++◌, codes, length, map, inl, inr, refl, sym, ap, subst, ◌∙◌, append_assoc, append-nil, arith}
use Rattle.std.specs.Prelude.{Some, None, slice_get}
use Rattle.std.proofs.lemmas.List.{length-append, length-map}
use Rattle.std.proofs.lemmas.Option.{slice_get_past}
use Rattle.gate_history.specs.Base.{Base}
use Rattle.gate_history.specs.History.{History, from}
use Rattle.gate_history.specs.Seal.{SaysAs}
use Rattle.crawl_audit.specs.declared.next_base.NextBase.{NextBase}
use Rattle.history_text.specs.Texts.{IsTextBase}
use Rattle.crawl_audit.specs.NextBase.{Awaits, Expects, IsWholeBase, base_in, lines_behind, row_count}
use Rattle.history_text.specs.SpellBase.{answer_line, base_lines, grant_line, open_lines, running_line, turn_line, unspent_line}
use Rattle.crawl_audit.specs.Steps.{EndsBase, Place, TakesLine, inside}
use Rattle.crawl_audit.proofs.NextLines.{get_behind, get_tail}
use Rattle.crawl_audit.proofs.OneOrder.{one_next_base}

many : (next : NextBase) → length (lines_behind (base_in next)) ≡ row_count next.left + 2
many next =
    let b : Base = base_in next in
    let runs = map running_line b.running in
    let permits = map unspent_line b.unspent in
    let grants = map grant_line b.grants in
    let turns = map turn_line b.in_flight in
    omega (
      arith,
      length-append (open_lines b) (codes "E" ∷ []),
      length-append (map answer_line b.standing) (turns ++ (grants ++ (permits ++ runs))),
      length-append turns (grants ++ (permits ++ runs)),
      length-append grants (permits ++ runs),
      length-append permits runs,
      length-map b.standing answer_line,
      length-map b.in_flight turn_line,
      length-map b.grants grant_line,
      length-map b.unspent unspent_line,
      length-map b.running running_line,
    )

at_seam : (b : Base) (lines rest : List (List ℕ)) (taken : ℕ) → base_lines b ≡ lines ++ rest → length lines ≡ taken + 1 → slice_get (lines_behind b) taken ≡ slice_get rest 0
at_seam b lines rest taken are long =
    (let e : taken ≡ taken + 1 - 1 = omega arith in ap (slice_get (lines_behind b)) e)
    ∙ sym (get_tail (codes "V 3") (lines_behind b) (taken + 1) (omega arith))
    ∙ ap (λ ls. slice_get ls (taken + 1)) are
    ∙ get_behind lines rest (taken + 1) (omega arith)
    ∙ (let e : taken + 1 - length lines ≡ 0 = omega arith in ap (slice_get rest) e)

first_is : (rest : List (List ℕ)) (line : List ℕ) → slice_get rest 0 ≡ Some line → (later : List (List ℕ)) × (rest ≡ line ∷ later)
first_is [] line is = absurd (clash is)
  where
    clash : None ≡ Some line → ⊥
    clash e = cc
first_is (x ∷ later) line is = (later, let same : x ≡ line = cc in ap (λ l. l ∷ later) same)

-- ---- the line that must come

module _ (next : NextBase) (h : History) (lines : List (List ℕ)) (line : List ℕ) (is : Awaits next h lines) (here : slice_get (lines_behind (base_in next)) next.taken ≡ Some line) where
  behind : (later : List (List ℕ)) × (base_lines (base_in next) ≡ (lines ++ line ∷ []) ++ later)
  behind =
      let first = first_is is.rest line (sym (at_seam (base_in next) lines is.rest next.taken is.lines_are is.taken) ∙ here) in
      (first.0, is.lines_are ∙ ap (λ ls. lines ++ ls) first.1 ∙ sym (append_assoc lines (line ∷ []) first.0))

  longer : length (lines ++ line ∷ []) ≡ next.taken + 2
  longer = let taken = is.taken in omega (arith, length-append lines (line ∷ []))

  counted : length behind.0 + next.taken + 1 ≡ next.count
  counted =
      let count = is.count in
      let same = ap length behind.1 in
      let first : length (base_lines (base_in next)) ≡ length (lines_behind (base_in next)) + 1 = omega arith in
      omega (arith, length-append (lines ++ line ∷ []) behind.0, longer, many next)

  pub last_line : next.taken + 1 ≡ next.count → IsWholeBase h (lines ++ line ∷ [])
  last_line last = by behind.0 behind.1 counted
    where
      by : (later : List (List ℕ)) → base_lines (base_in next) ≡ (lines ++ line ∷ []) ++ later → length later + next.taken + 1 ≡ next.count → IsWholeBase h (lines ++ line ∷ [])
      by [] are all = record { base = base_in next; is_base = is.base; says = is.says; lines_are = are ∙ append-nil (lines ++ line ∷ []) }
      by (l ∷ later) are all = absurd (omega arith)

  -- the next base, with one more line read
  abbrev read_on : NextBase
  read_on = record { left = next.left; numbers = next.numbers; count = next.count; taken = next.taken + 1 }

  pub more_line : (next.taken + 1 ≡ next.count → ⊥) → Expects read_on h (lines ++ line ∷ []) × TakesLine (Some h) lines line (inside (Some h) (lines ++ line ∷ []))
  more_line more = by behind.0 behind.1 counted
    where
      by : (later : List (List ℕ)) → base_lines (base_in next) ≡ (lines ++ line ∷ []) ++ later → length later + next.taken + 1 ≡ next.count →
          Expects read_on h (lines ++ line ∷ []) × TakesLine (Some h) lines line (inside (Some h) (lines ++ line ∷ []))
      by [] are all = absurd (more (omega arith))
      by (l ∷ later) are all = (
        inl (record { base = is.base; says = is.says; rest = l ∷ later; lines_are = are; taken = let long = longer in omega arith; count = is.count }),
        record { base = base_in next; is_base = (is.base, is.says); following = l; later = later; lines_are = are; next_is = refl },
      )

pub awaited : (next : NextBase) (h : History) (lines : List (List ℕ)) → Expects next h lines → (next.numbers.entries ≡ 0 → ⊥) → Awaits next h lines
awaited next h lines (inl is) some = is
awaited next h lines (inr none) some = absurd (some none.none)

-- ---- another line

-- nothing was entered, or all lines were read, or another line is expected
abbrev pub Stops : NextBase → List ℕ → Type 0
Stops next line =
    (next.numbers.entries ≡ 0) ⊎ ((next.count ≤ next.taken) ⊎ (slice_get (lines_behind (base_in next)) next.taken ≡ Some line → ⊥))

module _ (next : NextBase) (h : History) (lines : List (List ℕ)) (line : List ℕ) where
  only_here : Awaits next h lines → (b : Base) (more : List (List ℕ)) → IsTextBase b → SaysAs (from b) h → base_lines b ≡ lines ++ line ∷ more → slice_get (lines_behind (base_in next)) next.taken ≡ Some line
  only_here is b more text says are =
      let own = is.base in
      let same : b ≡ base_in next = one_next_base h b (base_in next) text.base text.order own.order says is.says in
      at_seam (base_in next) lines (line ∷ more) next.taken (subst (λ (x : Base). base_lines x ≡ lines ++ line ∷ more) same are) is.taken

  not_another : Expects next h lines → Stops next line → (b : Base) (more : List (List ℕ)) → IsTextBase b → SaysAs (from b) h → base_lines b ≡ lines ++ line ∷ more → ⊥
  not_another (inr none) stops b more text says are = let some = text.some in let same = says.entries in let no = none.entries in omega arith
  not_another (inl is) (inl none) b more text says are = let own = is.base in let some = own.some in omega arith
  not_another (inl is) (inr (inl past)) b more text says are =
      clash (sym (slice_get_past (lines_behind (base_in next)) next.taken (let count = is.count in omega (arith, many next))) ∙ only_here is b more text says are)
    where
      clash : None ≡ Some line → ⊥
      clash e = cc
  not_another (inl is) (inr (inr differs)) b more text says are = differs (only_here is b more text says are)

  pub other_line : Expects next h lines → Stops next line → (place : Place) → (TakesLine (Some h) lines line place → ⊥) × (EndsBase (Some h) lines line place → ⊥)
  other_line expects stops place = (
    λ takes. not_another expects stops takes.base (takes.following ∷ takes.later) takes.is_base.0 takes.is_base.1
        (takes.lines_are ∙ append_assoc lines (line ∷ []) (takes.following ∷ takes.later)),
    λ ends. not_another expects stops ends.base [] ends.is_base.0 ends.is_base.1 ends.lines_are,
  )
