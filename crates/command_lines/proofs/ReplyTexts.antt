-- Replies without a fault have an even number of words.
-- Used by `ReplyWords::next`.
use Rattle.std.proofs.Common.{◌≡◌, ◌≢◌, ℕ, List, [], ◌∷◌, Option, Some, None, Bor, cond, Bool, true, false, sym, ap, ◌∙◌}
use Rattle.std.specs.Prelude.{is_none}
use Rattle.std.specs.Option.{IsSome}
use Rattle.std.proofs.lemmas.Option.{none-some}
use Rattle.line_text.specs.Words.{GivesWord}
use Rattle.command_lines.specs.Arrival.{head_written, replies_fault}
use Rattle.command_lines.specs.declared.fault.LineFault.TheVariants as faults

some_fault : (t : Bool) → cond t (Some faults.Status) (Some faults.Replies) ≢ None
some_fault true is = none-some faults.Status (sym is)
some_fault false is = none-some faults.Replies (sym is)

pub not_alone : (words : List (List ℕ)) (first : List ℕ) → replies_fault words ≡ None → words ≡ first ∷ [] → ⊥
not_alone words first clean is = some_fault (is_none (head_written first)) (sym (ap replies_fault is) ∙ clean)

pub second_follows : (old mid new : List (List ℕ)) (first : List ℕ) (r : Option (Bor (List ℕ))) →
    replies_fault old ≡ None → old ≡ first ∷ mid → GivesWord mid r new → IsSome r
second_follows old mid new first (Some word) clean is gives = search
second_follows old mid new first None clean is gives =
    absurd (not_alone old first clean (is ∙ ap (λ (ws : List (List ℕ)). first ∷ ws) gives.0))
