-- One more answer, behind those so far.
use Rattle.std.proofs.Common.{◌≡◌, ◌∙◌, ℕ, List, [], ◌∷◌, ◌++◌, refl, ap, append_assoc}
use Rattle.turns.specs.Exchanges.{Grows}
use Rattle.tests_turn.proofs.tests.talk.Talk.go_on.Goals as goal

append_nil : (xs : List ℕ) → xs ≡ xs ++ []
append_nil [] = refl
append_nil (x ∷ xs) = ap (λ t. x ∷ t) (append_nil xs)

grows_then : (a b c : List ℕ) → Grows a b → Grows b c → Grows a c
grows_then a b c x y = (x.0 ++ y.0, y.1 ∙ ap (λ t. t ++ y.0) x.1 ∙ append_assoc a x.0 y.0)

pub loop-init : goal.loop-init
loop-init c = ([], append_nil _)

pub loop-preserved : goal.loop-preserved
loop-preserved c = grows_then _ _ _ c.loop.invariant c.answer.ensures
