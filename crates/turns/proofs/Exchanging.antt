-- What is read and heard, and what is pending and written, one piece after another.
-- Used by the answers of `exchange`.
use Rattle.std.proofs.Common.{◌≡◌, ◌≤◌, ◌∙◌, ℕ, List, [], ◌∷◌, ◌++◌, length, take, drop, Option, Some, None, refl, sym, ap, append_assoc, arith}
use Rattle.std.proofs.lemmas.Grind.{common_steps}
use Rattle.std.proofs.lemmas.List.{take-append-le}
use Rattle.std.specs.Io.KnownBytes.{Appends, Consumes, Keeps}
use Rattle.std.proofs.KnownBytes.{Appends-nil, Appends-trans, Consumes-nil, Consumes-trans}
use Rattle.turns.specs.Exchanges.{Grows, IsFrontOf, Sends}

append_nil : (xs : List ℕ) → xs ≡ xs ++ []
append_nil [] = refl
append_nil (x ∷ xs) = ap (λ t. x ∷ t) (append_nil xs)

take_drop : (count : ℕ) (xs : List ℕ) → take count xs ++ drop count xs ≡ xs
take_drop count xs = grind (arith, common_steps)

-- nothing was sent, and what was pending is
pub sends_nothing : (pending : List ℕ) → Sends pending [] pending
sends_nothing pending = ([], append_nil pending)

pub sends_then : (a b c first next : List ℕ) → Sends a first b → Sends b next c → Sends a (first ++ next) c
sends_then a b c first next x y = (
  x.0 ++ y.0,
  append_assoc first next c ∙ ap (λ t. first ++ t) y.1 ∙ sym (append_assoc first b y.0) ∙ ap (λ t. t ++ y.0) x.1 ∙ append_assoc a x.0 y.0,
)

-- the first octets of the output were sent
pub sends_front : (old new output : List ℕ) (count : ℕ) → IsFrontOf output old → count ≤ length output → Grows (drop count old) new → Sends old (take count output) new
sends_front old new output count front few grows = (
  grows.0,
  let whole = take_drop count old in
      let same : take count output ≡ take count old = sym (ap (take count) front.1 ∙ take-append-le count output front.0 few) in
      ap (λ t. take count output ++ t) grows.1 ∙ sym (append_assoc (take count output) (drop count old) grows.0) ∙ ap (λ t. (t ++ drop count old) ++ grows.0) same ∙ ap (λ t. t ++ grows.0) whole,
)

pub appends_kept : (a b : Option (List ℕ)) → Keeps a b → Appends a b []
appends_kept None b same = tt
appends_kept (Some xs) None same = absurd same
appends_kept (Some xs) (Some ys) same = same ∙ append_nil xs

-- what was read was heard
abbrev pub Hears : (u v a b : Option (List ℕ)) → Type 0
Hears u v a b = (more : List ℕ) × Consumes u v more × Appends a b more

pub hears_then : (u v w a b c : Option (List ℕ)) → Hears u v a b → Hears v w b c → Hears u w a c
hears_then u v w a b c x y = (x.0 ++ y.0, Consumes-trans u v w x.0 y.0 x.1 y.1, Appends-trans a b c x.0 y.0 x.2 y.2)

pub hears_nothing : (u a b : Option (List ℕ)) → Keeps a b → Hears u u a b
hears_nothing u a b same = ([], Consumes-nil u, appends_kept a b same)

-- what was written was pending
abbrev pub Tells : (u v : Option (List ℕ)) (a b : List ℕ) → Type 0
Tells u v a b = (more : List ℕ) × Appends u v more × Sends a more b

pub tells_then : (u v w : Option (List ℕ)) (a b c : List ℕ) → Tells u v a b → Tells v w b c → Tells u w a c
tells_then u v w a b c x y = (x.0 ++ y.0, Appends-trans u v w x.0 y.0 x.1 y.1, sends_then a b c x.0 y.0 x.2 y.2)

pub tells_nothing : (u : Option (List ℕ)) (a b : List ℕ) → Sends a [] b → Tells u u a b
tells_nothing u a b sends = ([], Appends-nil u, sends)
