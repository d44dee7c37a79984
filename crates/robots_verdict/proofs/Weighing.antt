-- The order of weights is total: lines of which neither is stronger are equal.
-- Used by the law on verdicts, and by the searches for the strongest.
use Rattle.std.proofs.Common.{◌≡◌, ℕ, ◌≤◌, Bool, true, false, refl, sym, arith, eqb-true}
use Rattle.std.specs.Prelude.{◌==◌, nat_lt, cond}
use Rattle.std.specs.declared.cmp.Ordering.{Ordering}
use Rattle.std.specs.declared.cmp.Ordering.TheVariants.{Less, Equal, Greater}
use Rattle.std.specs.Ordering.{is_lt, nat_cmp, ordering_then}
use Rattle.std.specs.Cmp.{IsTotalOrder}
use Rattle.std.proofs.lemmas.Bool.{true≢false}
use Rattle.std.proofs.lemmas.Bool.Decides.{nat_tests}
use Rattle.std.proofs.lemmas.Cmp.{back_total, nat_cmp_total, on_total, then_total}
use Rattle.robots_text.specs.declared.record.RuleKind.{RuleKind}
use Rattle.robots_text.specs.declared.record.RuleKind.TheVariants.{Allow, Disallow}
use Rattle.robots_verdict.specs.declared.weight.Weight.{Weight}
use Rattle.robots_verdict.specs.Weights.{falling, kind_place}

pub falling_total : IsTotalOrder falling
falling_total =
    then_total (on_total (λ (w : Weight). w.octets) (back_total nat_cmp_total))
    (then_total (on_total (λ (w : Weight). kind_place w.kind) nat_cmp_total) (on_total (λ (w : Weight). w.line) nat_cmp_total))

level_by : (x y : ℕ) (next : Ordering) (less same : Bool) → nat_lt x y ≡ less → (x == y) ≡ same →
    is_lt (ordering_then (cond less Less (cond same Equal Greater)) next) ≡ false → (y ≤ x) × (x ≡ y → is_lt next ≡ false)
level_by x y next true same less_is same_is not = absurd (true≢false not)
level_by x y next false true less_is same_is not = let same : x ≡ y = eqb-true x y same_is in (omega arith, λ _. not)
level_by x y next false false less_is same_is not = (grind (arith, nat_tests), λ same. absurd (grind (arith, nat_tests)))

pub level : (x y : ℕ) (next : Ordering) → is_lt (ordering_then (nat_cmp x y) next) ≡ false → (y ≤ x) × (x ≡ y → is_lt next ≡ false)
level x y next not = level_by x y next (nat_lt x y) (x == y) refl refl not

pub last_level : (x y : ℕ) → is_lt (nat_cmp x y) ≡ false → y ≤ x
last_level x y not = grind (arith, nat_tests)

same_kind : (one other : RuleKind) → kind_place one ≡ kind_place other → one ≡ other
same_kind Allow Allow same = refl
same_kind Allow Disallow same = absurd (omega (arith, same))
same_kind Disallow Allow same = absurd (omega (arith, same))
same_kind Disallow Disallow same = refl

both : (x y : ℕ) → x ≤ y → y ≤ x → x ≡ y
both x y low high = omega arith

pub same_weight : (one other : Weight) → is_lt (falling one other) ≡ false → is_lt (falling other one) ≡ false → one ≡ other
same_weight one other below above =
    let octets = level other.octets one.octets _ below in
    let octets' = level one.octets other.octets _ above in
    let as_many : one.octets ≡ other.octets = both one.octets other.octets octets.0 octets'.0 in
    let kinds = level (kind_place one.kind) (kind_place other.kind) _ (octets.1 (sym as_many)) in
    let kinds' = level (kind_place other.kind) (kind_place one.kind) _ (octets'.1 as_many) in
    let as_kind : kind_place one.kind ≡ kind_place other.kind = both (kind_place one.kind) (kind_place other.kind) kinds'.0 kinds.0 in
    let low = last_level one.line other.line (kinds.1 as_kind) in
    let high = last_level other.line one.line (kinds'.1 (sym as_kind)) in
    let kind = same_kind one.kind other.kind as_kind in
    let line = both one.line other.line high low in
    λ i. record { octets = as_many i; kind = kind i; line = line i }
