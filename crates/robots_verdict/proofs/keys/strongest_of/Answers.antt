-- Each key is put behind the kept ones, or in place of the last, or passed over.
use Rattle.std.proofs.Common.{◌≡◌, ℕ, ◌+◌, ◌-◌, ◌<◌, true, false, length, get_or, set, refl, sym, ap, ◌∙◌, subst, arith}
use Rattle.std.specs.declared.cmp.Ordering.{Ordering}
use Rattle.std.specs.declared.cmp.Ordering.TheVariants.{Less, Equal, Greater}
use Rattle.std.specs.Ordering.{is_ne}
use Rattle.std.proofs.lemmas.Bool.{eq-eqb, true≢false}
use Rattle.std.proofs.lemmas.List.{get_or_default}
use Rattle.robots_verdict.specs.declared.keys.Key.{Key}
use Rattle.robots_verdict.specs.Keys.{compare_keys}
use Rattle.robots_verdict.proofs.Strongest.{all_kept, IsSoFar, none_so_far, passed, pushed, replaced}
use Rattle.robots_verdict.proofs.keys.strongest_of.Goals.{then-count-eq0, else-count-eq0, then-is_ne+in_ok-push, else-is_ne+then-key-index, else-is_ne+else-key-index}
use Rattle.robots_verdict.proofs.keys.strongest_of.Goals as goal

no_key : Key
no_key = record { front = 0; next = 0; cut = 0; group = 0; place = 0 }

alike : (order : Ordering) → is_ne order ≡ false → order ≡ Equal
alike Less is = absurd (true≢false is)
alike Equal is = refl
alike Greater is = absurd (true≢false is)

unlike : (order : Ordering) → is_ne order ≡ true → order ≡ Equal → ⊥
unlike order is same = true≢false (sym is ∙ ap is_ne same)

pub loop-key-init : goal.loop-key-init
loop-key-init c = subst (IsSoFar c.args.rows.now.rows c.args.keys.now 0) (sym c.new-kept.ensures.items) (none_so_far c.args.rows.now.rows c.args.keys.now)

pub loop-key-preserved : goal.loop-key-preserved
unfolding no_key
loop-key-preserved c =
    let rows = c.args.rows.now.rows in
    let keys = c.args.keys.now in
    let index = c.loop-key.key-index in
    let kept = c.loop-key.kept.items in
    let so = c.loop-key.invariant in
    let key = get_or keys index no_key in
    let within : index < length keys = omega (arith, c.loop-key-test.true) in
    let is : (d : Key) → get_or keys index d ≡ key = λ d. get_or_default keys index d no_key within in
    let count : c.len-count.result ≡ length kept = c.len-count.ensures ∙ c.loop-key.kept.ok.0 in
    let top : 0 < length kept → (at : Key) → at ≡ get_or kept (c.len-count.result - 1) at → at ≡ get_or kept (length kept - 1) key =
    λ some at found. found ∙ ap (λ (n : ℕ). get_or kept (n - 1) at) count ∙ get_or_default kept (length kept - 1) at key (omega (arith, some)) in
    elim c.if-is_ne.branch [
      | then-is_ne+in_ok-push w ↦ subst (IsSoFar rows keys (index + 1)) (sym (ap (λ all. all.items) w.kept-is ∙ w.in_ok-push.ensures.items))
          (pushed rows keys c.requires index kept so key within is (λ some same. elim c.if-count-eq0.branch [
            | then-count-eq0 v ↦ absurd (omega (arith, some, count, v.if-count-eq0.true))
            | else-count-eq0 v ↦ unlike v.compare_keys.result (sym v.is_ne.ensures ∙ sym v.value-is ∙ w.if-is_ne.true)
                (v.compare_keys.ensures ∙ ap (λ (k : Key). compare_keys rows k key) (top some v.index.result.now v.index.ensures) ∙ same)
          ]))
      | else-is_ne+then-key-index w ↦ elim c.if-count-eq0.branch [
        | then-count-eq0 v ↦ absurd (true≢false (sym (eq-eqb c.len-count.result 0 v.if-count-eq0.true) ∙ sym v.value-is ∙ w.if-is_ne.false))
        | else-count-eq0 v ↦ (
            let some : 0 < length kept = omega (arith, count, v.if-count-eq0.false) in
            let same : compare_keys rows (get_or kept (length kept - 1) key) key ≡ Equal =
            sym (v.compare_keys.ensures ∙ ap (λ (k : Key). compare_keys rows k key) (top some v.index.result.now v.index.ensures))
            ∙ alike v.compare_keys.result (sym v.is_ne.ensures ∙ sym v.value-is ∙ w.if-is_ne.false) in
            let last = top some w.index-else-is_ne.result.now w.index-else-is_ne.ensures in
            subst (IsSoFar rows keys (index + 1)) (sym (ap (λ all. all.items) w.kept-is ∙ ap (λ (n : ℕ). set kept (n - 1) key) count))
            (replaced rows keys c.requires index kept so key within is some same (omega (arith, w.if-key-index.true, ap (λ (k : Key). k.place) last)))
            )
      ]
      | else-is_ne+else-key-index w ↦ elim c.if-count-eq0.branch [
        | then-count-eq0 v ↦ absurd (true≢false (sym (eq-eqb c.len-count.result 0 v.if-count-eq0.true) ∙ sym v.value-is ∙ w.if-is_ne.false))
        | else-count-eq0 v ↦ (
            let some : 0 < length kept = omega (arith, count, v.if-count-eq0.false) in
            let same : compare_keys rows (get_or kept (length kept - 1) key) key ≡ Equal =
            sym (v.compare_keys.ensures ∙ ap (λ (k : Key). compare_keys rows k key) (top some v.index.result.now v.index.ensures))
            ∙ alike v.compare_keys.result (sym v.is_ne.ensures ∙ sym v.value-is ∙ w.if-is_ne.false) in
            let last = top some w.index-else-is_ne.result.now w.index-else-is_ne.ensures in
            subst (IsSoFar rows keys (index + 1)) (sym (ap (λ all. all.items) w.kept-is))
            (passed rows keys c.requires index kept so key within is some same (omega (arith, w.if-key-index.false, ap (λ (k : Key). k.place) last)))
            )
      ]
    ]

pub returns : goal.returns
returns c =
    let end : c.loop-key.key-index ≡ length c.args.keys.now = omega (arith, c.loop-key-test.false, c.loop-key.auto.key-index-end) in
    all_kept c.args.rows.now.rows c.args.keys.now c.loop-key.kept.items
    (subst (λ (n : ℕ). IsSoFar c.args.rows.now.rows c.args.keys.now n c.loop-key.kept.items) end c.loop-key.invariant)
