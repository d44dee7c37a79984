-- A begin is what its last step says.
-- By `Calling`, `Keeping` and `Refusing`.
use Rattle.std.proofs.Common.{◌≡◌, ◌+◌, ◌∷◌, ◌++◌, [], ℕ, List, false, Some, Err, sym, ap, ◌∙◌, subst, arith, refl}
use Rattle.std.specs.Prelude.{Ok}
use Rattle.std.proofs.lemmas.Bool.{true≢false}
use Rattle.authority_cache.specs.declared.site.Flight.{Flight}
use Rattle.authority_cache.specs.Calls.{Begins as CacheBegins, IsFound}
use Rattle.gate_history.specs.declared.entry.Entry.TheVariants.{Begun}
use Rattle.gate_history.specs.History.{begins}
use Rattle.gate_history.specs.Standing.{in_flight, is_fetching}
use Rattle.gate_core.specs.declared.refusal.BeginRefusal.TheVariants.{NoMemory}
use Rattle.gate_core.specs.Gate.{Gate, HasRoom, history, promised}
use Rattle.gate_core.specs.Kept.{gate_of}
use Rattle.gate_core.specs.TurnNames.{HasNames, KeepsName, names_by}
use Rattle.gate_core.specs.Refused.{begin_refusal}
use Rattle.gate_core.specs.Replies.{Begins}
use Rattle.gate_core.proofs.Keeping.{adds_of, begun_kept, kept_unchanged, late_moment, still_named, told}
use Rattle.gate_core.proofs.Refusing.{cache_same, may_open, opens_refused, same_err}
use Rattle.gate_core.proofs.Calling.{begins_by, fetching_as, full}
use Rattle.gate_core.proofs.book.Book.begin.Goals as goal

pub returns-then-is_fetching : goal.returns-then-is_fetching
returns-then-is_fetching c = (
  sym (fetching_as c.self.inside c.self.invariant c.args.self.now c.self.view_is c.args.authority.now c.text.result.now c.text.ensures.value c.is_fetching.result
      (c.is_fetching.ensures ∙ c.find-found.ensures.fetching)) ∙ c.if-is_fetching.true,
  refl,
)

pub returns-then-not-has_room : goal.returns-then-not-has_room
returns-then-not-has_room c = (
  sym (fetching_as c.self.inside c.self.invariant c.args.self.now c.self.view_is c.args.authority.now c.text.result.now c.text.ensures.value c.is_fetching.result
      (c.is_fetching.ensures ∙ c.find-found.ensures.fetching)) ∙ c.if-is_fetching.false,
  full (λ fits. true≢false (sym (c.has_room.ensures.1 fits) ∙ c.if-not-has_room.true)),
  refl,
)

pub begin_at-requires : goal.begin_at-requires
begin_at-requires c = subst (λ (a : List ℕ). IsFound c.self.inside.cache a c.find-found.result) c.text.ensures.value c.find-found.ensures

pub invariant_of-self : goal.invariant_of-self
invariant_of-self c =
    let b = c.self.inside in
    kept_unchanged b c.self.invariant c.name_turn.new.entries b.cache c.name_turn.new.names c.name_turn.ensures.items c.name_turn.ensures.capacity refl
    (subst (λ names. HasNames names (in_flight (told b))) (sym c.in_err-name.ensures.same) c.self.invariant.names)

pub returns-in_err-name : goal.returns-in_err-name
returns-in_err-name c =
    let b = c.self.inside in
    let g = c.args.self.now in
    let idle = sym (fetching_as b c.self.invariant g c.self.view_is c.args.authority.now c.text.result.now c.text.ensures.value c.is_fetching.result
    (c.is_fetching.ensures ∙ c.find-found.ensures.fetching)) ∙ c.if-is_fetching.false in
    subst (λ r. Begins g c.args.authority.now c.args.moment r (record { limits = b.limits; base = b.base; entries = c.name_turn.new.entries.items }))
    (sym (same_err c.from_residual.result NoMemory c.from_residual.ensures.0 c.from_residual.ensures.1))
    (idle, c.has_room.ensures.0 c.if-not-has_room.false, (λ i. record { limits = b.limits; base = b.base; entries = c.name_turn.ensures.items i }) ∙ c.self.view_is)

pub invariant_of-self-in_err-begin_at : goal.invariant_of-self-in_err-begin_at
invariant_of-self-in_err-begin_at c =
    let b = c.self.inside in
    let authority = c.args.authority.now in
    let flight : Flight = record { turn = c.new-turn.result; begun = c.moment_of_call-moment.result } in
    kept_unchanged b c.self.invariant c.name_turn.new.entries c.begin_at.new.self c.name_turn.new.names c.name_turn.ensures.items c.name_turn.ensures.capacity
    (cache_same b.cache authority flight c.in_err-begin_at.field-0.0 c.begin_at.new.self c.in_err-begin_at.ensures.reply)
    (still_named b c.self.invariant c.name_turn.new.names (Some authority)
    (subst (λ (turn : ℕ). KeepsName (names_by b.names) turn (Some authority) (names_by c.name_turn.new.names)) c.new-turn.ensures c.in_ok-name.ensures.kept))

pub returns-in_err-begin_at : goal.returns-in_err-begin_at
returns-in_err-begin_at c =
    let b = c.self.inside in
    let g = c.args.self.now in
    let authority = c.args.authority.now in
    let refusal = c.in_err-begin_at.field-0.0 in
    let idle = sym (fetching_as b c.self.invariant g c.self.view_is authority c.text.result.now c.text.ensures.value c.is_fetching.result
    (c.is_fetching.ensures ∙ c.find-found.ensures.fetching)) ∙ c.if-is_fetching.false in
    let moment = c.moment_of_call-moment.result in
    subst (λ r. Begins g authority c.args.moment r (record { limits = b.limits; base = b.base; entries = c.name_turn.new.entries.items }))
    (sym (same_err c.from_residual-in_err-begin_at.result (begin_refusal refusal) c.from_residual-in_err-begin_at.ensures.0 c.from_residual-in_err-begin_at.ensures.1))
    (subst (λ es. Begins g authority c.args.moment (Err (begin_refusal refusal)) (record { limits = b.limits; base = b.base; entries = es })) (sym c.name_turn.ensures.items)
    (begins_by g authority c.args.moment moment c.moment_of_call-moment.ensures idle (c.has_room.ensures.0 c.if-not-has_room.false) (Err (begin_refusal refusal)) (gate_of b)
    (opens_refused b c.self.invariant g c.self.view_is c.in_err-begin_at.ensures.apart authority moment c.new-turn.result refusal c.begin_at.new.self idle c.in_err-begin_at.ensures.reply)))

pub invariant_of-self-2 : goal.invariant_of-self-2
invariant_of-self-2 c =
    let b = c.self.inside in
    let g = c.args.self.now in
    let authority = c.args.authority.now in
    let moment = c.moment_of_call-moment.result in
    let late = late_moment b g c.self.view_is c.args.moment moment c.moment_of_call-moment.ensures in
    let idle_now = sym (fetching_as b c.self.invariant g c.self.view_is authority c.text.result.now c.text.ensures.value c.is_fetching.result
    (c.is_fetching.ensures ∙ c.find-found.ensures.fetching)) ∙ c.if-is_fetching.false in
    let idle = subst (λ (g : Gate). is_fetching (history g) authority ≡ false) (sym c.self.view_is) idle_now in
    let free = subst (λ (g : Gate). HasRoom g 2) (sym c.self.view_is) (c.has_room.ensures.0 c.if-not-has_room.false) in
    let reply = subst (λ (turn : ℕ). CacheBegins b.cache authority (record { turn = turn; begun = moment }) (Ok _) c.begin_at.new.self) c.new-turn.ensures c.in_ok-begin_at.ensures.reply in
    begun_kept b c.self.invariant c.push_reserved.new.self c.begin_at.new.self c.name_turn.new.names moment authority late idle reply.0 reply.2
    (subst (λ (turn : ℕ). KeepsName (names_by b.names) turn (Some authority) (names_by c.name_turn.new.names)) c.new-turn.ensures c.in_ok-name.ensures.kept)
    (c.push_reserved.ensures.items ∙ (λ i. c.name_turn.ensures.items i ++ Begun moment (c.in_ok-name.ensures.name i) (c.new-turn.ensures i) ∷ []))
    (omega (arith, c.push_reserved.ensures.capacity, c.in_ok-name.ensures.room, c.promised.ensures.value, ap (λ (g : Gate). promised (history g)) c.self.view_is)) free

pub returns : goal.returns
returns c =
    let b = c.self.inside in
    let g = c.args.self.now in
    let authority = c.args.authority.now in
    let moment = c.moment_of_call-moment.result in
    let late = late_moment b g c.self.view_is c.args.moment moment c.moment_of_call-moment.ensures in
    let idle_now = sym (fetching_as b c.self.invariant g c.self.view_is authority c.text.result.now c.text.ensures.value c.is_fetching.result
    (c.is_fetching.ensures ∙ c.find-found.ensures.fetching)) ∙ c.if-is_fetching.false in
    let idle = subst (λ (g : Gate). is_fetching (history g) authority ≡ false) (sym c.self.view_is) idle_now in
    let turn_is = c.new-turn.ensures ∙ ap (λ n. n + 1) c.self.invariant.begins in
    begins_by g authority c.args.moment moment c.moment_of_call-moment.ensures idle_now (c.has_room.ensures.0 c.if-not-has_room.false) (Ok c.new-turn.result) _ (
      may_open b c.self.invariant g c.self.view_is c.in_ok-begin_at.ensures.apart authority c.in_ok-begin_at.ensures.reply.1,
      turn_is ∙ ap (λ (g : Gate). begins (history g) + 1) c.self.view_is,
      adds_of b g (Begun moment authority c.new-turn.result) c.push_reserved.new.self.items c.self.view_is
          (c.push_reserved.ensures.items ∙ (λ i. c.name_turn.ensures.items i ++ Begun moment (c.in_ok-name.ensures.name i) c.new-turn.result ∷ [])) (late, idle, turn_is),
    )
