-- The answer is now the authority's.
-- `Keeping` says what that keeps.
use Rattle.std.proofs.Common.{◌≡◌, ◌∷◌, ◌++◌, [], ℕ, List, true, sym, ap, ◌∙◌, subst, arith}
use Rattle.std.specs.Prelude.{Option, unwrap_or}
use Rattle.authority_cache.specs.Calls.{Changes}
use Rattle.authority_cache.specs.Lives.{IsOwnLife, Timed}
use Rattle.authority_cache.specs.Sites.{arrived, site_of}
use Rattle.gate_history.specs.declared.entry.Entry.TheVariants.{Arrived}
use Rattle.gate_history.specs.Standing.{has_turn}
use Rattle.gate_core.specs.Gate.{Adds, Gate, history}
use Rattle.gate_core.proofs.Keeping.{adds_of, arrived_kept, late_moment, turn_named, turn_promised, turn_stands}
use Rattle.gate_core.proofs.Refusing.{arrives_refused}
use Rattle.gate_core.proofs.book.Book.arrive.Goals as goal

pub returns-in_err-arrive : goal.returns-in_err-arrive
returns-in_err-arrive c =
    arrives_refused c.self.inside c.self.invariant c.args.self.now c.self.view_is c.args.authority.now c.args.turn c.args.answer c.args.moment
    c.from_residual.result c.from_residual.ensures.0 c.in_err-arrive.ensures.0

pub unreachable-requires : goal.unreachable-requires
unreachable-requires c =
    c.in_default.not-Some c.args.authority.now (c.take.ensures.name ∙ turn_named c.self.inside c.self.invariant c.args.authority.now c.args.turn c.in_ok-arrive.ensures.0)

pub push_reserved-requires : goal.push_reserved-requires
push_reserved-requires c =
    omega (arith, turn_promised c.self.inside c.self.invariant c.args.authority.now c.args.turn c.in_ok-arrive.ensures.0, c.self.inside.entries.ok.0)

pub invariant_of-self-2 : goal.invariant_of-self-2
invariant_of-self-2 c =
    let b = c.self.inside in
    let authority = c.args.authority.now in
    let answer = c.args.answer in
    let moment = c.moment_of_call-moment.result in
    let late = late_moment b c.args.self.now c.self.view_is c.args.moment moment c.moment_of_call-moment.ensures in
    let says_is = c.into_said-says.ensures ∙ ap (λ (t : Timed). t.says) c.twin-twin.ensures.twin in
    let life_is = c.life-life.ensures.life ∙ ap (λ (t : Timed). t.life) c.twin-twin.ensures.twin in
    let own : IsOwnLife answer = subst IsOwnLife c.twin-twin.ensures.twin c.life-life.ensures.own in
    let flying = c.in_ok-arrive.ensures.0 in
    let name_is : c.in-Some.name ≡ authority =
    ap (λ (o : Option (List ℕ)). unwrap_or o authority) (sym c.in-Some.is ∙ c.take.ensures.name ∙ turn_named b c.self.invariant authority c.args.turn flying) in
    arrived_kept b c.self.invariant c.push_reserved.new.self c.arrive.new.self c.take.new.self moment c.args.turn authority answer own late flying
    (subst (λ (t : Timed). Changes b.cache authority (arrived c.args.turn t.says t.life (site_of b.cache authority)) c.arrive.new.self) c.twin-twin.ensures.behind c.in_ok-arrive.ensures.1)
    c.take.ensures.taken
    (c.push_reserved.ensures.items ∙ (λ i. b.entries.items ++ Arrived (life_is i) moment (name_is i) c.args.turn (says_is i) ∷ [])) c.push_reserved.ensures.capacity

pub returns : goal.returns
returns c =
    let b = c.self.inside in
    let authority = c.args.authority.now in
    let answer = c.args.answer in
    let moment = c.moment_of_call-moment.result in
    let late = late_moment b c.args.self.now c.self.view_is c.args.moment moment c.moment_of_call-moment.ensures in
    let says_is = c.into_said-says.ensures ∙ ap (λ (t : Timed). t.says) c.twin-twin.ensures.twin in
    let life_is = c.life-life.ensures.life ∙ ap (λ (t : Timed). t.life) c.twin-twin.ensures.twin in
    let own : IsOwnLife answer = subst IsOwnLife c.twin-twin.ensures.twin c.life-life.ensures.own in
    let flying = c.in_ok-arrive.ensures.0 in
    let name_is : c.in-Some.name ≡ authority =
    ap (λ (o : Option (List ℕ)). unwrap_or o authority) (sym c.in-Some.is ∙ c.take.ensures.name ∙ turn_named b c.self.invariant authority c.args.turn flying) in
    let stands = turn_stands b c.self.invariant authority c.args.turn flying in
    let entry = Arrived answer.life moment authority c.args.turn answer.says in
    let adds = adds_of b c.args.self.now entry c.push_reserved.new.self.items c.self.view_is
    (c.push_reserved.ensures.items ∙ (λ i. b.entries.items ++ Arrived (life_is i) moment (name_is i) c.args.turn (says_is i) ∷ [])) (late, stands, own) in (
      subst (λ (g : Gate). has_turn (history g) authority c.args.turn ≡ true) c.self.view_is stands,
      subst (λ (m : ℕ). Adds c.args.self.now (Arrived answer.life m authority c.args.turn answer.says) (record { limits = b.limits; base = b.base; entries = c.push_reserved.new.self.items })) c.moment_of_call-moment.ensures adds,
    )
