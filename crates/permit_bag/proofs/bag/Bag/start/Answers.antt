-- The permit that was taken out has this number, token and URL; it becomes a fetch or is spent.
use Rattle.std.proofs.Common.{◌≡◌, ◌==◌, ◌&&◌, true, ◌∷◌, sym, ap, ◌∙◌, length, subst, IfSome, Ok, Err, IsPermutation, arith}
use Rattle.std.specs.Str.{bytes_eq}
use Rattle.numbered_store.specs.Stores.{kept_in}
use Rattle.permit_bag.specs.Bags.{pass_of}
use Rattle.gate_lock.specs.Desks.{Pass, Run}
use Rattle.gate_lock.specs.Steps.{DeskStarts, Somewhere}
use Rattle.permit_bag.proofs.Holding.{arm_of, less, more, named, there}
use Rattle.permit_bag.proofs.bag.Bag.start.Goals as goal

pub start-requires : goal.start-requires
start-requires g c =
    let own = less (λ (p : Pass). p.desk) c.self.inside.desk (kept_in c.self.inside.permits) (kept_in c.remove-permit.new.self) c.remove-permit.result c.remove-permit.ensures.left c.self.invariant.0 in
    own.1 ∙ ap (λ b. b.desk) c.self.view_is ∙ sym c.requires

pub put-requires : goal.put-requires
put-requires g c =
    let own = less (λ (p : Pass). p.desk) c.self.inside.desk (kept_in c.self.inside.permits) (kept_in c.remove-permit.new.self) c.remove-permit.result c.remove-permit.ensures.left c.self.invariant.0 in
    omega (arith, own.2, c.self.invariant.2)

pub invariant_of-self : goal.invariant_of-self
invariant_of-self g c =
    let own = less (λ (p : Pass). p.desk) c.self.inside.desk (kept_in c.self.inside.permits) (kept_in c.remove-permit.new.self) c.remove-permit.result c.remove-permit.ensures.left c.self.invariant.0 in
    let runs = more (λ (r : Run). r.pass.desk) c.self.inside.desk (kept_in c.self.inside.runs) (kept_in c.put.new.self) c.in-Ok.run' c.put.ensures.kept c.self.invariant.1 (ap (λ p. p.desk) c.in-Ok.ensures.ok.0 ∙ own.1) in
    (own.0, runs.0, omega (arith, own.2, c.self.invariant.2, c.put.ensures.room))

pub returns-in-Ok-clause-step : goal.returns-in-Ok-clause-step
returns-in-Ok-clause-step g c =
    let permit = c.remove-permit.result in
    let pass = pass_of c.args.self.now c.args.number c.args.token.now c.args.url in
    let own = less (λ (p : Pass). p.desk) c.self.inside.desk (kept_in c.self.inside.permits) (kept_in c.remove-permit.new.self) permit c.remove-permit.ensures.left c.self.invariant.0 in
    let sought = subst (λ o. IfSome o (λ (p : Pass). ((p.number == c.number.result) && (bytes_eq p.token c.args.token.now && bytes_eq p.url c.args.url)) ≡ true)) c.remove-permit.ensures.taken c.in-Some.ensures.some in
    let same = named c.args.self.now permit c.args.number c.args.token.now c.args.url
    (subst (λ n. ((permit.number == n) && (bytes_eq permit.token c.args.token.now && bytes_eq permit.url c.args.url)) ≡ true) c.number.ensures sought)
    (own.1 ∙ ap (λ b. b.desk) c.self.view_is) in
    let passes = c.in-Ok.ensures.ok.0 ∙ same in
    let why = sym c.reason-reason.ensures in
    let run_is : c.in-Ok.run' ≡ record { pass = pass; reason = c.reason-reason.result } = λ i. record { pass = passes i; reason = why i } in (
      subst (λ (r : Run). Somewhere c.args.desk.now (λ old new. DeskStarts c.args.desk.now old pass c.args.moment (Ok r) new c.start.new.self)) run_is
          (subst (λ (p : Pass). Somewhere c.args.desk.now (λ old new. DeskStarts c.args.desk.now old p c.args.moment (Ok c.in-Ok.run') new c.start.new.self)) same c.in-Ok.ensures.step),
      record {
        desk_is = ap (λ b. b.desk) c.self.view_is;
        permits_are = subst (λ b. IsPermutation b.permits (pass ∷ kept_in c.remove-permit.new.self)) c.self.view_is
            (subst (λ (p : Pass). IsPermutation (kept_in c.self.inside.permits) (p ∷ kept_in c.remove-permit.new.self)) same c.remove-permit.ensures.left);
        runs_are = subst (λ b. IsPermutation (record { pass = pass; reason = c.reason-reason.result } ∷ b.runs) (kept_in c.put.new.self)) c.self.view_is
            (subst (λ (r : Run). IsPermutation (r ∷ kept_in c.self.inside.runs) (kept_in c.put.new.self)) run_is c.put.ensures.kept);
      },
    )

pub returns-in-Ok-clause-out : goal.returns-in-Ok-clause-out
returns-in-Ok-clause-out g c =
    let own = less (λ (p : Pass). p.desk) c.self.inside.desk (kept_in c.self.inside.permits) (kept_in c.remove-permit.new.self) c.remove-permit.result c.remove-permit.ensures.left c.self.invariant.0 in
    let runs = more (λ (r : Run). r.pass.desk) c.self.inside.desk (kept_in c.self.inside.runs) (kept_in c.put.new.self) c.in-Ok.run' c.put.ensures.kept c.self.invariant.1 (ap (λ p. p.desk) c.in-Ok.ensures.ok.0 ∙ own.1) in
    let out = c.in-Ok.ensures.ok.1 in
    omega (arith, own.2, runs.1, out.permits_are, out.runs_are, out.turns_are, ap (λ b. length b.permits) c.self.view_is, ap (λ b. length b.runs) c.self.view_is)

pub invariant_of-self-in-Err : goal.invariant_of-self-in-Err
invariant_of-self-in-Err g c =
    let own = less (λ (p : Pass). p.desk) c.self.inside.desk (kept_in c.self.inside.permits) (kept_in c.remove-permit.new.self) c.remove-permit.result c.remove-permit.ensures.left c.self.invariant.0 in
    (own.0, c.self.invariant.1, omega (arith, own.2, c.self.invariant.2))

pub returns-clause-step : goal.returns-clause-step
returns-clause-step g c =
    let permit = c.remove-permit.result in
    let pass = pass_of c.args.self.now c.args.number c.args.token.now c.args.url in
    let own = less (λ (p : Pass). p.desk) c.self.inside.desk (kept_in c.self.inside.permits) (kept_in c.remove-permit.new.self) permit c.remove-permit.ensures.left c.self.invariant.0 in
    let sought = subst (λ o. IfSome o (λ (p : Pass). ((p.number == c.number.result) && (bytes_eq p.token c.args.token.now && bytes_eq p.url c.args.url)) ≡ true)) c.remove-permit.ensures.taken c.in-Some.ensures.some in
    let is = subst (λ n. ((permit.number == n) && (bytes_eq permit.token c.args.token.now && bytes_eq permit.url c.args.url)) ≡ true) c.number.ensures sought in
    let same = named c.args.self.now permit c.args.number c.args.token.now c.args.url is (own.1 ∙ ap (λ b. b.desk) c.self.view_is) in
    let left = subst (λ b. IsPermutation b.permits (permit ∷ kept_in c.remove-permit.new.self)) c.self.view_is c.remove-permit.ensures.left in
    arm_of _ _ _ (there (λ (p : Pass). (p.number == c.args.number) && (bytes_eq p.token c.args.token.now && bytes_eq p.url c.args.url)) c.args.self.now.permits (kept_in c.remove-permit.new.self) permit left is) (
      subst (λ (p : Pass). Somewhere c.args.desk.now (λ old new. DeskStarts c.args.desk.now old p c.args.moment (Err c.in-Err.denial) new c.start.new.self)) same c.in-Err.ensures.step,
      record {
        desk_is = ap (λ b. b.desk) c.self.view_is;
        permits_are = subst (λ (p : Pass). IsPermutation c.args.self.now.permits (p ∷ kept_in c.remove-permit.new.self)) same left;
        runs_are = ap (λ b. b.runs) c.self.view_is;
      },
    )

pub returns-clause-out : goal.returns-clause-out
returns-clause-out g c =
    let own = less (λ (p : Pass). p.desk) c.self.inside.desk (kept_in c.self.inside.permits) (kept_in c.remove-permit.new.self) c.remove-permit.result c.remove-permit.ensures.left c.self.invariant.0 in
    let out = c.in-Err.ensures.err in
    omega (arith, own.2, out.permits_are, out.runs_are, out.turns_are, ap (λ b. length b.permits) c.self.view_is, ap (λ b. length b.runs) c.self.view_is)
