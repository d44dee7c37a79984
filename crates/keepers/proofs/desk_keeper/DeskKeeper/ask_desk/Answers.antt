-- If the bag has room it keeps the permit, so none is given back.
use Rattle.std.proofs.Common.{◌≡◌, ◌∙◌, ℕ, ◌<◌, Result, Err, subst, sym, rules}
use Rattle.std.proofs.lemmas.Bool.{false≢true}
use Rattle.gate_core.specs.declared.refusal.AskRefusal.{AskRefusal}
use Rattle.permit_bag.specs.Bags.{HoldsSame}
use Rattle.keepers.specs.DeskKeeping.{KeeperAsks}
use Rattle.keepers.proofs.Refusing.{refused, unrefused}
use Rattle.keepers.proofs.desk_keeper.DeskKeeper.ask_desk.Goals as goal

pub returns-in-Err-clause-asks : goal.returns-in-Err-clause-asks
returns-in-Err-clause-asks g c =
    let room : 0 < c.make_room.new.self.room = unrefused c.make_room.result (sym c.is_err.ensures.value ∙ c.if-is_err.false) c.make_room.ensures.ok in
    absurd (false≢true (c.in-Err.ensures.succeeds room))

pub returns-in_err-permit-clause-asks : goal.returns-in_err-permit-clause-asks
returns-in_err-permit-clause-asks g c =
    let refusal : AskRefusal = c.in_err-permit.field-0.0 in
    let is : c.from_residual.result ≡ Err refusal = search rules in
    let holds : HoldsSame c.args.self.now.bag c.make_room.new.self = search rules in
    let told = refused c.make_way.new.self.desk c.args.self.now.bag c.args.token c.args.url c.args.moment refusal c.ask.new.self c.make_room.new.self
    c.in_err-permit.ensures.step holds in (
      c.make_way.new.self.desk,
      (
        c.make_way.ensures.desk,
        subst (λ (r : Result ℕ AskRefusal). KeeperAsks c.make_way.new.self.desk c.args.self.now.bag c.args.token c.args.url c.args.moment r c.ask.new.self c.make_room.new.self)
            (sym is) told,
      ),
    )
