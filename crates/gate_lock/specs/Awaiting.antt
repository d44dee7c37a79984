-- What a call of a desk waits for before it is made.
-- Cited by `Awaited` and the lock.
use Rattle.std.specs.Prelude.{◌≡◌, ◌<◌, true, false}
use Rattle.gate_history.specs.History.{History}
use Rattle.gate_history.specs.Outstanding.{is_running, is_unspent, stands}
use Rattle.gate_history.specs.Standing.{has_turn, is_fetching}
use Rattle.gate_lock.specs.declared.awaited.Awaited.{Awaited}
use Rattle.gate_lock.specs.declared.awaited.Awaited.TheVariants as awaited

-- the condition holds, and the desk has such a value out
abbrev pub IsMet : Awaited → History → Type 0
IsMet awaited.Nothing h = Unit {0}
IsMet (awaited.Permit out number token url) h = (0 < out) × (stands h number token.now url.now ≡ true)
IsMet (awaited.Unspent out number) h = (0 < out) × (is_unspent h number ≡ true)
IsMet (awaited.Running out number) h = (0 < out) × (is_running h number ≡ true)
IsMet (awaited.Turn out authority turn) h = (0 < out) × (has_turn h authority.now turn ≡ true)
IsMet (awaited.Idle authority) h = is_fetching h authority.now ≡ false
