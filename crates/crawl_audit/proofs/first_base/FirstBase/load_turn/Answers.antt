-- A possible turn was loaded.
use Rattle.std.proofs.Common.{refl}
use Rattle.crawl_audit.proofs.LoadedRows.{turn_loaded}
use Rattle.crawl_audit.proofs.first_base.FirstBase.load_turn.Goals as goal

pub returns : goal.returns
returns c = λ b says fields may.
    turn_loaded c.args.self.now _ c.args.open_state.now c.load_turn.new.self b c.args.authority c.args.turn c.args.begun says refl c.in_ok-use_turn.ensures.used c.in_ok-load_turn.ensures fields may
