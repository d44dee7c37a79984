-- A possible answer was loaded.
use Rattle.std.proofs.Common.{refl}
use Rattle.crawl_audit.proofs.LoadedRows.{answer_loaded}
use Rattle.crawl_audit.proofs.first_base.FirstBase.load_answer.Goals as goal

pub returns : goal.returns
returns c = λ b says fields may.
    answer_loaded c.args.self.now _ c.args.open_state.now c.load_answer.new.self b c.args.authority c.args.turn c.args.begun c.args.answer says refl c.in_ok-use_turn.ensures.used c.in_ok-load_answer.ensures fields may
