-- An ask for whose marks there was no memory.
use Rattle.std.proofs.Common.{rules}
use Rattle.gate_lock.proofs.Asking.{refused_round}
use Rattle.gate_lock.proofs.ask.ask_round.Goals as goal

pub returns-in-Err-clause-asked : goal.returns-in-Err-clause-asked
returns-in-Err-clause-asked g c =
    refused_round c.args.counted.now c.args.judged c.args.account.now c.args.moment c.refused_ask.result _
    (search rules) c.refused_ask.ensures.no_entry c.copies_of.ensures.same
