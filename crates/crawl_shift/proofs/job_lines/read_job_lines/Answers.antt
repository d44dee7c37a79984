-- The session says which lines were taken, and the reading what they gave.
use Rattle.crawl_shift.proofs.Sorting.{read_badly, read_failed, read_well}
use Rattle.crawl_shift.proofs.job_lines.read_job_lines.Goals as goal

pub returns-clause-lines : goal.returns-clause-lines
returns-clause-lines g c =
    read_well c.args.schemes c.args.bad_lines c.end.result _ _ _ _ _ _ _ (c.new.ensures.jobs, c.new.ensures.fault, c.new-2.ensures.items, c.run_session-end.ensures.session) c.end.ensures.lines

pub returns-clause-fault : goal.returns-clause-fault
returns-clause-fault g c =
    read_badly c.args.schemes c.args.bad_lines c.end.result _ _ _ _ _ _ _ (c.new.ensures.jobs, c.new.ensures.fault, c.new-2.ensures.items, c.run_session-end.ensures.session) c.end.ensures.fault

pub returns-clause-reads : goal.returns-clause-reads
returns-clause-reads g c = read_failed c.end.result c.run_session-end.new.state c.run_session-end.result _ _ c.run_session-end.ensures.reads c.end.ensures.fault
