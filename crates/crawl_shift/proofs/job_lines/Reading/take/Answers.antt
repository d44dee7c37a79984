-- A line that is no job leaves the list unchanged, and its fault is kept or ends the reading.
use Rattle.std.proofs.Common.{refl}
use Rattle.command_lines.specs.Answers.{ends_session}
use Rattle.crawl_shift.proofs.Sorting.{met_of}
use Rattle.crawl_shift.proofs.job_lines.Reading.take.Goals as goal

pub returns-in-Err : goal.returns-in-Err
returns-in-Err c =
    met_of c.args.schemes c.args.bad_lines c.args.self.now (record { list = c.take.new.self; bad = c.args.self.now.bad }) c.meet.new.self c.args.line.now c.in-Err.fault (ends_session c.meet.result)
    c.in-Err.ensures.0 c.in-Err.ensures.1 c.in-Err.ensures.2 refl c.meet.ensures
