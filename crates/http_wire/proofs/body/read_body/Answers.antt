-- Each end of the reading determines the answer for the whole input.
use Rattle.std.proofs.Common.{◌∙◌, sym, subst, ap}
use Rattle.std.proofs.lemmas.Result.{IfOk-weaker}
use Rattle.http_wire.specs.Reading.{ReadsBody}
use Rattle.http_wire.proofs.BodyReads.{IsFor, broken_read, ended_alone, ended_read, found_alone, found_read, past_read}
use Rattle.http_wire.proofs.Faults.{same_fault}
use Rattle.http_wire.proofs.body.read_body.Goals as goal

pub returns-in_err-body-clause-reads : goal.returns-in_err-body-clause-reads
returns-in_err-body-clause-reads g c =
    let new = c.new-decoder.ensures in
    let is : IsFor c.args.framing c.args.limit c.args.start c.new-decoder.result = record { framing_is = new.framing; limit_is = new.limit; start_is = new.start } in
    subst (ReadsBody c.args.framing c.args.limit c.args.start (g.S.Source.left c.args.source.now) c.args.buffer.now)
    (sym (same_fault _ _ c.from_residual.ensures.1))
    (broken_read _ _ _ _ _ _ _ is c.in_err-body.ensures.err)

pub returns-in-Parsed-clause-reads : goal.returns-in-Parsed-clause-reads
returns-in-Parsed-clause-reads g c =
    let new = c.new-decoder.ensures in
    let is : IsFor c.args.framing c.args.limit c.args.start c.new-decoder.result = record { framing_is = new.framing; limit_is = new.limit; start_is = new.start } in
    found_read _ _ _ _ _ _ _ _ _ _ is c.raw_limit.ensures.is (rw c.in-Parsed.is at c.in_ok-body.ensures.ok)

pub returns-in-Ended-clause-reads : goal.returns-in-Ended-clause-reads
returns-in-Ended-clause-reads g c =
    let new = c.new-decoder.ensures in
    let kept = c.in_ok-body.ensures.kept in
    let is : IsFor c.args.framing c.args.limit c.args.start c.fill_until.new.part = record {
      framing_is = ap (λ k. k.0) kept ∙ new.framing;
      limit_is = ap (λ k. k.2) kept ∙ new.limit;
      start_is = ap (λ k. k.1) kept ∙ new.start;
    } in
    ended_read _ _ _ _ _ _ _ _ _ _ _ is (rw c.in-Ended.is at c.in_ok-body.ensures.ok) c.end.ensures.tells

pub returns-clause-reads : goal.returns-clause-reads
returns-clause-reads g c =
    let new = c.new-decoder.ensures in
    let kept = c.in_ok-body.ensures.kept in
    let is : IsFor c.args.framing c.args.limit c.args.start c.fill_until.new.part = record {
      framing_is = ap (λ k. k.0) kept ∙ new.framing;
      limit_is = ap (λ k. k.2) kept ∙ new.limit;
      start_is = ap (λ k. k.1) kept ∙ new.start;
    } in
    past_read _ _ _ _ _ _ _ _ _ _ is (rw c.in-Past.is at c.in_ok-body.ensures.ok) c.past.ensures.tells

pub returns-in-Parsed-clause-alone : goal.returns-in-Parsed-clause-alone
returns-in-Parsed-clause-alone g c =
    let new = c.new-decoder.ensures in
    let is : IsFor c.args.framing c.args.limit c.args.start c.new-decoder.result = record { framing_is = new.framing; limit_is = new.limit; start_is = new.start } in
    found_alone _ _ _ _ _ _ _ _ _ _ is (rw c.in-Parsed.is at c.in_ok-body.ensures.ok)

pub returns-in-Ended-clause-alone : goal.returns-in-Ended-clause-alone
returns-in-Ended-clause-alone g c = IfOk-weaker c.end.result _ _ (λ body ended. ended_alone body.alone ended) c.end.ensures.ended

pub returns-clause-alone : goal.returns-clause-alone
returns-clause-alone g c = IfOk-weaker c.past.result _ _ (λ body ended. ended_alone body.alone ended) c.past.ensures.ended
