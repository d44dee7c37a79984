-- The concatenated ends of each list.
use Rattle.std.proofs.Common.{ℕ, List, ◌++◌, ap, append_assoc, map, ◌∙◌}
use Rattle.permit_book.specs.declared.granted_permit.GrantedPermit.{GrantedPermit}
use Rattle.authority_cache.specs.declared.turn.Turn.{Turn}
use Rattle.gate_history.specs.declared.entry.Entry.{Entry}
use Rattle.crawl_audit.specs.declared.record.Record.{Record}
use Rattle.crawl_audit.specs.Ending.{finish, give_back, unanswered}
use Rattle.crawl_audit.specs.Records.{entry_of}
use Rattle.crawl_audit.proofs.ending.ends_of.Goals as goal

pub returns : goal.returns
returns c =
    let u = c.unspent.result.now in
    let r = c.running.result.now in
    let m = c.moment.result in
    let f = c.in_flight.result.now in
    let b = c.args.left.now in
    c.in_ok-push_arrivals.ensures
    ∙ ap (λ (es : List Entry). es ++ map (unanswered m) f)
    (c.in_ok-push_finishes.ensures ∙ ap (λ (es : List Entry). es ++ map finish r) (c.in_ok-push_returns.ensures ∙ ap (λ (rs : List Record). map entry_of rs ++ map give_back u) c.new-ends.ensures.items))
    ∙ append_assoc (map give_back u) (map finish r) (map (unanswered m) f)
    ∙ ap (λ (ps : List GrantedPermit). map give_back ps ++ (map finish r ++ map (unanswered m) f)) c.unspent.ensures
    ∙ ap (λ (ps : List GrantedPermit). map give_back b.unspent ++ (map finish ps ++ map (unanswered m) f)) c.running.ensures
    ∙ ap (λ (n : ℕ). map give_back b.unspent ++ (map finish b.running ++ map (unanswered n) f)) c.moment.ensures
    ∙ ap (λ (ts : List Turn). map give_back b.unspent ++ (map finish b.running ++ map (unanswered b.moment) ts)) c.in_flight.ensures
