-- The place, less the rows before it, selects the list that has the line.
use Rattle.std.proofs.Common.{◌≡◌, ℕ, ◌-◌, ◌<◌, Global, Vec, length, vec_len, arith}
use Rattle.std.proofs.lemmas.Bool.Decides.{nat_tests}
use Rattle.gate_history.specs.Base.{Base}
use Rattle.crawl_audit.specs.NextBase.{base_in, lines_behind}
use Rattle.history_text.specs.SpellBase.{answer_line, grant_line, running_line, turn_line, unspent_line}
use Rattle.crawl_audit.proofs.NextLines.{at_answers, at_end, at_grants, at_last, at_permits, at_runs, at_turns, from_grants, from_permits, from_runs, from_turns, in_list, last_line, past_end}
use Rattle.crawl_audit.proofs.next_base.NextBase.is_line_at.Goals as goal

long : {X : Type 0} (v : Vec X Global) (n : ℕ) → n ≡ vec_len v → n ≡ length v.items
long v n is = let ok = v.ok in omega arith

pub returns-then-place-answers : goal.returns-then-place-answers
returns-then-place-answers c =
    let b : Base = base_in c.args.self.now in
    let k = c.args.place in
    let some : 0 < k = let apart = c.if-place-eq0.false in omega arith in
    in_list answer_line c.as_slice.result.now b.standing (from_turns b) (lines_behind b) k (k - 1) c.args.line.now c.is_row_at.result
    c.as_slice.ensures.value (at_answers b k some)
    (let long = c.len-answers.ensures in let low = c.if-place-answers.true in omega arith) c.is_row_at.ensures

pub returns-then-place-turns : goal.returns-then-place-turns
returns-then-place-turns c =
    let b : Base = base_in c.args.self.now in
    let k = c.args.place in
    let some : 0 < k = let apart = c.if-place-eq0.false in omega arith in
    in_list turn_line c.as_slice-then-place-turns.result.now b.in_flight (from_grants b) (lines_behind b) k (k - 1 - c.len-answers.result) c.args.line.now c.is_row_at-then-place-turns.result
    c.as_slice-then-place-turns.ensures.value (at_turns b k c.len-answers.result some (long c.args.self.now.left.standing c.len-answers.result c.len-answers.ensures) c.if-place-answers.false)
    (let long = c.len-turns.ensures in let low = c.if-place-turns.true in omega arith) c.is_row_at-then-place-turns.ensures

pub returns-then-place-grants : goal.returns-then-place-grants
returns-then-place-grants c =
    let b : Base = base_in c.args.self.now in
    let k = c.args.place in
    let some : 0 < k = let apart = c.if-place-eq0.false in omega arith in
    in_list grant_line c.as_slice-then-place-grants.result.now b.grants (from_permits b) (lines_behind b) k (k - 1 - c.len-answers.result - c.len-turns.result) c.args.line.now c.is_row_at-then-place-grants.result
    c.as_slice-then-place-grants.ensures.value (at_grants b k c.len-answers.result c.len-turns.result some (long c.args.self.now.left.standing c.len-answers.result c.len-answers.ensures) c.if-place-answers.false (long c.args.self.now.left.in_flight c.len-turns.result c.len-turns.ensures) c.if-place-turns.false)
    (let long = c.len-grants.ensures in let low = c.if-place-grants.true in omega arith) c.is_row_at-then-place-grants.ensures

pub returns-then-place-permits : goal.returns-then-place-permits
returns-then-place-permits c =
    let b : Base = base_in c.args.self.now in
    let k = c.args.place in
    let some : 0 < k = let apart = c.if-place-eq0.false in omega arith in
    in_list unspent_line c.as_slice-then-place-permits.result.now b.unspent (from_runs b) (lines_behind b) k (k - 1 - c.len-answers.result - c.len-turns.result - c.len-grants.result) c.args.line.now c.is_row_at-then-place-permits.result
    c.as_slice-then-place-permits.ensures.value (at_permits b k c.len-answers.result c.len-turns.result c.len-grants.result some (long c.args.self.now.left.standing c.len-answers.result c.len-answers.ensures) c.if-place-answers.false (long c.args.self.now.left.in_flight c.len-turns.result c.len-turns.ensures) c.if-place-turns.false (long c.args.self.now.left.grants c.len-grants.result c.len-grants.ensures) c.if-place-grants.false)
    (let long = c.len-permits.ensures in let low = c.if-place-permits.true in omega arith) c.is_row_at-then-place-permits.ensures

pub returns-then-place-runs : goal.returns-then-place-runs
returns-then-place-runs c =
    let b : Base = base_in c.args.self.now in
    let k = c.args.place in
    let some : 0 < k = let apart = c.if-place-eq0.false in omega arith in
    in_list running_line c.as_slice-then-place-runs.result.now b.running last_line (lines_behind b) k (k - 1 - c.len-answers.result - c.len-turns.result - c.len-grants.result - c.len-permits.result) c.args.line.now c.is_row_at-then-place-runs.result
    c.as_slice-then-place-runs.ensures.value (at_runs b k c.len-answers.result c.len-turns.result c.len-grants.result c.len-permits.result some (long c.args.self.now.left.standing c.len-answers.result c.len-answers.ensures) c.if-place-answers.false (long c.args.self.now.left.in_flight c.len-turns.result c.len-turns.ensures) c.if-place-turns.false (long c.args.self.now.left.grants c.len-grants.result c.len-grants.ensures) c.if-place-grants.false (long c.args.self.now.left.unspent c.len-permits.result c.len-permits.ensures) c.if-place-permits.false)
    (let long = c.len-runs.ensures in let low = c.if-place-runs.true in omega arith) c.is_row_at-then-place-runs.ensures

pub returns-then-place-runs-2 : goal.returns-then-place-runs-2
returns-then-place-runs-2 c =
    let b : Base = base_in c.args.self.now in
    let k = c.args.place in
    let some : 0 < k = let apart = c.if-place-eq0.false in omega arith in
    at_end (lines_behind b) k (k - 1 - c.len-answers.result - c.len-turns.result - c.len-grants.result - c.len-permits.result - c.len-runs.result) c.args.line.now _ c.is-then-place-runs-2.result
    (at_last b k c.len-answers.result c.len-turns.result c.len-grants.result c.len-permits.result c.len-runs.result some (long c.args.self.now.left.standing c.len-answers.result c.len-answers.ensures) c.if-place-answers.false (long c.args.self.now.left.in_flight c.len-turns.result c.len-turns.ensures) c.if-place-turns.false (long c.args.self.now.left.grants c.len-grants.result c.len-grants.ensures) c.if-place-grants.false (long c.args.self.now.left.unspent c.len-permits.result c.len-permits.ensures) c.if-place-permits.false (long c.args.self.now.left.running c.len-runs.result c.len-runs.ensures) (let same = c.if-place-runs-2.true in omega arith))
    (let same = c.if-place-runs-2.true in omega arith) c.whole.ensures c.is-then-place-runs-2.ensures

pub returns-else-place-runs-2 : goal.returns-else-place-runs-2
returns-else-place-runs-2 c =
    let b : Base = base_in c.args.self.now in
    let k = c.args.place in
    let some : 0 < k = let apart = c.if-place-eq0.false in omega arith in
    let last = at_last b k c.len-answers.result c.len-turns.result c.len-grants.result c.len-permits.result c.len-runs.result some (long c.args.self.now.left.standing c.len-answers.result c.len-answers.ensures) c.if-place-answers.false (long c.args.self.now.left.in_flight c.len-turns.result c.len-turns.ensures) c.if-place-turns.false (long c.args.self.now.left.grants c.len-grants.result c.len-grants.ensures) c.if-place-grants.false (long c.args.self.now.left.unspent c.len-permits.result c.len-permits.ensures) c.if-place-permits.false (long c.args.self.now.left.running c.len-runs.result c.len-runs.ensures)
    (let low = c.if-place-runs.false in omega arith) in (
      λ yes. absurd (c.if-place-runs-2.false (grind (arith, nat_tests, yes))),
      λ same. absurd (past_end (lines_behind b) k (k - 1 - c.len-answers.result - c.len-turns.result - c.len-grants.result - c.len-permits.result - c.len-runs.result) c.args.line.now last
          (let apart = c.if-place-runs-2.false in let low = c.if-place-runs.false in omega arith) same),
    )
