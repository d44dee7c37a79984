-- A read copies the front of what was unread.
use Rattle.std.proofs.Common.{rules, arith, ◌≡◌, ◌≤◌, length, take, drop, min, length-append, length-drop}
use Rattle.std.proofs.lemmas.List.{length-take}
use Rattle.counted_io.proofs.Taking.{read_front, read_nothing}
use Rattle.counted_io.proofs.fail_at.FailAtSource.read.Goals as goal

pub returns-clause-bytes : goal.returns-clause-bytes
returns-clause-bytes c =
    let unread : c.args.self.now.unread ≡ drop c.self.inside.at c.self.inside.bytes.items = search rules in
    let copy : c.copy_from_slice.new.self ≡ take c.min-count.result c.args.self.now.unread = search rules in
    let bound : c.min-count.result ≤ length c.args.self.now.unread = search rules in
    let count : c.min-count.result ≡ min (min c.self.inside.per_call (length c.args.buffer.now)) (length c.args.self.now.unread) = search rules in (
      read_front _ _ c.args.buffer.now _ _ _ unread copy bound,
      λ none some. read_nothing _ _ _ _ _ _ unread count c.self.invariant.1 none
          (omega (arith, length-append c.copy_from_slice.new.self (drop c.min-count.result c.args.buffer.now), length-drop c.min-count.result c.args.buffer.now, c.copy_from_slice.ensures.len, length-take c.min-count.result c.args.buffer.now)),
    )
