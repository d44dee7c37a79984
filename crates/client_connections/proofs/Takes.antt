-- Reads one after the other take what they take together.
use Rattle.std.proofs.Common.{◌≡◌, ℕ, ◌+◌, ◌≤◌, List, ◌++◌, length, length-append, arith}
use Rattle.std.specs.Prelude.{Option}
use Rattle.std.specs.Io.KnownBytes.{Consumes, Keeps}
use Rattle.std.proofs.KnownBytes.{Consumes-trans, Consumes-kept}
use Rattle.client_connections.specs.Closing.{TakesAtMost}

pub takes_more :
    (before count most : ℕ) (old between new : Option (List ℕ)) → TakesAtMost before old between
    → ((octets : List ℕ) × Consumes between new octets × (length octets ≡ count)) → before + count ≤ most
    → TakesAtMost most old new
takes_more before count most old between new (xs, took, few) (ys, takes, exact) fits =
    let sum : length (xs ++ ys) ≡ length xs + length ys = length-append xs ys
    in (xs ++ ys, Consumes-trans old between new xs ys took takes, omega arith)

pub takes_kept :
    (before most : ℕ) (old between new : Option (List ℕ)) → TakesAtMost before old between → Keeps between new
    → before ≤ most → TakesAtMost most old new
takes_kept before most old between new (xs, took, few) kept fits =
    (xs, Consumes-kept old between new xs took kept, omega arith)
