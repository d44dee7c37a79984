-- The lemmas that proofs of other crates cite; all others are private.
pub use Rattle.robots_check.proofs.Printing.{as_front, prints_of, reads_none}
