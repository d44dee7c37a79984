-- The lemmas that proofs of other crates cite; all others are private.
pub use Rattle.gate_marks.proofs.Condensing.{keeps_count, taken_in}
