-- The lemmas that proofs of other crates cite; all others are private.
pub use Rattle.line_text.proofs.Pushing.{pushes_cut, pushes_then, row_cut, row_more}
