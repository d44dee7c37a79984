-- The lemmas that proofs of other crates cite; all others are private.
pub use Rattle.numbered_store.proofs.Keeping.{kept_passes}
