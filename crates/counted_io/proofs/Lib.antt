-- The lemmas of this crate's proofs, also used by the crates above.
pub mod Taking
pub mod Writing
pub mod CallerLemmas
