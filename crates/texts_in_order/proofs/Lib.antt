-- The lemmas of this crate's proofs, also used by the crates above.
pub mod Passing
pub mod Knowing
pub mod CallerLemmas
