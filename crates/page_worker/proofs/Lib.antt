-- The lemmas of this crate's proofs.
mod Chains
mod Fetching
mod Hops
mod InForce
mod OwnEntries
mod Seeing
pub mod Starting
