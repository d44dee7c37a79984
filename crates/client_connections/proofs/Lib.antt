-- The lemmas of this crate's proofs.
mod Takes
mod Turns
