-- The lemmas of this crate's proofs.
mod Before
pub mod CallerLemmas
mod Choosing
mod Cutting
mod Judging
mod Passing
mod Placing
pub mod Printing
mod Reading
mod Ruling
mod Saying
