-- Lemmas that several proofs share.
pub mod WordSplits
pub mod Numerals
pub mod Pushing
pub mod Stripping
pub mod CallerLemmas
