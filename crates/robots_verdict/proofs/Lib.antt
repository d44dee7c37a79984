-- Lemmas on the definitions of `specs/`.
-- Used by the answers beside them.
pub mod Weighing
pub mod OneVerdict
pub mod Walking
pub mod Parts
pub mod RowLemmas
pub mod HeadLemmas
pub mod Verdicts
pub mod Rewriting
pub mod Forms
pub mod Readings
pub mod Begins
pub mod Chains
pub mod Listed
pub mod Keyed
pub mod Strongest
pub mod Placing
pub mod PlainHits
pub mod OtherHits
pub mod Joining
pub mod CallerLemmas
