-- Lemmas on the definitions of `specs/`.
-- Used by the answers beside them.
pub mod TokenLemmas
pub mod Ends
pub mod Cutting
pub mod Fronts
pub mod LineLaws
pub mod KeptLaws
pub mod LineEntries
pub mod Walks
pub mod Plains
pub mod Bounds
pub mod GroupLaws
pub mod Keeping
pub mod CallerLemmas
