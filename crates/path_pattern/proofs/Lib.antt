-- Lemmas on how patterns spell paths, and where literals occur in them.
-- Used by the answers beside them.
pub mod PlaceLemmas
pub mod SpellsLemmas
pub mod StarLemmas
pub mod BlockLemmas
pub mod CallerLemmas
pub mod SortedLemmas
pub mod OrderLemmas
pub mod KeptLemmas
pub mod NextLemmas
pub mod Spelling
pub mod FrontLemmas
