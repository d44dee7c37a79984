-- Definitions for the contracts of patterns and the paths they match.
-- RFC 9309, section 2.2.3.
pub mod Blocks
pub mod Fronts
pub mod Kept
pub mod Matches
pub mod Literals
pub mod NextPlaces
pub mod Sorted
pub mod Texts
