-- Definitions for leaves, fetchers, robots walks, and what closes sites.
pub mod CauseText
pub mod Closings
pub mod Giving
pub mod Leaves
pub mod Limits
pub mod Network
pub mod Notes
pub mod Walks
