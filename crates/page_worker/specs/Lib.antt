-- Definitions for jobs and refreshes.
pub mod Closings
pub mod Finding
pub mod Limits
pub mod Newcomers
pub mod OutcomeLaws
pub mod Outcomes
pub mod Refreshes
pub mod Stale
pub mod Visits
pub mod WaysOn
pub mod World
