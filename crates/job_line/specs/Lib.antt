-- Definitions for the line of jobs.
pub mod Limits
pub mod Sums
pub mod Rule
pub mod Covers
pub mod Seats
