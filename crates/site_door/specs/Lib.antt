-- Definitions for the doors to sites.
-- RFC 9110, section 10.2.3, for the pauses that sites ask for.
pub mod Limits
pub mod Doors
pub mod Visits
pub mod RetryAfter
