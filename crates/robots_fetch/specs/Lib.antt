-- Definitions for the contracts of robots fetches.
-- RFC 9309, section 2.3.1.
pub mod Statuses
pub mod Redirects
pub mod Walk
pub mod Steps
pub mod Laws
