-- Definitions for the contracts of the lock and its desks.
-- RFC 9309, sections 2.3.1 and 2.4.
pub mod Resting
pub mod Results
pub mod Desks
pub mod Awaiting
pub mod Steps
