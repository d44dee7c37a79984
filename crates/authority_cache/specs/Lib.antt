-- Definitions for the contracts of the cache.
-- RFC 9309, sections 2.3.1 and 2.4.
pub mod Lives
pub mod Messages
pub mod Sites
pub mod Calls
pub mod Ends
pub mod Kept
pub mod Lists
pub mod Laws
