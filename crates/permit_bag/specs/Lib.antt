-- Definitions for the contracts of bags.
-- RFC 9309, section 2.2.
pub mod Bags
