-- Definitions for marks of entries, and for lists of them that are a history.
-- RFC 9309, section 2.4.
pub mod Places
pub mod Marks
pub mod Ranges
pub mod Fitting
