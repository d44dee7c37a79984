-- Definitions for the contracts of a robots.txt.
-- RFC 9309, section 2.2.
pub mod Cut
pub mod Faults
pub mod Grouped
pub mod Groups
pub mod Left
pub mod Lines
pub mod Octets
pub mod Records
pub mod Token
pub mod Walk
pub mod Words
