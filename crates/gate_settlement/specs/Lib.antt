-- Definitions for the contracts of the settlement of a gate.
-- RFC 9309, section 2.4.
pub mod Settling
