-- Definitions for the contracts of a gate's clock.
-- RFC 9309, section 2.4.
pub mod Moments
pub mod Laws
