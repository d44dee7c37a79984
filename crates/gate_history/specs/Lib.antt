-- Definitions for the contracts of histories.
-- RFC 9309, sections 2.2.2, 2.3.1 and 2.4.
pub mod Grants
pub mod Base
pub mod Order
pub mod Kept
pub mod History
pub mod Outstanding
pub mod Standing
pub mod Cause
pub mod Wording
pub mod Ruling
pub mod Legal
pub mod LeftOpen
pub mod Seal
pub mod Segment
pub mod Laws
pub mod Rows
