-- Definitions for the gate's contracts.
-- RFC 9309, sections 2.2 to 2.4.
pub mod Limits
pub mod Gate
pub mod TurnNames
pub mod PlaceCounts
pub mod PermitUrls
pub mod Refused
pub mod Kept
pub mod Replies
pub mod Sealing
pub mod Resuming
pub mod Opened
pub mod States
pub mod Calls
pub mod Headline
pub mod Rows
