-- Definitions for the contracts of HTTP/1.1 requests and responses.
-- RFC 9110 and RFC 9112.
pub mod Bodies
pub mod Chunks
pub mod Decoding
pub mod FieldValues
pub mod Fields
pub mod Finding
pub mod Freshness
pub mod Heads
pub mod Kept
pub mod Left
pub mod Limits
pub mod Messages
pub mod Options
pub mod Parts
pub mod Persistence
pub mod Reading
pub mod Request
pub mod Response
pub mod Seeing
