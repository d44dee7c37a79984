-- Definitions for the contracts of clients' sessions.
pub mod InfoText
pub mod ClientReplyText
pub mod Readings
pub mod FirstLines
pub mod Clients
pub mod WhyReply
