-- Definitions for accepting clients, waiting for them, and closing.
pub mod Accepts
pub mod Ahead
pub mod Closing
pub mod Waiting
