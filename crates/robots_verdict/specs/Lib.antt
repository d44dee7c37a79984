-- Definitions for the contracts of policies and answers.
-- RFC 9309, sections 2.2.2 and 2.3.1.
pub mod Answer
pub mod Heads
pub mod Index
pub mod Kept
pub mod Keys
pub mod Parents
pub mod Placed
pub mod Rewritten
pub mod Rows
pub mod Search
pub mod Spares
pub mod Strongest
pub mod Verdict
pub mod Weights
