-- Definitions for the time that is left.
pub mod Times
