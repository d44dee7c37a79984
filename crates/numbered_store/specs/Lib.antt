-- Definitions for values that are found by their numbers.
pub mod Stores
