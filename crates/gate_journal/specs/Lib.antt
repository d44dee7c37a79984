-- The definitions for contracts, one concept a file.
-- `crates/gate_journal/src` has the code.
pub mod Crashes
pub mod Follows
pub mod Recorded
pub mod Resuming
