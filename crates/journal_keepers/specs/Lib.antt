-- The definitions for contracts, one concept a file.
-- `crates/journal_keepers/src` has the code.
pub mod Fetching
