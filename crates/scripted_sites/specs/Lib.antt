-- What sites in memory give, for tests and contracts.
-- `crates/scripted_sites/src` has the code.
pub mod Scripted
