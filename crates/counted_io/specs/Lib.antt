-- The definitions that contracts cite.
-- `KnownBytes` is std's, for the crates above.
pub use Rattle.std.specs.Io.KnownBytes
pub mod Counted
pub mod Device
pub mod FailAt
pub mod Limits
pub mod Lines
pub mod Messages
pub mod Output
pub mod Reads
