-- The definitions for contracts, one concept a file.
-- `crates/journal/src` has the code.
pub mod Bases
pub mod Counting
pub mod Crash
pub mod Cutting
pub mod FolderNames
pub mod Heads
pub mod Joining
pub mod Journal
pub mod JournaledSink
pub mod NamesRead
pub mod Parts
pub mod Reading
pub mod Rooms
pub mod Shelves
pub mod Taped
pub mod Writing
