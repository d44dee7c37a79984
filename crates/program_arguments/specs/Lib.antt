-- Definitions for the contracts of the program's arguments.
pub mod Blocks
pub mod Contacts
pub mod Journals
pub mod Numbers
pub mod Options
pub mod Tls
