-- Definitions for shifts: their workers, sites and pauses.
pub mod Crews
pub mod Orders
pub mod Pauses
pub mod Shifts
pub mod Sites
