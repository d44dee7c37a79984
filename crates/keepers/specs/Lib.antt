-- Definitions for the contracts of keepers.
pub mod Deals
pub mod BookKeeping
pub mod DeskKeeping
pub mod Bounding
pub mod Rooms
pub mod Counting
