-- Definitions for the contracts of the table of permits.
-- Files: numbers, the table, what is outstanding, and its lists.
pub mod Numbers
pub mod Bits
pub mod FreeSlots
pub mod Table
pub mod Next
pub mod Kept
pub mod Outstanding
pub mod Laws
