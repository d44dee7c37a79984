-- Definitions for the contracts of all that writes a history.
-- See docs/FORMATS.md.
pub mod BaseFields
pub mod Entries
pub mod Exports
pub mod Parts
pub mod Spell
pub mod SpellBase
pub mod Texts
pub mod AnswerContent
