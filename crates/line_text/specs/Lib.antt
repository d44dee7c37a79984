-- Definitions for lines of text: words, numbers, escapes and pieces.
pub mod Escapes
pub mod Limits
pub mod Number
pub mod Pieces
pub mod RuleWords
pub mod Strips
pub mod Words
