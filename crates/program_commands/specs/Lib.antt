-- Definitions for the contracts of the program's next step, its messages and its endings.
pub mod Endings
pub mod AuditResult
pub mod ServerLines
pub mod Ready
pub mod Messages
