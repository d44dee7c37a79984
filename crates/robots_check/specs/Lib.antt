-- Definitions for the lines of a robots text and for checks: the page of a URL, its answer, and what was read and
-- written.
pub mod AgentText
pub mod AnswerText
pub mod Answering
pub mod Answers
pub mod Checks
pub mod Explained
pub mod Forms
pub mod Input
pub mod LinesText
pub mod Notes
pub mod Outcomes
pub mod Prints
pub mod Ready
pub mod Rows
pub mod Rules
pub mod Said
pub mod Targets
pub mod Told
