-- Definitions for job lines, report and table lines, and why there are none.
pub mod Causes
pub mod ClosedText
pub mod Histories
pub mod JobLines
pub mod JobLists
pub mod LeftText
pub mod NotShifted
pub mod ReportText
pub mod ShiftText
pub mod TableText
