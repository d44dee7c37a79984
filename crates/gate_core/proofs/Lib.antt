-- Lemmas on the definitions of `specs/`.
-- Used by the answers beside them.
pub mod ListedGrants
pub mod Keeping
pub mod NextBase
pub mod SealedBook
pub mod ResumedBook
pub mod Ending
pub mod Looking
pub mod Refusing
pub mod Calling
pub mod Headlines
pub mod Counting
