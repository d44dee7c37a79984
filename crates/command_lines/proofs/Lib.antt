-- Lemmas that several proofs share.
pub mod PlainText
pub mod KeptWords
pub mod LineFaults
pub mod Giving
pub mod Serving
pub mod Lent
pub mod Walking
pub mod ReplyTexts
pub mod SealTexts
