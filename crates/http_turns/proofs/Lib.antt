-- Lemmas of what waits to be sent.
pub mod Pending
