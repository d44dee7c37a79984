-- The lemmas of the proofs.
-- The proof files of this crate cite them.
mod Following
mod Lines
