-- Lemmas for the proofs of functions.
mod BlockLists
