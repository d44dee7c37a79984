-- The lemmas of the proofs.
mod CutAgain
mod Failing
