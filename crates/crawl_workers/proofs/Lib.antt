-- The lemmas of this crate's proofs.
mod Doing
mod Drawing
mod Handing
mod Ordering
mod Pausing
mod Placing
mod Queuing
mod Shifting
mod StartTotals
