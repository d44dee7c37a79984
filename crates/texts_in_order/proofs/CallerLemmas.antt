-- What proofs of other crates cite of this one; all other lemmas of `proofs/` are its own.
pub use Rattle.texts_in_order.proofs.Passing.{order_prefix}
