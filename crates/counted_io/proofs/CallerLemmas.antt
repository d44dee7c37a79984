-- What proofs of other crates cite of this one; all other lemmas of `proofs/` are its own.
pub use Rattle.counted_io.proofs.Writing.{Passes-cut, Passes-cut-all, Passes-cut-piece, Passes-further, Passes-pieces, Passes-push, Passes-written, on_err, prefix_longer, prefix_piece}
