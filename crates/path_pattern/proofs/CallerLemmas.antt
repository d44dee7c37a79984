-- What proofs of other crates cite of this one; all other lemmas of `proofs/` are its own.
pub use Rattle.path_pattern.proofs.Spelling.{by_front, halves, is_equal, is_greater, is_less, later, spell_less}
pub use Rattle.path_pattern.proofs.SpellsLemmas.{off_last, on_last}
pub use Rattle.path_pattern.proofs.StarLemmas.{no_star}
