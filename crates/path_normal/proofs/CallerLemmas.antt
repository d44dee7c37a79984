-- What proofs of other crates cite of this one; all other lemmas of `proofs/` are its own.
pub use Rattle.path_normal.proofs.NormalLemmas.{kept_pattern, pattern_small}
pub use Rattle.path_normal.proofs.PageLemmas.{page_kind, page_splits}
pub use Rattle.path_normal.proofs.SchemeLemmas.{named_where_read, own_where_read, scheme_parts}
