-- Lemmas on page URLs, authorities and normal forms.
-- Used by the answers beside them.
pub mod NormalLemmas
pub mod PageLemmas
pub mod PlainLemmas
pub mod PlainHosts
pub mod AuthorityLemmas
pub mod SchemeLemmas
pub mod CallerLemmas
