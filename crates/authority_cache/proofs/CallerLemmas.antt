-- What proofs of other crates cite of this one; all other lemmas of `proofs/` are its own.
pub use Rattle.authority_cache.proofs.EntryLaws.{all-push, count-bound, count-cons, count-push}
pub use Rattle.authority_cache.proofs.FoundLaws.{state_found}
pub use Rattle.authority_cache.proofs.Reading.{reads_alike}
pub use Rattle.authority_cache.proofs.SiteLaws.{other_text, same_text}
pub use Rattle.authority_cache.proofs.Telling.{arrives, begun, counts_alike, limit_tells, new, swept_away}
