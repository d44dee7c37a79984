-- What proofs of other crates cite of this one; all other lemmas of `proofs/` are its own.
pub use Rattle.robots_text.proofs.GroupLaws.{grouped_stands, numbered_stands}
pub use Rattle.robots_text.proofs.Keeping.{same_kept}
pub use Rattle.robots_text.proofs.LineEntries.{at, behind, entry_of, first_of, late_from, none_of, numbered_above}
pub use Rattle.robots_text.proofs.Plains.{any_passes, passes_any}
pub use Rattle.robots_text.proofs.Walks.{HasHead, IsInGroup, grouped, head_behind, rule_in_group, walk_is}
