-- What proofs of other crates cite of this one; all other lemmas of `proofs/` are its own.
pub use Rattle.robots_verdict.proofs.OneVerdict.{one, one_weight}
pub use Rattle.robots_verdict.proofs.Walking.{IsWalked, itself, pass_over, start, through, walked_all, weigh}
