-- The lemmas that proofs of other crates cite; all others are private.
pub use Rattle.gate_history.proofs.Counting.{all-append, all-filter}
pub use Rattle.gate_history.proofs.Deciding.{decides_once}
pub use Rattle.gate_history.proofs.EntryCounts.{each_entry_counts}
pub use Rattle.gate_history.proofs.Following.{followed_count, followed_push, rise_push}
pub use Rattle.gate_history.proofs.KnownLaws.{lives_bounded}
pub use Rattle.gate_history.proofs.LegalLaws.{says_base}
pub use Rattle.gate_history.proofs.Looking.{IsInForce, IsPast, if_false, if_true, in_force_of, past_of}
pub use Rattle.gate_history.proofs.OneOrder.{Among, among_filter, irreflexive, nat_tie, once, one_order, one_standing, same_text, text_tie}
pub use Rattle.gate_history.proofs.OrderLaws.{covered_alike, greatest_alike, says_on}
pub use Rattle.gate_history.proofs.Reordering.{keys_say, reordering_says}
pub use Rattle.gate_history.proofs.Saying.{says-all, says-length}
pub use Rattle.gate_history.proofs.SealLaws.{greatest_is, next_new}
pub use Rattle.gate_history.proofs.Soundness.{granted_covered, leads_to_base, stands_once}
