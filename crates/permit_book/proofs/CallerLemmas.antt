-- The lemmas that proofs of other crates cite; all others are private.
pub use Rattle.permit_book.proofs.Filters.{filter-all, filter-dropped, filter-kept, filter-parts, list_any-both, list_any-filter, list_any-more, numbered-added, numbered-gone, numbered-new, numbered-without}
pub use Rattle.permit_book.proofs.HeldLaws.{held_ended, held_granted, held_new, held_started}
pub use Rattle.permit_book.proofs.IdleTables.{idle_empty, noted_tells}
pub use Rattle.permit_book.proofs.TableLaws.{same_number}
pub use Rattle.permit_book.proofs.Telling.{finished, granted, new, returned, started}
pub use Rattle.permit_book.proofs.TellingFree.{greatest_alike, next_alike, none_free_alike, reads_alike}
