-- Free slots are the same by the table and by the lists.
use Rattle.permit_book.proofs.TellingFree as laws
use Rattle.permit_book.proofs.laws.next_is_alike.Goals as goal

pub returns-clause-next : goal.returns-clause-next
returns-clause-next c = laws.next_alike

pub returns-clause-none_free : goal.returns-clause-none_free
returns-clause-none_free c = laws.none_free_alike
