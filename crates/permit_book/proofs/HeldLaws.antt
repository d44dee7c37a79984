-- An authority's outstanding permits after each change of a table.
-- Used by `holds_follow` of `laws.rt`, and by crates above.
use Rattle.std.proofs.Common.{◌≡◌, ℕ, ◌+◌, ◌<◌, true, List, length, refl, sym, subst, true≢false, arith}
use Rattle.permit_book.specs.declared.out.SlotContent.{SlotContent}
use Rattle.permit_book.specs.declared.out.SlotContent.TheVariants.{Nothing, Unspent, Running}
use Rattle.permit_book.specs.Numbers.{slot_of, generation_of}
use Rattle.permit_book.specs.Table.{Table, decided, held_count, is_nothing, is_out_for, is_unspent_out, one_for, out_under, slot_at, unused, with_out}
use Rattle.permit_book.specs.Laws.{EndHolds, GrantHolds, NewHolds, StartHolds}
use Rattle.permit_book.proofs.TableLaws.{count-set, free_there, none_pass, out_there, unspent_something}

written : (t : Table) (n : ℕ) (old out : SlotContent) (authority : List ℕ) → slot_of n < length t.slots → (slot_at t (slot_of n)).out ≡ old →
    held_count (with_out t n out) authority + one_for authority old ≡ held_count t authority + one_for authority out
written t n old out authority within held =
    subst (λ o. held_count (with_out t n out) authority + one_for authority o ≡ held_count t authority + one_for authority out) held
    (count-set (λ slot. is_out_for authority slot.out) t.slots (slot_of n) (record { last = generation_of n; out = out }) unused within)

nothing_is : (out : SlotContent) → is_nothing out ≡ true → out ≡ Nothing
nothing_is Nothing nothing = refl
nothing_is (Unspent fetch) nothing = absurd (true≢false (sym nothing))
nothing_is (Running fetch) nothing = absurd (true≢false (sym nothing))

same_authority : (out : SlotContent) (authority : List ℕ) → is_unspent_out out ≡ true → one_for authority (decided true out) ≡ one_for authority out
same_authority (Unspent fetch) authority is = refl
same_authority (Running fetch) authority is = absurd (true≢false (sym is))
same_authority Nothing authority is = absurd (true≢false (sym is))

pub held_granted : GrantHolds
held_granted t n fetch authority next =
    let there = free_there t (slot_of n) next.free in
    let change = written t n Nothing (Unspent fetch) authority there.0 (nothing_is (slot_at t (slot_of n)).out there.1) in
    omega (arith, change)

pub held_started : StartHolds
held_started t n authority is =
    let out = out_under t n in
    let there = out_there t n (unspent_something out is).0 in
    let change = written t n out (decided true out) authority there.2 (sym there.1) in
    omega (arith, change, same_authority out authority is)

pub held_ended : EndHolds
held_ended t n authority some =
    let there = out_there t n some in
    let change = written t n (out_under t n) Nothing authority there.2 (sym there.1) in
    omega (arith, change)

pub held_new : NewHolds
held_new first slots authority = none_pass (λ slot. is_out_for authority slot.out) refl slots
