-- One word is written, with one bit more, unless it has the bit.
use Rattle.std.proofs.Common.{◌%◌, ◌/◌, ◌<◌, w64, arith}
use Rattle.std.proofs.lemmas.Nat.Bits.{bit_at_set_same, bit_at_set_other}
use Rattle.permit_book.proofs.BitLaws.{SetsBit-kept, SetsBit-word, KeepsOthers-word}
use Rattle.permit_book.proofs.words.set_bit.Goals as goal

pub returns-then-with_bit-word-clause-bits : goal.returns-then-with_bit-word-clause-bits
returns-then-with_bit-word-clause-bits c =
    let within : c.args.i % 64 < 64 = omega arith in
    SetsBit-word c.args.words.now c.args.i 1 _ c.requires (bit_at_set_same w64 _ _ within) (λ k _ apart. bit_at_set_other w64 _ _ within k apart)

pub returns-then-with_bit-word-clause-others : goal.returns-then-with_bit-word-clause-others
returns-then-with_bit-word-clause-others c = KeepsOthers-word c.args.words.now (c.args.i / 64) _

pub returns-else-with_bit-word-clause-bits : goal.returns-else-with_bit-word-clause-bits
returns-else-with_bit-word-clause-bits c =
    let within : c.args.i % 64 < 64 = omega arith in
    SetsBit-kept c.args.words.now c.args.i 1 (rw (← c.if-with_bit-word.false) (bit_at_set_same w64 _ _ within))
