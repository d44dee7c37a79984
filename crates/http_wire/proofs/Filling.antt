-- What a read after a buffer's octets leaves.
-- Used by `Buffer::fill`.
use Rattle.std.proofs.Common.{Option, Result, Ok, Err, ◌≡◌, ◌≤◌, ◌+◌, ◌∙◌, ◌++◌, ℕ, List, length, take, sym, ap, arith}
use Rattle.std.specs.Prelude.{IfOk}
use Rattle.std.specs.Io.KnownBytes.{ReadConsumes}
use Rattle.http_wire.specs.Reading.{Grows}
use Rattle.std.proofs.Math.Seq.{take-append-add}
use Rattle.std.proofs.lemmas.List.{take-append-le, length-append, length-take-le}

filled : (end count : ℕ) (room buffer tail : List ℕ) → end ≤ length room → count ≤ length buffer
    → take (end + count) (take end room ++ (buffer ++ tail)) ≡ take end room ++ take count buffer
filled end count room buffer tail inside fits =
    ap (λ n. take (n + count) (take end room ++ (buffer ++ tail))) (sym (length-take-le end room inside))
    ∙ take-append-add (take end room) (buffer ++ tail) count
    ∙ ap (λ octets. take end room ++ octets) (take-append-le count buffer tail fits)

filled_fits : (end count : ℕ) (room buffer tail : List ℕ) → end ≤ length room → count ≤ length buffer
    → end + count ≤ length (take end room ++ (buffer ++ tail))
filled_fits end count room buffer tail inside fits =
    omega (arith, length-append (take end room) (buffer ++ tail), length-append buffer tail, length-take-le end room inside)

pub read_filled : {E : Type 0} (result : Result ℕ E) (left left' : Option (List ℕ)) (end : ℕ) (room buffer tail : List ℕ) → end ≤ length room
    → IfOk result (λ count. count ≤ length buffer) → ReadConsumes left left' result buffer
    → IfOk result (λ count. (end + count ≤ length (take end room ++ (buffer ++ tail))) × Grows left left' (take end room) (take (end + count) (take end room ++ (buffer ++ tail))))
read_filled (Ok count) left left' end room buffer tail inside fits read = (
  filled_fits end count room buffer tail inside fits,
  record { piece = take count buffer; read = read.0; grown = filled end count room buffer tail inside fits },
)
read_filled (Err fault) left left' end room buffer tail inside fits read = tt
