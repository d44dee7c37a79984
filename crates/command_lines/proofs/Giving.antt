-- How the text of a reply becomes a line's answer.
-- Used by `answer_call` and `answer_seal`.
use Rattle.std.proofs.Common.{ℕ, List, ◌++◌}
use Rattle.std.specs.Prelude.{Option, Result, Ok, Err, OnOk, OnErr}
use Rattle.counted_io.specs.Device.{AppendsPrefix}
use Rattle.counted_io.specs.Output.{Passes}
use Rattle.command_lines.specs.Answers.{CutsReply, GivesReply}

pub gives_ok : {T E : Type 0} (is_reply : List ℕ → Type 0) (a b : Option (List ℕ)) (pending left text : List ℕ) (r : Result T E) →
    is_reply text → OnOk r (Passes a b (pending ++ text) left) → OnOk r (GivesReply is_reply a b pending left)
gives_ok is_reply a b pending left text (Ok x) answered passed =
    record { reply = text; answered = answered; passed = passed }
gives_ok is_reply a b pending left text (Err e) answered passed = tt

pub cuts_err : {T E : Type 0} (is_reply : List ℕ → Type 0) (a b : Option (List ℕ)) (pending text : List ℕ) (r : Result T E) →
    is_reply text → OnErr r (AppendsPrefix a b (pending ++ text)) → OnErr r (CutsReply is_reply a b pending)
cuts_err is_reply a b pending text (Ok x) answered cut = tt
cuts_err is_reply a b pending text (Err e) answered cut =
    record { reply = text; answered = answered; cut = cut }
