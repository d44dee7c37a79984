-- The reply to SEAL if there are entries.
-- Used by `push_segment`.
use Rattle.std.proofs.Common.{◌≡◌, ◌<◌, List, [], ◌∷◌, ◌++◌, length, refl, arith}
use Rattle.gate_history.specs.declared.entry.Entry.{Entry}
use Rattle.gate_history.specs.Segment.{Sealed}
use Rattle.history_text.specs.SpellBase.{spell_segment}
use Rattle.command_lines.specs.SealText.{handed_entries, line_count, sealed_line}

pub some_handed : (entries : List Entry) (s : Sealed) → 0 < length entries → handed_entries entries s ≡ sealed_line (line_count s) ++ spell_segment s
some_handed [] s some = absurd (omega (arith, some))
some_handed (e ∷ later) s some = refl
