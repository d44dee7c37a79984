-- No line and no octet was read.
use Rattle.std.proofs.Common.{◌≡◌, ℕ, List, [], ◌∷◌, arith, length, refl, sym, ◌∙◌}
use Rattle.history_text.specs.SpellBase.{lines_text}
use Rattle.crawl_audit.proofs.whole_lines.WholeLines.new.Goals as goal

no_octets : (lines : List (List ℕ)) → length lines ≡ 0 → length (lines_text lines) ≡ 0
no_octets [] none = refl
no_octets (line ∷ lines) none = absurd (omega (arith, none))

pub returns-clause-heard : goal.returns-clause-heard
returns-clause-heard c = λ left.
    let heard = c.in_ok-new.ensures.heard left in
    let holds = heard.holds in
    let none = no_octets heard.lines (sym holds.lines_are ∙ c.in_ok-new.ensures.lines) in
    record { heard = heard; octets_are = sym none; bound = omega (arith, none) }
