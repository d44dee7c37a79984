-- The rules that the words write were read.
use Rattle.std.proofs.Common.{◌≡◌, ℕ, ◌∷◌, codes, rules, subst, sym}
use Rattle.robots_verdict.specs.declared.said.Said.{Said}
use Rattle.robots_verdict.specs.Answer.{said}
use Rattle.line_text.specs.Words.{words_left}
use Rattle.history_text.specs.declared.version.Version.{Version}
use Rattle.history_text.specs.Entries.{IsLife, IsSaid}
use Rattle.history_text.specs.Spell.{answer_fields}
use Rattle.crawl_audit.proofs.EntriesRead.{answer_read, rules_of_one, rules_of_two}
use Rattle.crawl_audit.proofs.read.read_rules.Goals.{in-One, in-Two+in_ok-life-in-Two}
use Rattle.crawl_audit.proofs.read.read_rules.Goals as goal

pub returns-in_err-life-in-Two : goal.returns-in_err-life-in-Two
returns-in_err-life-in-Two c = answer_read c.args.version (codes "R" ∷ words_left c.args.words) _ (search rules)

pub returns : goal.returns
returns c = elim c.match-version.branch [
  | in-One w ↦ subst Is (sym w.in-One.is) (rules_of_one (words_left c.args.words) c.in_ok-text.text c.match-version.life c.in_ok-rules.field-0 (search rules) (search rules) (search rules))
  | in-Two+in_ok-life-in-Two w ↦ subst Is (sym w.in-Two.is) (rules_of_two (words_left c.args.words) c.in_ok-text.text c.match-version.life c.in_ok-rules.field-0 (search rules) (search rules) (search rules))
]
  where
    Is : Version → Type 0
    Is version = (s : Said) (l : ℕ) → IsSaid s → IsLife version s l → codes "R" ∷ words_left c.args.words ≡ answer_fields version s l → (said c.in_ok-rules.field-0 ≡ s) × (c.match-version.life ≡ l)
