-- A gate that continues a journal's last file. RFC 9309, sections 2.3.1 and 2.4.
-- Cited by `resume`.
use Rattle.std.specs.Prelude.{◌≡◌, ◌⊎◌, ◌<◌, ◌^◌, ◌++◌, ℕ, List, []}
use Rattle.crawl_audit.specs.Recovering.{IsRecovered}
use Rattle.crawl_audit.specs.declared.recovering.Recovered.{Recovered}
use Rattle.gate_core.specs.Gate.{Gate}
use Rattle.gate_history.specs.Base.{Base, empty_base}
use Rattle.gate_journal.specs.declared.resuming.Resumed.{Resumed}
use Rattle.path_normal.specs.declared.schemes.Schemes.{Schemes}

-- the gate continues the base; without entries it is a new one
abbrev pub GoesOnFrom : Base → Gate → Type 0
GoesOnFrom base g = (g.base ≡ base) ⊎ ((base.entries ≡ 0) × (g.base ≡ empty_base))

-- these sites are the first to be fetched anew
abbrev pub AreFirst : List (List ℕ) → List (List ℕ) → Type 0
AreFirst sites all = (others : List (List ℕ)) × (all ≡ sites ++ others)

-- what was recovered from the text, and the gate that continues it
pub record IsResumed (schemes : Schemes) (text : List ℕ) (resumed : Resumed) : Type 0 where
  pub found : Recovered
  pub recovered : IsRecovered schemes text found
  pub whole : resumed.whole ≡ found.whole
  pub ending : resumed.ending ≡ found.ending
  pub begun : AreFirst found.begun.items resumed.begun.items
  pub book : GoesOnFrom found.base resumed.book
