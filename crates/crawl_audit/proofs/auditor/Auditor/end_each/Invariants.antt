-- The lines of the ends so far were taken, and are the text.
use Rattle.std.proofs.Common.{◌≡◌, ℕ, All, Bool, List, [], map, take}
use Rattle.path_normal.specs.declared.schemes.Schemes.{Schemes}
use Rattle.gate_history.specs.History.{History}
use Rattle.history_text.specs.declared.version.Version.{Version}
use Rattle.crawl_audit.specs.Audit.{Holds}
use Rattle.crawl_audit.specs.Ending.{IsEnding, TakesEnds}
use Rattle.crawl_audit.specs.Records.{entry_of}
use Rattle.crawl_audit.specs.Steps.{among}
use Rattle.crawl_audit.proofs.auditor.Auditor.end_each.Given as goal

abbrev pub invariant-loop-end : goal.invariant-loop-end
invariant-loop-end l = record {
  idle : l.output ≡ [];
  taken : (schemes : Schemes) (lines : List (List ℕ)) (version : Version) (rising : Bool) (h : History) (count : ℕ) → Holds schemes l.initial.self lines (among version rising h count) → All IsEnding (map entry_of l.ends) →
      TakesEnds schemes lines version rising h count (map entry_of (take l.end-index l.ends)) l.text.items l.self;
}
