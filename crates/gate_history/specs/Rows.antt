-- A worked example: one fetch of a site without robots.txt, and the base that follows.
-- The contract of `rows.rt`.
use Rattle.std.specs.Prelude.{ℕ, List, [], ◌∷◌, codes}
use Rattle.robots_verdict.specs.declared.answer.Opening.TheVariants.{Unavailable}
use Rattle.robots_verdict.specs.declared.said.Said.{Said}
use Rattle.robots_verdict.specs.declared.said.Said.TheVariants as says
use Rattle.gate_history.specs.declared.entry.Entry.TheVariants.{Begun, Arrived, Granted, Started}
use Rattle.gate_history.specs.declared.outcome.Reason.TheVariants as reasons
use Rattle.gate_history.specs.Base.{Base, empty_base}
use Rattle.gate_history.specs.History.{History, from, ◌▸◌}

-- the site of the row
abbrev pub site : List ℕ
site = codes "a.example"

-- its page
abbrev pub page : List ℕ
page = codes "http://a.example/x"

-- the crawler of the row
abbrev pub foobot : List ℕ
foobot = codes "foobot"

-- the answer of a site without robots.txt
abbrev pub no_file : Said
no_file = says.Open Unavailable

-- the fetch was granted and started
abbrev pub one_fetch : History
one_fetch =
    from empty_base ▸ Begun 100 site 1 ▸ Arrived 86400 105 site 1 no_file
    ▸ Granted 110 65536 (record { token = foobot; url = page }) ▸ Started 120 65536 reasons.Open

-- what it left open, and its numbers
abbrev pub after_one_fetch : Base
after_one_fetch = record {
  standing = record { authority = site; turn = 1; begun = 100; life = 86400; says = no_file } ∷ [];
  in_flight = [];
  unspent = [];
  running = record { number = 65536; token = foobot; url = page } ∷ [];
  grants = record { slot = 0; generation = 1 } ∷ [];
  begins = 1;
  moment = 120;
  entries = 4;
  started = 1;
}
