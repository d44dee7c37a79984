-- The lines of a kind of row end where another letter begins.
use Rattle.crawl_audit.proofs.RowSpelling.{one_base}
use Rattle.crawl_audit.proofs.laws.each_text_has_one_base.Goals as goal

pub returns : goal.returns
returns c = λ a b after after' is is' same.
    let base = is.base in
    let base' = is'.base in
    (one_base a b after after' (record { fields = is.fields; lives = base.turns.lives }) (record { fields = is'.fields; lives = base'.turns.lives }) same).0
