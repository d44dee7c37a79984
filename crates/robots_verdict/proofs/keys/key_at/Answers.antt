-- The group and the pattern are those of the row.
use Rattle.std.proofs.Common.{◌≡◌, ℕ, List, length, min, sym, ap, ◌∙◌, subst}
use Rattle.path_pattern.specs.Texts.{AreOctets, spelled_number}
use Rattle.robots_verdict.specs.Rows.{row_at}
use Rattle.robots_verdict.proofs.keys.key_at.Goals as goal

pub returns-clause-key : goal.returns-clause-key
returns-clause-key c =
    let rows = c.args.rows.now.rows in
    let key = c.key_of.result in
    let same : c.args.place ≡ key.place = sym c.key_of.ensures.place.1 in
    let form : c.form.result.now ≡ (row_at rows key.place).form = c.form.ensures ∙ ap (λ (n : ℕ). (row_at rows n).form) same in
    record {
      group = c.key_of.ensures.place.0 ∙ c.group.ensures ∙ ap (λ (n : ℕ). (row_at rows n).group) same;
      spelled = c.key_of.ensures.spelled ∙ ap (spelled_number 16 0) form;
      cut = c.key_of.ensures.cut ∙ ap (λ (text : List ℕ). min 17 (length text)) form;
      octets = subst AreOctets form c.key_of.ensures.octets;
    }
