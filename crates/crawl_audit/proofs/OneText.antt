-- Exports and segments are the texts of chains of one.
-- Used by `laws`.
use Rattle.std.proofs.Common.{◌≡◌, ℕ, ◌==◌, Bool, true, false, cond, List, [], ◌∷◌, ◌++◌, map, inl, inr, refl, sym, ap, ◌∙◌, arith, append-nil}
use Rattle.std.proofs.lemmas.List.Concat.{flat_map-append}
use Rattle.gate_history.specs.declared.entry.Entry.{Entry}
use Rattle.gate_history.specs.Base.{Base, empty_base}
use Rattle.gate_history.specs.History.{from}
use Rattle.gate_history.proofs.CallerLemmas.{followed_count}
use Rattle.history_text.specs.declared.version.Version.{Version}
use Rattle.history_text.specs.declared.version.Version.TheVariants.{One, Two}
use Rattle.history_text.specs.Texts.{IsText, version_lines}
use Rattle.crawl_audit.specs.Chains.{chain_text}
use Rattle.history_text.specs.Exports.{IsExport, plain_text}
use Rattle.crawl_audit.specs.Laws.{ExportIsChain, SegmentIsChain, SegmentsGoOn}
use Rattle.history_text.specs.Spell.{entry_line, entry_lines, spell}
use Rattle.history_text.specs.SpellBase.{base_lines, base_text, ended, lines_text}

lines_of : (v : Version) (es : List Entry) → entry_lines v es ≡ lines_text (map (entry_line v) es)
lines_of v [] = refl
lines_of v (e ∷ es) = ap (λ l. ended (entry_line v e) ++ l) (lines_of v es)

same_text : (v : Version) (es : List Entry) → spell v es ≡ chain_text (plain_text v es) []
same_text One es = lines_of One es ∙ ap lines_text (sym (append-nil (map (entry_line One) es)))
same_text Two es = ap (λ l. 86 ∷ 32 ∷ 50 ∷ 10 ∷ l) (lines_of Two es ∙ ap lines_text (sym (append-nil (map (entry_line Two) es))))

right_text : (v : Version) (es : List Entry) → IsExport v es → IsText (plain_text v es)
right_text v es is =
    let few = is.within in
    record { follows = inl refl; spelled = is.spelled; legal = is.legal; within = is.within; counted = omega (arith, followed_count (from empty_base) es) }

pub export_is_chain : ExportIsChain
export_is_chain v es is = (record { begins = right_text v es is; goes_on = tt }, sym (same_text v es))

pub segment_is_chain : SegmentIsChain
segment_is_chain s = by (s.base.entries == 0)
  where
    entries : List (List ℕ)
    entries = map (entry_line Two) s.entries

    by : (b : Bool) → lines_text ((cond b (version_lines Two) (base_lines s.base) ++ entries) ++ []) ≡ cond b (spell Two s.entries) (base_text s.base ++ entry_lines Two s.entries)
    by true = sym (same_text Two s.entries)
    by false = ap lines_text (append-nil (base_lines s.base ++ entries)) ∙ flat_map-append ended (base_lines s.base) entries ∙ ap (λ t. base_text s.base ++ t) (sym (lines_of Two s.entries))

pub segments_go_on : SegmentsGoOn
segments_go_on h s is some says = record {
  text = is;
  base = elim is.follows [
    | inl none ↦ absurd (omega (arith, some, ap (λ (b : Base). b.entries) none))
    | inr follows ↦ follows
  ];
  says = says;
}
