-- What one more line does to the whole lines read of a text, and why such a line is bad.
-- Used by `WholeLines::take`.
use Rattle.std.proofs.Common.{◌≡◌, ℕ, ◌+◌, ◌<◌, ◌≤◌, List, [], ◌∷◌, ◌++◌, Some, Ok, Err, inl, inr, length, refl, sym, ap, subst, ◌∙◌, arith, append_assoc, append-nil, length-append}
use Rattle.std.specs.Prelude.{Contains, Option}
use Rattle.std.specs.Io.KnownBytes.{Consumes, IsAtEnd, prepend_known}
use Rattle.std.proofs.KnownBytes.{Consumes-trans, Keeps-refl, prepend_known-end}
use Rattle.std.proofs.lemmas.List.Elements.{All-nil, Contains-append_right}
use Rattle.counted_io.specs.Lines.{FindsEnd, FindsTooLongTo, TakesLast, TakesLineTo}
use Rattle.counted_io.specs.declared.line_end.LineEnd.TheVariants.{Lf}
use Rattle.path_normal.specs.declared.schemes.Schemes.{Schemes}
use Rattle.crawl_audit.specs.declared.auditor.Auditor.{Auditor}
use Rattle.crawl_audit.specs.declared.fault.AuditFault.{AuditFault}
use Rattle.crawl_audit.specs.declared.fault.AuditFault.TheVariants.{BadLine, Read, NoMemory}
use Rattle.crawl_audit.specs.declared.whole_lines.WholeLines.{WholeLines}
use Rattle.crawl_audit.specs.Audit.{AddsLine, Holds, LeadsNowhere}
use Rattle.crawl_audit.specs.Chains.{line_limit}
use Rattle.crawl_audit.specs.Recovering.{HeardCut, HeardWhole, IsBadWhole, IsWholeFault}
use Rattle.history_text.specs.SpellBase.{lines_text}
use Rattle.crawl_audit.proofs.Auditing.{bad_line, bad_line_behind, bad_part, bad_part_behind, ended_at, no_feeds, split_known, split_twice, text_more}

longer : (lines : List (List ℕ)) (line : List ℕ) → length (lines_text (lines ++ line ∷ [])) ≡ length (lines_text lines) + length line + 1
longer lines line =
    omega (arith, ap length (text_more lines line), length-append (lines_text lines) (line ++ 10 ∷ []), length-append line (10 ∷ []))

has_feed : (raw rest : List ℕ) → Contains (raw ++ 10 ∷ rest) 10
has_feed raw rest = Contains-append_right raw (10 ∷ rest) 10 (0, omega (arith), refl)

module _ (schemes : Schemes) (w : WholeLines) (input behind : Option (List ℕ)) (whole : HeardWhole schemes w input behind) where
  pub few_octets : w.octets ≤ 209715300000000
  few_octets =
      let heard = whole.heard in
      let holds = heard.holds in
      omega (arith, whole.octets_are, whole.bound, holds.few)

  pub whole_line : (line : List ℕ) (after : Option (List ℕ)) (w' : WholeLines) → TakesLineTo Lf line_limit behind after line →
      (let heard = whole.heard in AddsLine schemes heard.lines heard.place line (Ok tt) w'.auditor) → w'.octets ≡ w.octets + length line + 1 →
      HeardWhole schemes w' input after × (w'.auditor.lines ≡ w.auditor.lines + 1)
  whole_line line after w' t b octets =
      let heard = whole.heard in
      let holds = b.1 in
      let before = heard.holds in
      let long = longer heard.lines line in (
        record {
          heard = record {
            lines = heard.lines ++ line ∷ [];
            place = b.0;
            holds = b.1;
            taken = subst (Consumes input after) (sym (text_more heard.lines line ∙ ap (λ k. lines_text heard.lines ++ (k ++ 10 ∷ [])) t.line_is))
                (Consumes-trans input behind after (lines_text heard.lines) (t.raw ++ 10 ∷ []) heard.taken t.consumed);
          };
          octets_are = omega (arith, octets, whole.octets_are, long);
          bound = omega (arith, whole.bound, long, t.fits, length-append heard.lines (line ∷ []));
        },
        omega (arith, holds.lines_are, before.lines_are, length-append heard.lines (line ∷ [])),
      )

  module _ (w' : WholeLines) (holds : let heard = whole.heard in Holds schemes w'.auditor heard.lines heard.place) (octets : w'.octets ≡ w.octets) where
    pub torn_line : (line pending : List ℕ) (left : Option (List ℕ)) → TakesLast line_limit behind pending left line → HeardCut schemes w' input
    torn_line line pending left t =
        let heard = whole.heard in
        record {
          lines = heard.lines;
          place = heard.place;
          holds = holds;
          cut = λ text is.
              let s = split_twice input behind (prepend_known pending left) text (lines_text heard.lines) line is heard.taken t.consumed in
              let end = prepend_known-end (prepend_known pending left) left pending (Keeps-refl (prepend_known pending left)) t.drained.empty t.drained.at_end in
              let none : s.0 ≡ [] = subst IsAtEnd s.1 end in
              record {
                are_lines = no_feeds schemes w.auditor heard.lines heard.place heard.holds;
                torn = line;
                no_line_feed = t.no_line_feed;
                text_is = s.2 ∙ ap (λ k. lines_text heard.lines ++ k) (ap (λ k. line ++ k) none ∙ append-nil line);
              };
          octets_are = octets ∙ whole.octets_are;
        }

    pub no_line : (line pending : List ℕ) (left : Option (List ℕ)) → FindsEnd behind pending left line → HeardCut schemes w' input
    no_line line pending left f =
        let heard = whole.heard in
        let at = ended_at schemes w.auditor input behind whole.heard line pending left f in
        record {
          lines = heard.lines;
          place = heard.place;
          holds = holds;
          cut = λ text is.
              let s = split_known text (prepend_known pending left) (lines_text heard.lines) (subst (λ (i : Option (List ℕ)). Consumes i (prepend_known pending left) (lines_text heard.lines)) is at.0) in
              let none : s.0 ≡ [] = subst IsAtEnd s.1 at.1 in
              record {
                are_lines = no_feeds schemes w.auditor heard.lines heard.place heard.holds;
                torn = [];
                no_line_feed = All-nil _;
                text_is = s.2 ∙ ap (λ k. lines_text heard.lines ++ k) none;
              };
          octets_are = octets ∙ whole.octets_are;
        }

  pub fault_line : (line : List ℕ) (after : Option (List ℕ)) (fault : AuditFault) (a' : Auditor) → TakesLineTo Lf line_limit behind after line →
      (let heard = whole.heard in AddsLine schemes heard.lines heard.place line (Err fault) a') → (text : List ℕ) → input ≡ Some text → IsWholeFault schemes text fault
  fault_line line after (BadLine number) a' t b text is =
      let heard = whole.heard in
      let s = split_twice input behind after text (lines_text heard.lines) (t.raw ++ 10 ∷ []) is heard.taken t.consumed in
      let holds = heard.holds in
      let here = s.2 ∙ ap (λ k. lines_text heard.lines ++ k) (append_assoc t.raw (10 ∷ []) s.0) in
      let count = b.0 ∙ ap (λ n. n + 1) (sym holds.lines_are) in
      let nowhere = subst (LeadsNowhere schemes heard.lines heard.place) t.line_is b.1 in
      record {
        bad = bad_line schemes w.auditor heard.lines heard.place heard.holds text t.raw s.0 here t.no_line_feed number count nowhere;
        whole = inl (subst (λ (b : List ℕ). Contains b 10) (sym (bad_line_behind schemes w.auditor heard.lines heard.place heard.holds text t.raw s.0 here t.no_line_feed number count nowhere)) (has_feed t.raw s.0));
      }
  fault_line line after Read a' t b text is = tt
  fault_line line after NoMemory a' t b text is = tt

  pub fault_long : (pending : List ℕ) (left : Option (List ℕ)) (number : ℕ) → number ≡ w.auditor.lines + 1 → FindsTooLongTo Lf line_limit behind pending left → (text : List ℕ) → input ≡ Some text → IsBadWhole schemes text number
  fault_long pending left number count t text is =
      let heard = whole.heard in
      let s = split_twice input behind (prepend_known pending left) text (lines_text heard.lines) t.raw is heard.taken t.consumed in
      let over : line_limit < length t.raw = elim t.too_long [ inl h ↦ h | inr h ↦ h.0 ] in
      let some : 0 < length t.raw = omega arith in
      let long : (l r : List ℕ) → length l ≤ line_limit → t.raw ++ s.0 ≡ l ++ 10 ∷ r → length l < length t.raw = λ l r short same. omega arith in
      record {
        bad = bad_part schemes w.auditor heard.lines heard.place heard.holds text t.raw s.0 s.2 t.no_line_feed some number count long;
        whole = inr (omega (
          arith,
          over,
          length-append t.raw s.0,
          ap length (bad_part_behind schemes w.auditor heard.lines heard.place heard.holds text t.raw s.0 s.2 t.no_line_feed some number count long),
        ));
      }
