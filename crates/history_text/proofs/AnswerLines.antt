-- Answers that are pushed one after the other.
-- Used by `push_answers`.
use Rattle.std.proofs.Common.{◌≡◌, ℕ, ◌+◌, ◌<◌, zero, suc, All, List, [], ◌∷◌, ◌++◌, Option, Some, None, filter, flat_map, length, get_or, take, drop, map, refl, sym, ap, subst, ◌∙◌, arith}
use Rattle.std.proofs.lemmas.List.{take_more}
use Rattle.std.proofs.lemmas.List.Elements.{All-push}
use Rattle.counted_io.specs.Device.{AppendsPrefix}
use Rattle.counted_io.specs.Output.{Passes}
use Rattle.line_text.proofs.CallerLemmas.{row_cut, row_more}
use Rattle.authority_cache.specs.declared.standing_answer.StandingAnswer.{StandingAnswer}
use Rattle.gate_history.specs.Order.{IsNextAnswer, is_behind}
use Rattle.history_text.specs.BaseFields.{IsAnswerRow}
use Rattle.history_text.specs.SpellBase.{answer_line, ended}

-- the line of an answer
abbrev pub line_of : StandingAnswer → List ℕ
line_of s = ended (answer_line s)

-- the lines of so many of these answers reached the output, and nothing failed; the others are behind the last one
pub record ArePushed (standing : List StandingAnswer) (last : Option StandingAnswer) (old new : Option (List ℕ)) (failures failures' : ℕ) (pending left : List ℕ) : Type 0 where
  pub count : ℕ
  pub rest : filter (is_behind last) standing ≡ drop count standing
  pub passes : Passes old new (pending ++ flat_map line_of (take count standing)) left
  pub none_failed : failures' ≡ failures
  pub fields : All IsAnswerRow (take count standing)

pub everything : (standing : List StandingAnswer) → filter (is_behind None) standing ≡ drop 0 standing
everything [] = refl
everything (s ∷ standing) = ap (λ l. s ∷ l) (everything standing)

-- the first of the rest, and what is behind it
pub next_at : (standing : List StandingAnswer) (count : ℕ) (next : StandingAnswer) (later : List StandingAnswer) → drop count standing ≡ next ∷ later →
    (count < length standing) × (get_or standing count next ≡ next) × (drop (count + 1) standing ≡ later)
next_at [] zero next later is = absurd (omega (arith, ap length is))
next_at [] (suc count) next later is = absurd (omega (arith, ap length is))
next_at (s ∷ standing) zero next later is = (omega arith, ap (λ l. get_or l 0 next) is, ap (drop 1) is)
next_at (s ∷ standing) (suc count) next later is =
    let rest = next_at standing count next later is in
    let on : suc count + 1 ≡ suc (count + 1) = omega arith in
    (omega (arith, rest.0), rest.1, ap (λ n. drop n (s ∷ standing)) on ∙ rest.2)

pub all_taken : (standing : List StandingAnswer) (count : ℕ) → drop count standing ≡ [] → take count standing ≡ standing
all_taken [] zero is = refl
all_taken [] (suc count) is = refl
all_taken (s ∷ standing) zero is = absurd (omega (arith, ap length is))
all_taken (s ∷ standing) (suc count) is = ap (λ l. s ∷ l) (all_taken standing count is)

module _ (standing : List StandingAnswer) (last : Option StandingAnswer) (old new newer : Option (List ℕ)) (failures failures' failures'' : ℕ) (pending left behind : List ℕ)
    (next : StandingAnswer) where
  pub pushed_more : ArePushed standing last old new failures failures' pending left → IsNextAnswer standing last (Some next) →
      Passes new newer (left ++ line_of next) behind → failures'' ≡ failures' → IsAnswerRow next →
      ArePushed standing (Some next) old newer failures failures'' pending behind
  pushed_more pushed is passes none fields =
      let n = pushed.count in
      let at = next_at standing n next (filter (is_behind (Some next)) standing) (sym pushed.rest ∙ is) in
      record {
        count = n + 1;
        rest = sym at.2;
        passes = row_more line_of standing n next old new newer pending left behind at.0 pushed.passes
            (subst (λ (s : StandingAnswer). Passes new newer (left ++ line_of s) behind) (sym at.1) passes);
        none_failed = none ∙ pushed.none_failed;
        fields = subst (λ (l : List StandingAnswer). All IsAnswerRow l) (sym (take_more standing n next at.0))
            (All-push IsAnswerRow (take n standing) (get_or standing n next) pushed.fields (subst IsAnswerRow (sym at.1) fields));
      }

  pub pushed_cut : ArePushed standing last old new failures failures' pending left → IsNextAnswer standing last (Some next) →
      AppendsPrefix new newer (left ++ line_of next) → AppendsPrefix old newer (pending ++ flat_map line_of standing)
  pushed_cut pushed is cut =
      let n = pushed.count in
      let at = next_at standing n next (filter (is_behind (Some next)) standing) (sym pushed.rest ∙ is) in
      row_cut line_of standing n next old new newer pending left at.0 pushed.passes
      (subst (λ (s : StandingAnswer). AppendsPrefix new newer (left ++ line_of s)) (sym at.1) cut)

-- answers of which one is behind the other are fewer behind it
pub fewer : (standing : List StandingAnswer) (last : Option StandingAnswer) (next : StandingAnswer) → IsNextAnswer standing last (Some next) →
    length (filter (is_behind (Some next)) standing) < length (filter (is_behind last) standing)
fewer standing last next is = omega (arith, ap length is)

-- ---- answers by references

pub map_lines : {X : Type 0} (f : X → StandingAnswer) (xs : List X) → flat_map (λ x. line_of (f x)) xs ≡ flat_map line_of (map f xs)
map_lines f [] = refl
map_lines f (x ∷ xs) = ap (λ l. line_of (f x) ++ l) (map_lines f xs)
