-- The answers to URLs pass one after another.
-- Used by what pushes them.
use Rattle.std.proofs.Common.{◌≡◌, ◌<◌, ℕ, suc, ◌+◌, Bool, true, false, ◌||◌, List, [], ◌∷◌, ◌++◌, length, map, take, drop, refl, sym, ap, subst, ◌∙◌, append_assoc, append-nil, if◌then◌else◌, slice_index_or, drop-cons}
use Rattle.std.specs.Prelude.{Option}
use Rattle.std.specs.List.{list_any}
use Rattle.std.specs.Io.KnownBytes.{Appends}
use Rattle.std.proofs.KnownBytes.{Appends-nil, Appends-trans}
use Rattle.std.proofs.lemmas.List.{map-append, map_more, take-append-drop}
use Rattle.std.proofs.lemmas.List.Folds.{list_any-append}
use Rattle.counted_io.specs.Device.{AppendsPrefix}
use Rattle.counted_io.specs.Output.{Passes}
use Rattle.counted_io.proofs.CallerLemmas.{Passes-cut-all, Passes-cut-piece, Passes-pieces}
use Rattle.robots_text.specs.Records.{Numbered, numbered_records}
use Rattle.robots_check.specs.Answering.{Passing, PassingFront}
use Rattle.robots_check.specs.Answers.{Answer, allowed_by, allowed_unruled, allowed_robots, denied_by, unread}
use Rattle.robots_check.specs.Told.{Told, AreTold, IsTold, answers_text, told_text}
use Rattle.robots_check.specs.declared.detail.Detail.{Detail}
use Rattle.robots_check.specs.Checks.{Answers, AnswersFront}
use Rattle.robots_check.specs.Outcomes.{is_denied, is_unread, outcome_of, outcome_of_one, outcome_of_some, worse}
use Rattle.robots_check.specs.declared.check_outcome.CheckOutcome.{CheckOutcome}
use Rattle.robots_check.specs.declared.check_outcome.CheckOutcome.TheVariants as outcomes

are_more : (detail : Detail) (lines : List Numbered) (word : List ℕ) (urls more : List (List ℕ)) (answers others : List Told) → AreTold detail lines word urls answers → AreTold detail lines word more others → AreTold detail lines word (urls ++ more) (answers ++ others)
are_more detail lines word [] more [] others are after = after
are_more detail lines word [] more (answer ∷ answers) others are after = absurd are
are_more detail lines word (url ∷ urls) more [] others are after = absurd are
are_more detail lines word (url ∷ urls) more (answer ∷ answers) others are after = (are.0, are_more detail lines word urls more answers others are.1 after)

text_more : (detail : Detail) (lines : List Numbered) (word : List ℕ) (urls more : List (List ℕ)) (answers others : List Told) → AreTold detail lines word urls answers → answers_text (urls ++ more) (answers ++ others) ≡ answers_text urls answers ++ answers_text more others
text_more detail lines word [] more [] others are = refl
text_more detail lines word [] more (answer ∷ answers) others are = absurd are
text_more detail lines word (url ∷ urls) more [] others are = absurd are
text_more detail lines word (url ∷ urls) more (answer ∷ answers) others are =
    ap (λ l. told_text url answer ++ l) (text_more detail lines word urls more answers others are.1)
    ∙ sym (append_assoc (told_text url answer) (answers_text urls answers) (answers_text more others))

both_come : (u d v e : Bool) → (if (u || v) then outcomes.Unread else if (d || e) then outcomes.Denied else outcomes.Allowed) ≡ worse (if u then outcomes.Unread else if d then outcomes.Denied else outcomes.Allowed) (if v then outcomes.Unread else if e then outcomes.Denied else outcomes.Allowed)
both_come true d true e = refl
both_come true d false true = refl
both_come true d false false = refl
both_come false true true e = refl
both_come false true false true = refl
both_come false true false false = refl
both_come false false true e = refl
both_come false false false true = refl
both_come false false false false = refl

some_more : (answers others : List Told) → outcome_of_some (answers ++ others) ≡ worse (outcome_of_some answers) (outcome_of_some others)
some_more answers others =
    ap (λ b. if b then outcomes.Unread else if list_any (λ told. is_denied told.answer) (answers ++ others) then outcomes.Denied else outcomes.Allowed) (list_any-append (λ (told : Told). is_unread told.answer) answers others)
    ∙ ap (λ b. if (list_any (λ told. is_unread told.answer) answers || list_any (λ told. is_unread told.answer) others) then outcomes.Unread else if b then outcomes.Denied else outcomes.Allowed) (list_any-append (λ (told : Told). is_denied told.answer) answers others)
    ∙ both_come (list_any (λ told. is_unread told.answer) answers) (list_any (λ told. is_denied told.answer) answers) (list_any (λ told. is_unread told.answer) others) (list_any (λ told. is_denied told.answer) others)

worse_none : (u d : Bool) → worse (if u then outcomes.Unread else if d then outcomes.Denied else outcomes.Allowed) outcomes.NoUrls ≡ (if u then outcomes.Unread else if d then outcomes.Denied else outcomes.Allowed)
worse_none true d = refl
worse_none false true = refl
worse_none false false = refl

outcome_more : (answers others : List Told) → outcome_of (answers ++ others) ≡ worse (outcome_of answers) (outcome_of others)
outcome_more [] others = refl
outcome_more (told ∷ answers) [] =
    ap (λ later. outcome_of (told ∷ later)) (append-nil answers)
    ∙ sym (worse_none (list_any (λ told. is_unread told.answer) (told ∷ answers)) (list_any (λ told. is_denied told.answer) (told ∷ answers)))
outcome_more (told ∷ answers) (other ∷ others) = some_more (told ∷ answers) (other ∷ others)

pub passing_more : (detail : Detail) (lines : List Numbered) (word : List ℕ) (urls more : List (List ℕ)) (a b c : Option (List ℕ)) (pending mid left : List ℕ) (one other outcome : CheckOutcome) →
    Passing detail lines word urls a b pending mid one → Passing detail lines word more b c mid left other → outcome ≡ worse one other → Passing detail lines word (urls ++ more) a c pending left outcome
passing_more detail lines word urls more a b c pending mid left one other outcome before next is = record {
  answers = before.answers ++ next.answers;
  are = are_more detail lines word urls more before.answers next.answers before.are next.are;
  passed = subst (λ text. Passes a c (pending ++ text) left) (sym (text_more detail lines word urls more before.answers next.answers before.are))
      (Passes-pieces a b c pending (answers_text urls before.answers) mid (answers_text more next.answers) left before.passed next.passed);
  come_to = is ∙ ap (λ o. worse o other) before.come_to ∙ ap (worse (outcome_of before.answers)) next.come_to ∙ sym (outcome_more before.answers next.answers);
}

pub passing_cut : (detail : Detail) (lines : List Numbered) (word : List ℕ) (urls more rest : List (List ℕ)) (a b c : Option (List ℕ)) (pending mid : List ℕ) (one : CheckOutcome) →
    Passing detail lines word urls a b pending mid one → PassingFront detail lines word more b c mid → PassingFront detail lines word (urls ++ (more ++ rest)) a c pending
passing_cut detail lines word urls more rest a b c pending mid one before next = record {
  first = urls ++ next.first;
  later = next.later ++ rest;
  split = ap (λ l. urls ++ (l ++ rest)) next.split ∙ ap (λ l. urls ++ l) (append_assoc next.first next.later rest) ∙ sym (append_assoc urls next.first (next.later ++ rest));
  answers = before.answers ++ next.answers;
  are = are_more detail lines word urls next.first before.answers next.answers before.are next.are;
  wrote = subst (λ text. AppendsPrefix a c (pending ++ text)) (sym (text_more detail lines word urls next.first before.answers next.answers before.are))
      (Passes-cut-piece a b c pending (answers_text urls before.answers) mid (answers_text next.first next.answers) before.passed next.wrote);
}

pub cut_none : (detail : Detail) (lines : List Numbered) (word : List ℕ) (urls : List (List ℕ)) (a : Option (List ℕ)) (pending : List ℕ) → PassingFront detail lines word urls a a pending
cut_none detail lines word urls a pending = record {
  first = [];
  later = urls;
  split = refl;
  answers = [];
  are = tt;
  wrote = (0, Appends-nil a);
}

pub passing_one : (detail : Detail) (lines : List Numbered) (word url : List ℕ) (told : Told) (a b : Option (List ℕ)) (pending left : List ℕ) (outcome : CheckOutcome) →
    IsTold detail lines word url told → Passes a b (pending ++ told_text url told) left → outcome ≡ outcome_of (told ∷ []) → Passing detail lines word (url ∷ []) a b pending left outcome
passing_one detail lines word url told a b pending left outcome is passed comes = record {
  answers = told ∷ [];
  are = (is, tt);
  passed = subst (λ t. Passes a b (pending ++ t) left) (sym (append-nil (told_text url told))) passed;
  come_to = comes;
}

pub cut_one : (detail : Detail) (lines : List Numbered) (word url : List ℕ) (told : Told) (a b : Option (List ℕ)) (pending : List ℕ) →
    IsTold detail lines word url told → AppendsPrefix a b (pending ++ told_text url told) → PassingFront detail lines word (url ∷ []) a b pending
cut_one detail lines word url told a b pending is cut = record {
  first = url ∷ [];
  later = [];
  split = refl;
  answers = told ∷ [];
  are = (is, tt);
  wrote = subst (λ t. AppendsPrefix a b (pending ++ t)) (sym (append-nil (told_text url told))) cut;
}

pub outcome_one : (before : List ℕ) (answer : Answer) → outcome_of_one answer ≡ outcome_of (record { before = before; answer = answer } ∷ [])
outcome_one before (allowed_by ruled) = refl
outcome_one before allowed_unruled = refl
outcome_one before allowed_robots = refl
outcome_one before (denied_by ruled) = refl
outcome_one before (unread fault) = refl

pub front_none : (detail : Detail) (lines : List Numbered) (word : List ℕ) (urls : List (List ℕ)) (a : Option (List ℕ)) → AnswersFront detail lines word urls a a
front_none detail lines word urls a = record {
  first = [];
  later = urls;
  split = refl;
  answers = [];
  are = tt;
  wrote = (0, Appends-nil a);
}

pub front_all : (detail : Detail) (lines : List Numbered) (word : List ℕ) (urls : List (List ℕ)) (a b c : Option (List ℕ)) (pending mid : List ℕ) (outcome : CheckOutcome) → pending ≡ [] →
    Passing detail lines word urls a b pending mid outcome → AppendsPrefix b c mid → AnswersFront detail lines word urls a c
front_all detail lines word urls a b c pending mid outcome none passing cut = record {
  first = urls;
  later = [];
  split = sym (append-nil urls);
  answers = passing.answers;
  are = passing.are;
  wrote = subst (λ l. AppendsPrefix a c (l ++ answers_text urls passing.answers)) none (Passes-cut-all a b c (pending ++ answers_text urls passing.answers) mid passing.passed cut);
}

pub all_written : (detail : Detail) (lines : List Numbered) (word : List ℕ) (urls : List (List ℕ)) (a b c : Option (List ℕ)) (pending mid : List ℕ) (outcome : CheckOutcome) → pending ≡ [] →
    Passing detail lines word urls a b pending mid outcome → Appends b c mid → Answers detail lines word urls a c outcome
all_written detail lines word urls a b c pending mid outcome none passing wrote = record {
  answers = passing.answers;
  are = passing.are;
  wrote = subst (λ l. Appends a c (l ++ answers_text urls passing.answers)) none
      (subst (Appends a c) (sym passing.passed.split) (Appends-trans a b c passing.passed.front mid passing.passed.wrote wrote));
  come_to = passing.come_to;
}

pub passing_next : (detail : Detail) (lines : List Numbered) (word : List ℕ) {X : Type 0} (f : X → List ℕ) (xs : List X) (i : ℕ) (d : X) (a b c : Option (List ℕ)) (pending mid left : List ℕ) (one other outcome : CheckOutcome) → i < length xs →
    Passing detail lines word (map f (take i xs)) a b pending mid one → Passing detail lines word (f (slice_index_or xs i d) ∷ []) b c mid left other → outcome ≡ worse one other →
    Passing detail lines word (map f (take (i + 1) xs)) a c pending left outcome
passing_next detail lines word f xs i d a b c pending mid left one other outcome within before next is =
    subst (λ urls. Passing detail lines word urls a c pending left outcome) (sym (map_more f xs i d within))
    (passing_more detail lines word (map f (take i xs)) (f (slice_index_or xs i d) ∷ []) a b c pending mid left one other outcome before next is)

pub passing_stop : (detail : Detail) (lines : List Numbered) (word : List ℕ) {X : Type 0} (f : X → List ℕ) (xs : List X) (i : ℕ) (d : X) (a b c : Option (List ℕ)) (pending mid : List ℕ) (one : CheckOutcome) → i < length xs →
    Passing detail lines word (map f (take i xs)) a b pending mid one → PassingFront detail lines word (f (slice_index_or xs i d) ∷ []) b c mid → PassingFront detail lines word (map f xs) a c pending
passing_stop detail lines word f xs i d a b c pending mid one within before next =
    subst (λ urls. PassingFront detail lines word urls a c pending)
    (sym (ap (map f) (sym (take-append-drop i xs)) ∙ map-append f (take i xs) (drop i xs) ∙ ap (λ l. map f (take i xs) ++ map f l) (drop-cons xs i d within)))
    (passing_cut detail lines word (map f (take i xs)) (f (slice_index_or xs i d) ∷ []) (map f (drop (suc i) xs)) a b c pending mid one before next)

pub told_front : (detail : Detail) (text policy word : List ℕ) (urls : List (List ℕ)) (a b c : Option (List ℕ)) (pending mid : List ℕ) (outcome : CheckOutcome) → policy ≡ text → pending ≡ [] →
    Passing detail (numbered_records policy) word urls a b pending mid outcome → AppendsPrefix b c mid → AnswersFront detail (numbered_records text) word urls a c
told_front detail text policy word urls a b c pending mid outcome same none passing cut =
    subst (λ t. AnswersFront detail (numbered_records t) word urls a c) same (front_all detail (numbered_records policy) word urls a b c pending mid outcome none passing cut)
