-- Answers, each with the text before it.
-- Used by what pushes them.
use Rattle.std.proofs.Common.{◌≡◌, ℕ, List, [], ◌∷◌, ◌++◌, flat_map, map, refl, sym, ap, subst, ◌∙◌}
use Rattle.std.specs.Prelude.{Option, Ok}
use Rattle.counted_io.specs.Device.{AppendsPrefix}
use Rattle.counted_io.specs.Output.{Passes}
use Rattle.counted_io.proofs.CallerLemmas.{Passes-cut-piece, Passes-pieces, prefix_piece}
use Rattle.path_normal.specs.Normal.{normal_path}
use Rattle.path_normal.specs.PageText.{target_of}
use Rattle.path_normal.specs.declared.fault.UrlFault.{UrlFault}
use Rattle.robots_text.specs.Groups.{AreRulesFor, Ruled}
use Rattle.robots_text.specs.Records.{Numbered}
use Rattle.robots_verdict.specs.Strongest.{IsBest}
use Rattle.robots_verdict.specs.Verdict.{IsVerdict}
use Rattle.robots_verdict.specs.declared.decision.Verdict.{Verdict}
use Rattle.robots_verdict.specs.declared.weight.Weight.{Weight}
use Rattle.robots_check.specs.AgentText.{AreHeadsAt, Shown, agents_for, agents_text}
use Rattle.robots_check.specs.AnswerText.{answer_text}
use Rattle.robots_check.specs.Answering.{Passing, PassingFront}
use Rattle.robots_check.specs.Answers.{Answer, allowed_by, allowed_unruled, allowed_robots, denied_by, unread, IsAnswerOn}
use Rattle.robots_check.specs.Explained.{Explains, IsSecondFor, because_text, octets_of, row_text, winner_octets}
use Rattle.robots_check.specs.Outcomes.{outcome_of_one}
use Rattle.robots_check.specs.Rows.{AreRows, IsBestFor, row_seen}
use Rattle.robots_check.specs.Targets.{HasFault, HasPath, page_named}
use Rattle.robots_check.specs.Told.{IsBefore, IsTold, Told}
use Rattle.robots_check.specs.declared.detail.Detail.{Detail}
use Rattle.robots_check.specs.declared.detail.Detail.TheVariants.{Plain, Explained}
use Rattle.robots_check.specs.declared.check_outcome.CheckOutcome.{CheckOutcome}
use Rattle.robots_check.specs.declared.rows.ComparedRule.{ComparedRule}
use Rattle.robots_check.proofs.Judging.{judged, on_path, says_because}
use Rattle.robots_check.proofs.Passing.{cut_one, outcome_one, passing_one}

told_on : (detail : Detail) (lines : List Numbered) (word url path : List ℕ) (answer : Answer) (before : List ℕ) → HasPath url path → IsAnswerOn lines word path answer → IsBefore detail lines word url answer before → IsTold detail lines word url (record { before = before; answer = answer })
told_on detail lines word url path answer before has says is = record {
  answer = on_path lines word url path answer has says;
  before = is;
}

pub told_plain : (detail : Detail) (lines : List Numbered) (word url path : List ℕ) (answer : Answer) → detail ≡ Plain → HasPath url path → IsAnswerOn lines word path answer → IsTold detail lines word url (record { before = []; answer = answer })
told_plain detail lines word url path answer plain has says = told_on detail lines word url path answer [] has says (subst (λ d. IsBefore d lines word url answer []) (sym plain) refl)

pub told_unread : (detail : Detail) (lines : List Numbered) (word url : List ℕ) (fault : UrlFault) → HasFault url fault → IsTold detail lines word url (record { before = []; answer = unread fault })
told_unread Plain lines word url fault has = record { answer = has; before = refl }
told_unread Explained lines word url fault has = record { answer = has; before = refl }

-- ---- an answer after the text before it

pub passes_page : (detail : Detail) (lines : List Numbered) (word url text : List ℕ) (told : Told) (a b c : Option (List ℕ)) (pending mid left : List ℕ) (outcome : CheckOutcome) → IsTold detail lines word url told →
    Passes a b (pending ++ told.before) mid → text ≡ answer_text url told.answer → Passes b c (mid ++ text) left → outcome ≡ outcome_of_one told.answer → Passing detail lines word (url ∷ []) a c pending left outcome
passes_page detail lines word url text told a b c pending mid left outcome is first text_is passed comes =
    passing_one detail lines word url told a c pending left outcome is
    (Passes-pieces a b c pending told.before mid (answer_text url told.answer) left first (subst (λ t. Passes b c (mid ++ t) left) text_is passed))
    (comes ∙ outcome_one told.before told.answer)

pub cuts_page : (detail : Detail) (lines : List Numbered) (word url text : List ℕ) (told : Told) (a b c : Option (List ℕ)) (pending mid : List ℕ) → IsTold detail lines word url told →
    Passes a b (pending ++ told.before) mid → text ≡ answer_text url told.answer → AppendsPrefix b c (mid ++ text) → PassingFront detail lines word (url ∷ []) a c pending
cuts_page detail lines word url text told a b c pending mid is first text_is cut =
    cut_one detail lines word url told a c pending is
    (Passes-cut-piece a b c pending told.before mid (answer_text url told.answer) first (subst (λ t. AppendsPrefix b c (mid ++ t)) text_is cut))

pub cuts_before : (detail : Detail) (lines : List Numbered) (word url : List ℕ) (told : Told) (a b : Option (List ℕ)) (pending : List ℕ) → IsTold detail lines word url told → AppendsPrefix a b (pending ++ told.before) → PassingFront detail lines word (url ∷ []) a b pending
cuts_before detail lines word url told a b pending is cut = cut_one detail lines word url told a b pending is (prefix_piece a b pending told.before (answer_text url told.answer) cut)

-- ---- an answer with no text before it

pub passes_bare : (detail : Detail) (lines : List Numbered) (word url text : List ℕ) (answer : Answer) (a b : Option (List ℕ)) (pending left : List ℕ) (outcome : CheckOutcome) → IsTold detail lines word url (record { before = []; answer = answer }) →
    text ≡ answer_text url answer → Passes a b (pending ++ text) left → outcome ≡ outcome_of_one answer → Passing detail lines word (url ∷ []) a b pending left outcome
passes_bare detail lines word url text answer a b pending left outcome is text_is passed comes =
    passing_one detail lines word url (record { before = []; answer = answer }) a b pending left outcome is
    (subst (λ t. Passes a b (pending ++ t) left) text_is passed) (comes ∙ outcome_one [] answer)

pub cuts_bare : (detail : Detail) (lines : List Numbered) (word url text : List ℕ) (answer : Answer) (a b : Option (List ℕ)) (pending : List ℕ) → IsTold detail lines word url (record { before = []; answer = answer }) →
    text ≡ answer_text url answer → AppendsPrefix a b (pending ++ text) → PassingFront detail lines word (url ∷ []) a b pending
cuts_bare detail lines word url text answer a b pending is text_is cut =
    cut_one detail lines word url (record { before = []; answer = answer }) a b pending is
    (subst (λ t. AppendsPrefix a b (pending ++ t)) text_is cut)

-- ---- explanations

rows_text : (rows : List ComparedRule) → flat_map (λ row. row_text (row_seen row)) rows ≡ flat_map row_text (map row_seen rows)
rows_text [] = refl
rows_text (row ∷ rows) = ap (λ l. row_text (row_seen row) ++ l) (rows_text rows)

explains : (lines : List Numbered) (word path : List ℕ) (answer : Answer) (agents : List Shown) (rules : List Ruled) (rows : List ComparedRule) (second : Option Weight) (reason : List ℕ) →
    agents ≡ agents_for lines word → AreRulesFor lines word rules → AreRows path rules (map row_seen rows) → IsSecondFor (map row_seen rows) answer second → reason ≡ because_text (winner_octets answer) answer second →
    Explains lines word path answer (agents_text agents ++ (flat_map (λ row. row_text (row_seen row)) rows ++ reason))
explains lines word path answer agents rules rows second reason agents_are are_rules are_rows is_second reason_is = record {
  rules = rules;
  are_rules = are_rules;
  rows = map row_seen rows;
  are_rows = are_rows;
  second = second;
  is_second = is_second;
  text_is =
      ap (λ l. agents_text l ++ (flat_map (λ row. row_text (row_seen row)) rows ++ reason)) agents_are
      ∙ ap (λ l. agents_text (agents_for lines word) ++ (l ++ reason)) (rows_text rows)
      ∙ ap (λ l. agents_text (agents_for lines word) ++ (flat_map row_text (map row_seen rows) ++ l)) reason_is;
}

explained_before : (lines : List Numbered) (word url path : List ℕ) (answer : Answer) (before : List ℕ) → HasPath url path → IsAnswerOn lines word path answer → Explains lines word path answer before → IsBefore Explained lines word url answer before
explained_before lines word url path (allowed_by ruled) before has says is = (path, has, is)
explained_before lines word url path allowed_unruled before has says is = (path, has, is)
explained_before lines word url path allowed_robots before has says is = (path, has, is)
explained_before lines word url path (denied_by ruled) before has says is = (path, has, is)
explained_before lines word url path (unread fault) before has says is = absurd says

pub told_explained : (detail : Detail) (lines : List Numbered) (word url path : List ℕ) (answer : Answer) (agents : List Shown) (rules : List Ruled) (rows given : List ComparedRule) (best : Option Weight) (said : Verdict) (tried : List ℕ) (second : Option Weight) (octets : ℕ) (reason : List ℕ) →
    detail ≡ Explained → HasPath url path → AreHeadsAt detail lines word agents → AreRulesFor lines word rules → AreRows path rules (map row_seen rows) → given ≡ rows → tried ≡ path → IsBestFor path rules best →
    ((lines' : List Numbered) (word' : List ℕ) → IsBest lines' word' tried best → IsVerdict lines' word' tried said) → ((path' : List ℕ) → IsVerdict lines word path' said → IsAnswerOn lines word path' answer) →
    IsSecondFor (map row_seen given) answer second → octets ≡ octets_of best → reason ≡ because_text octets answer second →
    IsTold detail lines word url (record { before = agents_text agents ++ (flat_map (λ row. row_text (row_seen row)) given ++ reason); answer = answer })
told_explained detail lines word url path answer agents rules rows given best said tried second octets reason explained has heads are are_rows given_is same is_best on finds is_second octets_are reason_is =
    let given_rows = subst (λ l. AreRows path rules (map row_seen l)) (sym given_is) are_rows in
    let says = finds path (judged lines word tried path best said same (is_best lines word are) on) in
    let before = agents_text agents ++ (flat_map (λ row. row_text (row_seen row)) given ++ reason) in
    told_on detail lines word url path answer before has says
    (subst (λ d. IsBefore d lines word url answer before) (sym explained)
    (explained_before lines word url path answer before has says
    (explains lines word path answer agents rules given second reason (subst (λ d. AreHeadsAt d lines word agents) explained heads) are given_rows is_second
    (reason_is ∙ ap (λ n. because_text n answer second) octets_are ∙ says_because lines word path best second answer (is_best lines word are) says))))

pub path_named : (url page path : List ℕ) → page_named url ≡ Ok page → path ≡ normal_path (target_of page) → HasPath url path
path_named url page path named is = (page, named, is)
