-- A chain's lines name only `http` exactly if its entries and bases do, so its text is bad at no line.
-- Used by `laws`.
use Rattle.std.proofs.Common.{◌≡◌, ℕ, ◌==◌, All, Bool, true, false, cond, List, [], ◌∷◌, ◌++◌, decimal, flat_map, map, inl, inr, refl, sym, ap, subst, ◌∙◌, arith, codes}
use Rattle.std.specs.Prelude.{◌↔◌}
use Rattle.std.specs.List.{list_all}
use Rattle.std.proofs.lemmas.Bool.{and_parts}
use Rattle.std.proofs.lemmas.Bool.Decides.{nat_tests}
use Rattle.std.proofs.lemmas.List.Elements.{All-append, All-cons, All-head, All-nil, All-tail}
use Rattle.path_normal.specs.declared.schemes.Schemes.TheVariants.{Http}
use Rattle.path_normal.specs.PageText.{is_https}
use Rattle.permit_book.specs.declared.granted_permit.GrantedPermit.{GrantedPermit}
use Rattle.authority_cache.specs.declared.standing_answer.StandingAnswer.{StandingAnswer}
use Rattle.gate_history.specs.declared.base.SlotGrant.{SlotGrant}
use Rattle.gate_history.specs.Base.{Base, empty_base, has_its_life}
use Rattle.gate_history.specs.Grants.{IsSlotGrant}
use Rattle.gate_history.specs.History.{History}
use Rattle.history_text.specs.declared.version.Version.{Version}
use Rattle.history_text.specs.declared.version.Version.TheVariants.{One, Two}
use Rattle.history_text.specs.BaseFields.{HasNumbers, IsAnswerRow, IsGrantRow, IsPermitRow, IsTurnRow}
use Rattle.crawl_audit.specs.ChainAudit.{IsAmong, names_https}
use Rattle.history_text.specs.Texts.{head_lines, IsText, IsTextBase, Text, text_history, text_lines, version_lines}
use Rattle.crawl_audit.specs.Chains.{AllGoOn}
use Rattle.history_text.specs.Entries.{IsEntry}
use Rattle.crawl_audit.specs.HttpChains.{is_https_entry, IsHttpAnswer, IsHttpBase, IsHttpPermit, IsHttpText, IsHttpTurn}
use Rattle.crawl_audit.specs.Laws.{HttpChainIsNeverBad, HttpChainsNameHttp}
use Rattle.crawl_audit.specs.OpenRows.{Answered, InFlight, Greatest, Unspent, Running}
use Rattle.history_text.specs.Spell.{entry_line}
use Rattle.history_text.specs.SpellBase.{answer_line, base_lines, grant_line, numbers_line, open_lines, running_line, turn_line, unspent_line}
use Rattle.crawl_audit.proofs.ChainLines.{all_after, right_chain}
use Rattle.crawl_audit.proofs.HttpLines.{entry_names, names_any, passed, plain_decimal, row_names}
use Rattle.crawl_audit.proofs.RowReading.{number_words}

-- ---- lists of lines

-- all of them name `http` alone
abbrev AreHttp : List (List ℕ) → Type 0
AreHttp lines = All (IsAmong Http) lines

all_before : (front rest : List (List ℕ)) → AreHttp (front ++ rest) → AreHttp front
all_before [] rest all = All-nil (IsAmong Http)
all_before (line ∷ front) rest all =
    All-cons (IsAmong Http) line front (All-head (IsAmong Http) line (front ++ rest) all) (all_before front rest (All-tail (IsAmong Http) line (front ++ rest) all))

joined : {A B : Type 0} (front rest : List (List ℕ)) → A ↔ AreHttp front → B ↔ AreHttp rest → A × B ↔ AreHttp (front ++ rest)
joined front rest f g = (
  λ both. All-append (IsAmong Http) front rest (f.0 both.0) (g.0 both.1),
  λ all. (f.1 (all_before front rest all), g.1 (all_after (IsAmong Http) front rest all)),
)

nothing : (lines : List (List ℕ)) → AreHttp lines → Unit {0} ↔ AreHttp lines
nothing lines all = (λ u. all, λ lines. tt)

-- the test fails
abbrev Fails : {X : Type 0} → (X → Bool) → X → Type 0
Fails test x = test x ≡ false

mapped : {X : Type 0} (P : X → Type 0) (line : X → List ℕ) (test : X → Bool) → ((x : X) → P x → names_https (line x) ≡ test x) → (xs : List X) → All P xs → All (Fails test) xs ↔ AreHttp (map line xs)
mapped P line test same [] all = (λ fails. All-nil (IsAmong Http), λ lines. All-nil (Fails test))
mapped P line test same (x ∷ xs) all =
    let rest = mapped P line test same xs (All-tail P x xs all) in
    let here = same x (All-head P x xs all) in (
      λ fails. All-cons (IsAmong Http) (line x) (map line xs) (here ∙ All-head (Fails test) x xs fails) (rest.0 (All-tail (Fails test) x xs fails)),
      λ lines. All-cons (Fails test) x xs (sym here ∙ All-head (IsAmong Http) (line x) (map line xs) lines) (rest.1 (All-tail (IsAmong Http) (line x) (map line xs) lines)),
    )

-- ---- the lines of a base

-- an answer with a possible life, and a possible slot grant
record IsWholeAnswer (s : StandingAnswer) : Type 0 where
  row : IsAnswerRow s
  life : has_its_life s ≡ true

record IsWholeGrant (g : SlotGrant) : Type 0 where
  row : IsGrantRow g
  slot : IsSlotGrant g

whole_answers : (ss : List StandingAnswer) → All IsAnswerRow ss → list_all has_its_life ss ≡ true → All IsWholeAnswer ss
whole_answers [] rows lives = All-nil IsWholeAnswer
whole_answers (s ∷ ss) rows lives =
    let parts = and_parts (has_its_life s) (list_all has_its_life ss) lives in
    All-cons IsWholeAnswer s ss (record { row = All-head IsAnswerRow s ss rows; life = parts.0 }) (whole_answers ss (All-tail IsAnswerRow s ss rows) parts.1)

plain_grants : (gs : List SlotGrant) → All IsGrantRow gs → All IsSlotGrant gs → AreHttp (map grant_line gs)
plain_grants [] rows slots = All-nil (IsAmong Http)
plain_grants (g ∷ gs) rows slots =
    All-cons (IsAmong Http) (grant_line g) (map grant_line gs) (row_names (Greatest g) (All-head IsGrantRow g gs rows, All-head IsSlotGrant g gs slots))
    (plain_grants gs (All-tail IsGrantRow g gs rows) (All-tail IsSlotGrant g gs slots))

plain_numbers : (b : Base) → HasNumbers b → IsAmong Http (numbers_line b)
plain_numbers b is =
    ap names_any (number_words b is)
    ∙ passed (decimal b.entries) (decimal b.started ∷ decimal b.begins ∷ decimal b.moment ∷ []) (plain_decimal b.entries is.entries)
    ∙ passed (decimal b.started) (decimal b.begins ∷ decimal b.moment ∷ []) (plain_decimal b.started is.started)
    ∙ passed (decimal b.begins) (decimal b.moment ∷ []) (plain_decimal b.begins is.begins)
    ∙ passed (decimal b.moment) [] (plain_decimal b.moment is.moment)

base_lines_name : (b : Base) → IsTextBase b → IsHttpBase b ↔ AreHttp (base_lines b)
base_lines_name b is = (
  λ http. lines.0 (tt, (((http.standing, (http.in_flight, (tt, (http.unspent, http.running)))), tt))),
  λ all. let parts = lines.1 all in record { standing = parts.1.0.0; in_flight = parts.1.0.1.0; unspent = parts.1.0.1.1.1.0; running = parts.1.0.1.1.1.1 },
)
  where
    head : List (List ℕ)
    head = codes "V 3" ∷ numbers_line b ∷ []

    permits : (ps : List GrantedPermit) → All IsPermitRow ps → (All IsHttpPermit ps ↔ AreHttp (map unspent_line ps)) × (All IsHttpPermit ps ↔ AreHttp (map running_line ps))
    permits ps rows = (mapped IsPermitRow unspent_line (λ p. is_https p.url) (λ p row. row_names (Unspent p) row) ps rows, mapped IsPermitRow running_line (λ p. is_https p.url) (λ p row. row_names (Running p) row) ps rows)

    lines : Unit {0} × ((All IsHttpAnswer b.standing × (All IsHttpTurn b.in_flight × (Unit {0} × (All IsHttpPermit b.unspent × All IsHttpPermit b.running)))) × Unit {0}) ↔ AreHttp (base_lines b)
    lines =
        let base = is.base in
        let turns = base.turns in
        let f = is.fields in
        let running = map running_line b.running in
        let unspent = map unspent_line b.unspent ++ running in
        let grants = map grant_line b.grants ++ unspent in
        let in_flight = map turn_line b.in_flight ++ grants in
        joined head (open_lines b ++ codes "E" ∷ [])
        (nothing head (All-cons (IsAmong Http) (codes "V 3") (numbers_line b ∷ []) refl (All-cons (IsAmong Http) (numbers_line b) [] (plain_numbers b f.numbers) (All-nil (IsAmong Http)))))
        (joined (open_lines b) (codes "E" ∷ [])
        (joined (map answer_line b.standing) in_flight
        (mapped IsWholeAnswer answer_line (λ s. is_https s.authority) (λ s whole. row_names (Answered s) (whole.row, whole.life)) b.standing (whole_answers b.standing f.standing turns.lives))
        (joined (map turn_line b.in_flight) grants (mapped IsTurnRow turn_line (λ t. is_https t.authority) (λ t row. row_names (InFlight t) row) b.in_flight f.in_flight)
        (joined (map grant_line b.grants) unspent (nothing (map grant_line b.grants) (plain_grants b.grants f.grants is.slots))
        (joined (map unspent_line b.unspent) running (permits b.unspent f.unspent).0 (permits b.running f.running).1))))
        (nothing (codes "E" ∷ []) (All-cons (IsAmong Http) (codes "E") [] refl (All-nil (IsAmong Http)))))

-- ---- the lines of texts

version_names : (v : Version) → AreHttp (version_lines v)
version_names One = All-nil (IsAmong Http)
version_names Two = All-cons (IsAmong Http) (codes "V 2") [] refl (All-nil (IsAmong Http))

empty_names : IsHttpBase empty_base
empty_names = record { standing = All-nil IsHttpAnswer; in_flight = All-nil IsHttpTurn; unspent = All-nil IsHttpPermit; running = All-nil IsHttpPermit }

head_names : (t : Text) → IsText t → IsHttpBase t.base ↔ AreHttp (head_lines t)
head_names t is = elim is.follows [
  | inl none ↦ subst (λ (b : Base). IsHttpBase b ↔ AreHttp (cond (b.entries == 0) (version_lines t.version) (base_lines b))) (sym none) (λ http. version_names t.version, λ all. empty_names)
  | inr some ↦ later some.base
]
  where
    later : IsTextBase t.base → IsHttpBase t.base ↔ AreHttp (cond (t.base.entries == 0) (version_lines t.version) (base_lines t.base))
    later base =
        let positive = base.some in
        let test : (t.base.entries == 0) ≡ false = grind (arith, nat_tests) in
        subst (λ (b : Bool). IsHttpBase t.base ↔ AreHttp (cond b (version_lines t.version) (base_lines t.base))) (sym test) (base_lines_name t.base base)

text_names : (t : Text) → IsText t → IsHttpText t ↔ AreHttp (text_lines t)
text_names t is =
    let lines = joined (head_lines t) (map (entry_line t.version) t.entries) (head_names t is) (mapped (IsEntry t.version) (entry_line t.version) is_https_entry (entry_names t.version) t.entries is.spelled) in
    (λ http. lines.0 (http.base, http.entries), λ all. let parts = lines.1 all in record { base = parts.0; entries = parts.1 })

later_names : (h : History) (later : List Text) → AllGoOn h later → All IsHttpText later ↔ AreHttp (flat_map text_lines later)
later_names h [] goes = (λ http. All-nil (IsAmong Http), λ all. All-nil IsHttpText)
later_names h (t ∷ later) goes =
    let go = goes.0 in
    let lines = joined (text_lines t) (flat_map text_lines later) (text_names t go.text) (later_names (text_history t) later goes.1) in (
      λ http. lines.0 (All-head IsHttpText t later http, All-tail IsHttpText t later http),
      λ all. let parts = lines.1 all in All-cons IsHttpText t later parts.0 parts.1,
    )

pub http_chain_names : HttpChainsNameHttp
http_chain_names first later chain =
    let lines = joined (text_lines first) (flat_map text_lines later) (text_names first chain.begins) (later_names (text_history first) later chain.goes_on) in
    (λ http. lines.0 (http.first_text, http.later_texts), λ all. let parts = lines.1 all in record { first_text = parts.0; later_texts = parts.1 })

pub http_chain_right : HttpChainIsNeverBad
http_chain_right first later line chain few http = right_chain Http first later line chain few ((http_chain_names first later chain).0 http)
