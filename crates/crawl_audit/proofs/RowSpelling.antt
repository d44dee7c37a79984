-- A line of a base is that of at most one thing, and its lines are those of one base.
-- Used by the laws of chains.
use Rattle.std.proofs.Common.{◌≡◌, ◌≢◌, ℕ, ◌<◌, ◌==◌, All, true, false, List, [], ◌∷◌, ◌++◌, get_or, map, decimal, sym, ap, ◌∙◌, refl, arith, append_assoc, codes}
use Rattle.std.specs.Prelude.{unwrap_or}
use Rattle.std.specs.List.{list_all}
use Rattle.std.specs.Str.{IsUtf8}
use Rattle.std.proofs.lemmas.Bool.{and_parts}
use Rattle.std.proofs.lemmas.Bool.Decides.{nat_tests}
use Rattle.std.proofs.lemmas.List.Elements.{All-cons, All-head, All-nil, All-tail}
use Rattle.std.proofs.lemmas.Str.{IsUtf8-from_ascii}
use Rattle.std.proofs.lemmas.Str.Ascii.{IsAscii-from_all}
use Rattle.permit_book.specs.declared.granted_permit.GrantedPermit.{GrantedPermit}
use Rattle.authority_cache.specs.declared.standing_answer.StandingAnswer.{StandingAnswer}
use Rattle.authority_cache.specs.declared.turn.Turn.{Turn}
use Rattle.authority_cache.specs.Lives.{life_of}
use Rattle.gate_history.specs.declared.base.SlotGrant.{SlotGrant}
use Rattle.gate_history.specs.Base.{Base, has_its_life}
use Rattle.line_text.specs.Number.{number_of}
use Rattle.line_text.specs.Words.{words_of}
use Rattle.history_text.specs.declared.version.Version.TheVariants.{Two}
use Rattle.history_text.specs.BaseFields.{HasBaseFields, HasNumbers, IsAnswerRow, IsGrantRow, IsPermitRow, IsTurnRow}
use Rattle.history_text.specs.Entries.{IsNumber}
use Rattle.crawl_audit.specs.Reading.{head_word, tail_words}
use Rattle.history_text.specs.Spell.{answer_fields, spaced_fields}
use Rattle.history_text.specs.SpellBase.{answer_line, base_lines, grant_line, numbers_line, open_lines, permit_line, running_line, turn_line, unspent_line}
use Rattle.crawl_audit.proofs.NamedEntries.{answer_named, Lasting}
use Rattle.crawl_audit.proofs.Back.{number_back}
use Rattle.crawl_audit.proofs.Shown.{IsShown, IsShownOctet, shown_authority, shown_decimal, shown_page, shown_token, weaker, words_of_fields}
use Rattle.crawl_audit.proofs.Spelling.{answer_back, HasNoFeed, IsLineOctet, line_fields, shown_answer, three, two}

-- ---- lines by their fields

pub shown_letter : (letter : ℕ) → IsShownOctet letter → IsShown (letter ∷ [])
shown_letter letter is = All-cons IsShownOctet letter [] is (All-nil IsShownOctet)

same_fields : (letter : ℕ) (xs ys : List (List ℕ)) → IsShownOctet letter → All IsShown xs → All IsShown ys → letter ∷ spaced_fields xs ≡ letter ∷ spaced_fields ys → xs ≡ ys
same_fields letter xs ys is shown shown' same =
    ap tail_words (sym (words_of_fields (letter ∷ []) xs (shown_letter letter is) shown) ∙ ap words_of same ∙ words_of_fields (letter ∷ []) ys (shown_letter letter is) shown')

row_octets : (letter : ℕ) (fields : List (List ℕ)) → IsShownOctet letter → All IsShown fields → All IsLineOctet (letter ∷ spaced_fields fields)
row_octets letter fields is shown = All-cons IsLineOctet letter (spaced_fields fields) (omega (arith, is), is.1) (line_fields fields shown)

pub row_feedless : (letter : ℕ) (fields : List (List ℕ)) → IsShownOctet letter → All IsShown fields → HasNoFeed (letter ∷ spaced_fields fields)
row_feedless letter fields is shown =
    weaker IsLineOctet (λ octet. (octet == 10) ≡ false) (λ octet h. grind (arith, nat_tests)) (letter ∷ spaced_fields fields) (row_octets letter fields is shown)

pub row_utf8 : (letter : ℕ) (fields : List (List ℕ)) → IsShownOctet letter → All IsShown fields → IsUtf8 (letter ∷ spaced_fields fields)
row_utf8 letter fields is shown =
    let line = letter ∷ spaced_fields fields in
    IsUtf8-from_ascii line (IsAscii-from_all line (weaker IsLineOctet (λ octet. octet < 128) (λ octet h. h.1) line (row_octets letter fields is shown)))

same_decimal : (m n : ℕ) → IsNumber m → IsNumber n → decimal m ≡ decimal n → m ≡ n
same_decimal m n small small' same = ap (λ o. unwrap_or o m) (sym (number_back m small) ∙ ap number_of same ∙ number_back n small')

-- ---- the fields of each kind

-- an answer with a possible life
pub record IsLivedRow (s : StandingAnswer) : Type 0 where
  pub row : IsAnswerRow s
  pub life : life_of s.says s.life ≡ s.life

pub shown_standing : (s : StandingAnswer) → IsLivedRow s → All IsShown (s.authority ∷ decimal s.turn ∷ decimal s.begun ∷ answer_fields Two s.says s.life)
shown_standing s is =
    let row = is.row in
    All-cons IsShown s.authority (decimal s.turn ∷ decimal s.begun ∷ answer_fields Two s.says s.life) (shown_authority s.authority row.authority)
    (All-cons IsShown (decimal s.turn) (decimal s.begun ∷ answer_fields Two s.says s.life) (shown_decimal s.turn row.turn)
    (All-cons IsShown (decimal s.begun) (answer_fields Two s.says s.life) (shown_decimal s.begun row.begun) (shown_answer Two s.says s.life row.says is.life)))

pub shown_flight : (t : Turn) → IsTurnRow t → All IsShown (t.authority ∷ decimal t.turn ∷ decimal t.begun ∷ [])
shown_flight t is = three t.authority (decimal t.turn) (decimal t.begun) (shown_authority t.authority is.authority) (shown_decimal t.turn is.turn) (shown_decimal t.begun is.begun)

pub shown_grant : (g : SlotGrant) → IsGrantRow g → All IsShown (decimal g.slot ∷ decimal g.generation ∷ [])
shown_grant g is = two (decimal g.slot) (decimal g.generation) (shown_decimal g.slot is.slot) (shown_decimal g.generation is.generation)

pub shown_permit : (p : GrantedPermit) → IsPermitRow p → All IsShown (decimal p.number ∷ p.token ∷ p.url ∷ [])
shown_permit p is = three (decimal p.number) p.token p.url (shown_decimal p.number is.number) (shown_token p.token is.fetch.token) (shown_page p.url is.fetch.url)

pub shown_numbers : (b : Base) → HasNumbers b → All IsShown (decimal b.entries ∷ decimal b.started ∷ decimal b.begins ∷ decimal b.moment ∷ [])
shown_numbers b is =
    All-cons IsShown (decimal b.entries) (decimal b.started ∷ decimal b.begins ∷ decimal b.moment ∷ []) (shown_decimal b.entries is.entries)
    (three (decimal b.started) (decimal b.begins) (decimal b.moment) (shown_decimal b.started is.started) (shown_decimal b.begins is.begins) (shown_decimal b.moment is.moment))

-- ---- each line is that of one row

one_answer : (s t : StandingAnswer) → IsLivedRow s → IsLivedRow t → answer_line s ≡ answer_line t → s ≡ t
one_answer s t is is' same =
    let row = is.row in
    let row' = is'.row in
    let e = same_fields 72 (s.authority ∷ decimal s.turn ∷ decimal s.begun ∷ answer_fields Two s.says s.life) (t.authority ∷ decimal t.turn ∷ decimal t.begun ∷ answer_fields Two t.says t.life)
    (omega arith, omega arith) (shown_standing s is) (shown_standing t is') same in
    let authority : s.authority ≡ t.authority = ap head_word e in
    let turn = same_decimal s.turn t.turn row.turn row'.turn (ap (λ l. head_word (tail_words l)) e) in
    let begun = same_decimal s.begun t.begun row.begun row'.begun (ap (λ l. head_word (tail_words (tail_words l))) e) in
    let d : Lasting = record { says = s.says; life = s.life } in
    let lasting : d ≡ record { says = t.says; life = t.life } =
    ap (λ o. unwrap_or o d) (sym (answer_back Two s.says s.life row.says is.life) ∙ ap (λ l. answer_named Two (tail_words (tail_words (tail_words l)))) e ∙ answer_back Two t.says t.life row'.says is'.life) in
    λ i. record { authority = authority i; turn = turn i; begun = begun i; life = (lasting i).life; says = (lasting i).says }

one_flight : (s t : Turn) → IsTurnRow s → IsTurnRow t → turn_line s ≡ turn_line t → s ≡ t
one_flight s t is is' same =
    let e = same_fields 73 (s.authority ∷ decimal s.turn ∷ decimal s.begun ∷ []) (t.authority ∷ decimal t.turn ∷ decimal t.begun ∷ []) (omega arith, omega arith) (shown_flight s is) (shown_flight t is') same in
    let authority : s.authority ≡ t.authority = ap head_word e in
    let turn = same_decimal s.turn t.turn is.turn is'.turn (ap (λ l. head_word (tail_words l)) e) in
    let begun = same_decimal s.begun t.begun is.begun is'.begun (ap (λ l. head_word (tail_words (tail_words l))) e) in
    λ i. record { authority = authority i; turn = turn i; begun = begun i }

one_grant : (s t : SlotGrant) → IsGrantRow s → IsGrantRow t → grant_line s ≡ grant_line t → s ≡ t
one_grant s t is is' same =
    let e = same_fields 76 (decimal s.slot ∷ decimal s.generation ∷ []) (decimal t.slot ∷ decimal t.generation ∷ []) (omega arith, omega arith) (shown_grant s is) (shown_grant t is') same in
    let slot = same_decimal s.slot t.slot is.slot is'.slot (ap head_word e) in
    let generation = same_decimal s.generation t.generation is.generation is'.generation (ap (λ l. head_word (tail_words l)) e) in
    λ i. record { slot = slot i; generation = generation i }

one_permit : (letter : ℕ) → IsShownOctet letter → (s t : GrantedPermit) → IsPermitRow s → IsPermitRow t → permit_line (letter ∷ []) s ≡ permit_line (letter ∷ []) t → s ≡ t
one_permit letter shown s t is is' same =
    let e = same_fields letter (decimal s.number ∷ s.token ∷ s.url ∷ []) (decimal t.number ∷ t.token ∷ t.url ∷ []) shown (shown_permit s is) (shown_permit t is') same in
    let number = same_decimal s.number t.number is.number is'.number (ap head_word e) in
    let token : s.token ≡ t.token = ap (λ l. head_word (tail_words l)) e in
    let url : s.url ≡ t.url = ap (λ l. head_word (tail_words (tail_words l))) e in
    λ i. record { number = number i; token = token i; url = url i }

-- the numbers of a base
pub record SameNumbers (a b : Base) : Type 0 where
  pub entries : a.entries ≡ b.entries
  pub started : a.started ≡ b.started
  pub begins : a.begins ≡ b.begins
  pub moment : a.moment ≡ b.moment

pub same_numbers : (a b : Base) → HasNumbers a → HasNumbers b → numbers_line a ≡ numbers_line b → SameNumbers a b
same_numbers a b is is' same =
    let e = same_fields 84 (decimal a.entries ∷ decimal a.started ∷ decimal a.begins ∷ decimal a.moment ∷ []) (decimal b.entries ∷ decimal b.started ∷ decimal b.begins ∷ decimal b.moment ∷ []) (omega arith, omega arith) (shown_numbers a is) (shown_numbers b is') same in
    record {
      entries = same_decimal a.entries b.entries is.entries is'.entries (ap head_word e);
      started = same_decimal a.started b.started is.started is'.started (ap (λ l. head_word (tail_words l)) e);
      begins = same_decimal a.begins b.begins is.begins is'.begins (ap (λ l. head_word (tail_words (tail_words l))) e);
      moment = same_decimal a.moment b.moment is.moment is'.moment (ap (λ l. head_word (tail_words (tail_words (tail_words l)))) e);
    }

-- ---- rows of lines, one after the other

-- the first line does not begin with this letter
abbrev NotLed : ℕ → List (List ℕ) → Type 0
NotLed letter lines = (l : List ℕ) (later : List (List ℕ)) → lines ≡ l ∷ later → get_or l 0 0 ≡ letter → ⊥

not_led : (letter : ℕ) (line : List ℕ) (later : List (List ℕ)) → get_or line 0 0 ≢ letter → NotLed letter (line ∷ later)
not_led letter line later apart l rest is led = apart (ap (λ ls. get_or (head_word ls) 0 0) is ∙ led)

not_led_map : {X : Type 0} (letter : ℕ) (f : X → List ℕ) (xs : List X) (later : List (List ℕ)) → ((x : X) → get_or (f x) 0 0 ≢ letter) → NotLed letter later → NotLed letter (map f xs ++ later)
not_led_map letter f [] later apart rest = rest
not_led_map letter f (x ∷ xs) later apart rest = not_led letter (f x) (map f xs ++ later) (apart x)

split_rows : {X : Type 0} (f : X → List ℕ) (letter : ℕ) → ((x : X) → get_or (f x) 0 0 ≡ letter) → (P : X → Type 0) → ((x y : X) → P x → P y → f x ≡ f y → x ≡ y) →
    (xs ys : List X) (r r' : List (List ℕ)) → All P xs → All P ys → NotLed letter r → NotLed letter r' → map f xs ++ r ≡ map f ys ++ r' → (xs ≡ ys) × (r ≡ r')
split_rows f letter led P inj [] [] r r' all all' none none' same = (refl, same)
split_rows f letter led P inj [] (y ∷ ys) r r' all all' none none' same = absurd (none (f y) (map f ys ++ r') same (led y))
split_rows f letter led P inj (x ∷ xs) [] r r' all all' none none' same = absurd (none' (f x) (map f xs ++ r) (sym same) (led x))
split_rows f letter led P inj (x ∷ xs) (y ∷ ys) r r' all all' none none' same =
    let first = inj x y (All-head P x xs all) (All-head P y ys all') (ap head_word same) in
    let rest = split_rows f letter led P inj xs ys r r' (All-tail P x xs all) (All-tail P y ys all') none none' (ap tail_words same) in
    (λ i. first i ∷ rest.0 i, rest.1)

pub lived : (ss : List StandingAnswer) → All IsAnswerRow ss → list_all has_its_life ss ≡ true → All IsLivedRow ss
lived [] rows lives = All-nil IsLivedRow
lived (s ∷ ss) rows lives =
    let parts = and_parts (has_its_life s) (list_all has_its_life ss) lives in
    All-cons IsLivedRow s ss (record { row = All-head IsAnswerRow s ss rows; life = is parts.0 }) (lived ss (All-tail IsAnswerRow s ss rows) parts.1)
  where
    is : (life_of s.says s.life == s.life) ≡ true → life_of s.says s.life ≡ s.life
    is e = grind (arith, nat_tests)

-- ---- the lines of a base

-- a base whose lines differ from each other
pub record IsSpelledBase (b : Base) : Type 0 where
  pub fields : HasBaseFields b
  pub lives : list_all has_its_life b.standing ≡ true

pub open_apart : (b : Base) (end : List (List ℕ)) → open_lines b ++ end ≡ map answer_line b.standing ++ (map turn_line b.in_flight ++ (map grant_line b.grants ++ (map unspent_line b.unspent ++ (map running_line b.running ++ end))))
open_apart b end = simp append_assoc

pub one_base : (a b : Base) (r r' : List (List ℕ)) → IsSpelledBase a → IsSpelledBase b → base_lines a ++ r ≡ base_lines b ++ r' → (a ≡ b) × (r ≡ r')
one_base a b r r' is is' same =
    let f = is.fields in
    let f' = is'.fields in
    let e = codes "E" in
    let end : List (List ℕ) = e ∷ r in
    let end' : List (List ℕ) = e ∷ r' in
    let ys = map running_line a.running ++ end in
    let ys' = map running_line b.running ++ end' in
    let us = map unspent_line a.unspent ++ ys in
    let us' = map unspent_line b.unspent ++ ys' in
    let ls = map grant_line a.grants ++ us in
    let ls' = map grant_line b.grants ++ us' in
    let is_ = map turn_line a.in_flight ++ ls in
    let is_' = map turn_line b.in_flight ++ ls' in
    let numbers = same_numbers a b f.numbers f'.numbers (ap (λ l. head_word (tail_words l)) same) in
    let rest : map answer_line a.standing ++ is_ ≡ map answer_line b.standing ++ is_' =
    sym (append_assoc (open_lines a) (e ∷ []) r ∙ open_apart a end) ∙ ap (λ l. tail_words (tail_words l)) same ∙ append_assoc (open_lines b) (e ∷ []) r' ∙ open_apart b end' in
    let none_e : (letter : ℕ) (x : List (List ℕ)) → 69 ≢ letter → NotLed letter (e ∷ x) = λ letter x apart. not_led letter e x apart in
    let hs = split_rows answer_line 72 (λ s. refl) IsLivedRow one_answer a.standing b.standing is_ is_' (lived a.standing f.standing is.lives) (lived b.standing f'.standing is'.lives)
    (not_led_map 72 turn_line a.in_flight ls (λ t q. omega arith) (not_led_map 72 grant_line a.grants us (λ g q. omega arith) (not_led_map 72 unspent_line a.unspent ys (λ p q. omega arith) (not_led_map 72 running_line a.running end (λ p q. omega arith) (none_e 72 r (λ q. omega arith))))))
    (not_led_map 72 turn_line b.in_flight ls' (λ t q. omega arith) (not_led_map 72 grant_line b.grants us' (λ g q. omega arith) (not_led_map 72 unspent_line b.unspent ys' (λ p q. omega arith) (not_led_map 72 running_line b.running end' (λ p q. omega arith) (none_e 72 r' (λ q. omega arith)))))) rest in
    let ts = split_rows turn_line 73 (λ t. refl) IsTurnRow one_flight a.in_flight b.in_flight ls ls' f.in_flight f'.in_flight
    (not_led_map 73 grant_line a.grants us (λ g q. omega arith) (not_led_map 73 unspent_line a.unspent ys (λ p q. omega arith) (not_led_map 73 running_line a.running end (λ p q. omega arith) (none_e 73 r (λ q. omega arith)))))
    (not_led_map 73 grant_line b.grants us' (λ g q. omega arith) (not_led_map 73 unspent_line b.unspent ys' (λ p q. omega arith) (not_led_map 73 running_line b.running end' (λ p q. omega arith) (none_e 73 r' (λ q. omega arith))))) hs.1 in
    let gs = split_rows grant_line 76 (λ g. refl) IsGrantRow one_grant a.grants b.grants us us' f.grants f'.grants
    (not_led_map 76 unspent_line a.unspent ys (λ p q. omega arith) (not_led_map 76 running_line a.running end (λ p q. omega arith) (none_e 76 r (λ q. omega arith))))
    (not_led_map 76 unspent_line b.unspent ys' (λ p q. omega arith) (not_led_map 76 running_line b.running end' (λ p q. omega arith) (none_e 76 r' (λ q. omega arith)))) ts.1 in
    let ps = split_rows unspent_line 85 (λ p. refl) IsPermitRow (one_permit 85 (omega arith, omega arith)) a.unspent b.unspent ys ys' f.unspent f'.unspent
    (not_led_map 85 running_line a.running end (λ p q. omega arith) (none_e 85 r (λ q. omega arith)))
    (not_led_map 85 running_line b.running end' (λ p q. omega arith) (none_e 85 r' (λ q. omega arith))) gs.1 in
    let rs = split_rows running_line 89 (λ p. refl) IsPermitRow (one_permit 89 (omega arith, omega arith)) a.running b.running end end' f.running f'.running
    (none_e 89 r (λ q. omega arith)) (none_e 89 r' (λ q. omega arith)) ps.1 in (
      λ i. record {
        standing = hs.0 i;
        in_flight = ts.0 i;
        unspent = ps.0 i;
        running = rs.0 i;
        grants = gs.0 i;
        begins = numbers.begins i;
        moment = numbers.moment i;
        entries = numbers.entries i;
        started = numbers.started i;
      },
      ap tail_words rs.1,
    )
