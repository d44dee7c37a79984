-- The line of a thing left open, or of a base's numbers, is read back as that.
-- Used by `OneRow` and by the reader of such lines.
use Rattle.std.proofs.Common.{◌≡◌, ℕ, All, true, List, [], ◌∷◌, ◌++◌, Some, decimal, sym, ap, ◌∙◌, subst, refl, arith, codes}
use Rattle.std.specs.Prelude.{◌==◌}
use Rattle.std.specs.Str.{IsUtf8}
use Rattle.std.proofs.lemmas.Bool.Decides.{nat_tests}
use Rattle.authority_cache.specs.declared.standing_answer.StandingAnswer.{StandingAnswer}
use Rattle.authority_cache.specs.Lives.{life_of}
use Rattle.gate_history.specs.declared.base.Numbers.{Numbers}
use Rattle.gate_history.specs.Base.{Base}
use Rattle.line_text.specs.Words.{words_of}
use Rattle.history_text.specs.declared.version.Version.TheVariants.{Two}
use Rattle.history_text.specs.BaseFields.{HasNumbers}
use Rattle.crawl_audit.specs.OpenRows.{OpenRow, Answered, InFlight, Greatest, Unspent, Running, IsInRange, IsOpenRow, row_line}
use Rattle.crawl_audit.specs.Reading.{head_word, tail_words}
use Rattle.history_text.specs.Spell.{answer_fields, spaced_fields}
use Rattle.history_text.specs.SpellBase.{numbers_line}
use Rattle.crawl_audit.proofs.NamedRows.{row_behind, row_named}
use Rattle.crawl_audit.proofs.Back.{authority_back, number_back, page_back}
use Rattle.crawl_audit.proofs.RowSpelling.{IsLivedRow, row_utf8, shown_flight, shown_grant, shown_letter, shown_numbers, shown_permit, shown_standing}
use Rattle.crawl_audit.proofs.Shown.{IsShown, IsShownOctet, words_of_fields}
use Rattle.crawl_audit.proofs.Spelling.{answer_back}

-- ---- a thing by its letter and its fields

abbrev pub row_letter : OpenRow → ℕ
row_letter (Answered _) = 72
row_letter (InFlight _) = 73
row_letter (Greatest _) = 76
row_letter (Unspent _) = 85
row_letter (Running _) = 89

abbrev pub row_fields : OpenRow → List (List ℕ)
row_fields (Answered s) = s.authority ∷ decimal s.turn ∷ decimal s.begun ∷ answer_fields Two s.says s.life
row_fields (InFlight t) = t.authority ∷ decimal t.turn ∷ decimal t.begun ∷ []
row_fields (Greatest g) = decimal g.slot ∷ decimal g.generation ∷ []
row_fields (Unspent p) = decimal p.number ∷ p.token ∷ p.url ∷ []
row_fields (Running p) = decimal p.number ∷ p.token ∷ p.url ∷ []

pub line_of_fields : (r : OpenRow) → row_line r ≡ row_letter r ∷ spaced_fields (row_fields r)
line_of_fields (Answered s) = refl
line_of_fields (InFlight t) = refl
line_of_fields (Greatest g) = refl
line_of_fields (Unspent p) = refl
line_of_fields (Running p) = refl

letter_shown : (r : OpenRow) → IsShownOctet (row_letter r)
letter_shown (Answered s) = (omega arith, omega arith)
letter_shown (InFlight t) = (omega arith, omega arith)
letter_shown (Greatest g) = (omega arith, omega arith)
letter_shown (Unspent p) = (omega arith, omega arith)
letter_shown (Running p) = (omega arith, omega arith)

pub lived_row : (s : StandingAnswer) → IsOpenRow (Answered s) → IsLivedRow s
lived_row s is = record { row = is.0; life = own is.1 }
  where
    own : (life_of s.says s.life == s.life) ≡ true → life_of s.says s.life ≡ s.life
    own e = grind (arith, nat_tests)

fields_shown : (r : OpenRow) → IsOpenRow r → All IsShown (row_fields r)
fields_shown (Answered s) is = shown_standing s (lived_row s is)
fields_shown (InFlight t) is = shown_flight t is
fields_shown (Greatest g) is = shown_grant g is.0
fields_shown (Unspent p) is = shown_permit p is
fields_shown (Running p) is = shown_permit p is

-- ---- the thing is read back

pub behind_back : (r : OpenRow) → IsOpenRow r → row_behind (row_letter r ∷ []) (row_fields r) ≡ Some r
behind_back (Answered s) is =
    let row = is.0 in
    let lived = lived_row s is in
    rw (authority_back s.authority row.authority, number_back s.turn row.turn, number_back s.begun row.begun, answer_back Two s.says s.life row.says lived.life) refl
behind_back (InFlight t) is = rw (authority_back t.authority is.authority, number_back t.turn is.turn, number_back t.begun is.begun) refl
behind_back (Greatest g) is =
    let row = is.0 in
    rw (number_back g.slot row.slot, number_back g.generation row.generation) refl
behind_back (Unspent p) is =
    let fetch = is.fetch in
    rw (number_back p.number is.number, fetch.token, page_back p.url fetch.url) refl
behind_back (Running p) is =
    let fetch = is.fetch in
    rw (number_back p.number is.number, fetch.token, page_back p.url fetch.url) refl

pub row_words : (r : OpenRow) → IsOpenRow r → words_of (row_line r) ≡ (row_letter r ∷ []) ∷ row_fields r
row_words r is =
    ap words_of (line_of_fields r) ∙ words_of_fields (row_letter r ∷ []) (row_fields r) (shown_letter (row_letter r) (letter_shown r)) (fields_shown r is)

pub row_back : (r : OpenRow) → IsOpenRow r → row_named (row_line r) ≡ Some r
row_back r is = ap (λ words. row_behind (head_word words) (tail_words words)) (row_words r is) ∙ behind_back r is

pub utf8_row : (r : OpenRow) → IsOpenRow r → IsUtf8 (row_line r)
utf8_row r is = subst IsUtf8 (sym (line_of_fields r)) (row_utf8 (row_letter r) (row_fields r) (letter_shown r) (fields_shown r is))

pub in_range : (r : OpenRow) → IsOpenRow r → IsInRange r
in_range (Answered s) is = is.1
in_range (InFlight t) is = _
in_range (Greatest g) is = is.1
in_range (Unspent p) is = _
in_range (Running p) is = _

-- ---- the numbers of a base

abbrev pub numbers_of : Base → Numbers
numbers_of b = record { begins = b.begins; moment = b.moment; entries = b.entries; started = b.started }

-- the line of numbers
abbrev pub line_of_numbers : Numbers → List ℕ
line_of_numbers n = codes "T" ++ spaced_fields (decimal n.entries ∷ decimal n.started ∷ decimal n.begins ∷ decimal n.moment ∷ [])

pub number_words : (b : Base) → HasNumbers b → words_of (numbers_line b) ≡ codes "T" ∷ decimal b.entries ∷ decimal b.started ∷ decimal b.begins ∷ decimal b.moment ∷ []
number_words b is =
    words_of_fields (codes "T") (decimal b.entries ∷ decimal b.started ∷ decimal b.begins ∷ decimal b.moment ∷ []) (shown_letter 84 (omega arith, omega arith)) (shown_numbers b is)

pub utf8_numbers : (b : Base) → HasNumbers b → IsUtf8 (numbers_line b)
utf8_numbers b is = row_utf8 84 (decimal b.entries ∷ decimal b.started ∷ decimal b.begins ∷ decimal b.moment ∷ []) (omega arith, omega arith) (shown_numbers b is)
