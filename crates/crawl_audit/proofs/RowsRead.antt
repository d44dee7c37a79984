-- The words of a base's line are read back as its row, or as the base's numbers.
-- Used by the readers of `read_base`.
use Rattle.std.proofs.Common.{◌≡◌, ◌≢◌, ℕ, List, [], ◌∷◌, Some, Ok, Err, sym, ap, ◌∙◌, subst, refl, arith, codes, decimal}
use Rattle.std.specs.Prelude.{Option, None, Result, unwrap_or}
use Rattle.std.proofs.lemmas.Option.{none-some}
use Rattle.permit_book.specs.declared.granted_permit.GrantedPermit.{GrantedPermit}
use Rattle.permit_book.specs.declared.out.Fetch.{Fetch}
use Rattle.permit_book.specs.Outstanding.{permit_for}
use Rattle.authority_cache.specs.declared.standing_answer.StandingAnswer.{StandingAnswer}
use Rattle.robots_verdict.specs.declared.answer.Answer.{Answer}
use Rattle.robots_verdict.specs.Answer.{said}
use Rattle.gate_history.specs.declared.base.Numbers.{Numbers}
use Rattle.gate_history.specs.Base.{Base}
use Rattle.line_text.specs.Number.{number_of}
use Rattle.line_text.specs.Words.{words_of}
use Rattle.history_text.specs.declared.version.Version.TheVariants.{Two}
use Rattle.crawl_audit.specs.declared.base_row.BaseRow.{BaseRow}
use Rattle.crawl_audit.specs.declared.unread_line.UnreadLine.{UnreadLine}
use Rattle.crawl_audit.specs.declared.unread_line.UnreadLine.TheVariants.{NotOne, NoMemory}
use Rattle.history_text.specs.BaseFields.{HasNumbers, IsPermitRow}
use Rattle.crawl_audit.specs.Numbered.{numbered}
use Rattle.crawl_audit.specs.OpenRows.{OpenRow, Answered, InFlight, Greatest, Unspent, Running, IsInRange, IsOpenRow, row_line, row_of}
use Rattle.crawl_audit.specs.Reading.{IsRead, ReadsAnswer, ReadsRow, head_word, tail_words}
use Rattle.history_text.specs.SpellBase.{numbers_line}
use Rattle.crawl_audit.proofs.Back.{authority_back, number_back, page_back}
use Rattle.crawl_audit.proofs.EntriesRead.{behind_three, other_word, refused}
use Rattle.crawl_audit.proofs.NamedEntries.{authority_named}
use Rattle.crawl_audit.proofs.NamedRows.{NamesPermit, NamesRow, numbers_behind, permit_named, row_behind}
use Rattle.crawl_audit.proofs.RowReading.{behind_back, in_range, line_of_numbers, lived_row, number_words, numbers_of, row_fields, row_letter, row_words}

-- ---- rows

row_given : (result : Result BaseRow UnreadLine) (named : Option OpenRow) (r : OpenRow) → NamesRow result named → named ≡ Some r → IsRead result (λ found. row_of found ≡ r)
row_given (Ok found) named r is same = ap (λ o. unwrap_or o r) (sym is ∙ same)
row_given (Err NotOne) named r is same = none-some r (sym is ∙ same)
row_given (Err NoMemory) named r is same = tt

pub row_read : (letter : List ℕ) (words : List (List ℕ)) (result : Result BaseRow UnreadLine) → NamesRow result (row_behind letter words) → ReadsRow (letter ∷ words) result
row_read letter words result named r is spelled =
    row_given result (row_behind letter words) r named
    (ap (λ l. row_behind (head_word l) (tail_words l)) (spelled ∙ row_words r is) ∙ behind_back r is)

pub row_is : (letter : List ℕ) (words : List (List ℕ)) (d : OpenRow) → row_behind letter words ≡ Some d → (r : OpenRow) → IsOpenRow r → letter ∷ words ≡ words_of (row_line r) → d ≡ r
row_is letter words d named r is spelled =
    ap (λ o. unwrap_or o d)
    (sym named ∙ ap (λ l. row_behind (head_word l) (tail_words l)) (spelled ∙ row_words r is) ∙ behind_back r is)

pub same_row : (line : List ℕ) (d r : OpenRow) → d ≡ r → (IsInRange d × (line ≡ row_line d) → ⊥) → IsOpenRow r → line ≡ row_line r → ⊥
same_row line d r which other is same = other (subst (λ (x : OpenRow). IsInRange x × (line ≡ row_line x)) (sym which) (in_range r is, same))

-- ---- answers

standing_alone : (words : List (List ℕ)) (P : OpenRow → Type 0) → ((s : StandingAnswer) → IsOpenRow (Answered s) → words ≡ row_fields (Answered s) → P (Answered s)) →
    (r : OpenRow) → IsOpenRow r → codes "H" ∷ words ≡ words_of (row_line r) → P r
standing_alone words P of r is spelled = by r is (spelled ∙ row_words r is)
  where
    by : (r : OpenRow) → IsOpenRow r → codes "H" ∷ words ≡ (row_letter r ∷ []) ∷ row_fields r → P r
    by (Answered s) is whole = of s is (ap tail_words whole)
    by (InFlight _) is whole = absurd (other_word 72 73 _ _ _ _ (λ e. omega arith) whole)
    by (Greatest _) is whole = absurd (other_word 72 76 _ _ _ _ (λ e. omega arith) whole)
    by (Unspent _) is whole = absurd (other_word 72 85 _ _ _ _ (λ e. omega arith) whole)
    by (Running _) is whole = absurd (other_word 72 89 _ _ _ _ (λ e. omega arith) whole)

pub standing_refused : (words : List (List ℕ)) (unread : UnreadLine) → ReadsAnswer Two (behind_three words) (Err unread) → ReadsRow (codes "H" ∷ words) (Err unread)
standing_refused words unread reads =
    standing_alone words (λ r. IsRead (Err unread) (λ found. row_of found ≡ r))
    (λ s is whole. refused unread _ _ (reads s.says s.life is.0.says (lived_row s is).life (ap behind_three whole)))

pub standing_is : (words : List (List ℕ)) (authority : List ℕ) (turn begun : ℕ) (answer : Answer) (life : ℕ) →
    authority_named (head_word words) ≡ Some authority → number_of (head_word (tail_words words)) ≡ Some turn → number_of (head_word (tail_words (tail_words words))) ≡ Some begun →
    ReadsAnswer Two (behind_three words) (Ok (answer, life)) →
    (r : OpenRow) → IsOpenRow r → codes "H" ∷ words ≡ words_of (row_line r) → Answered (record { authority = authority; turn = turn; begun = begun; life = life; says = said answer }) ≡ r
standing_is words authority turn begun answer life of in_turn at reads = standing_alone words (λ r. Answered (record { authority = authority; turn = turn; begun = begun; life = life; says = said answer }) ≡ r) by
  where
    by : (s : StandingAnswer) → IsOpenRow (Answered s) → words ≡ row_fields (Answered s) → Answered (record { authority = authority; turn = turn; begun = begun; life = life; says = said answer }) ≡ Answered s
    by s is whole =
        let row = is.0 in
        let same = reads s.says s.life row.says (lived_row s is).life (ap behind_three whole) in
        let authority_is : authority ≡ s.authority = ap (λ o. unwrap_or o s.authority) (sym of ∙ ap (λ ws. authority_named (head_word ws)) whole ∙ authority_back s.authority row.authority) in
        let turn_is : turn ≡ s.turn = ap (λ o. unwrap_or o s.turn) (sym in_turn ∙ ap (λ ws. number_of (head_word (tail_words ws))) whole ∙ number_back s.turn row.turn) in
        let begun_is : begun ≡ s.begun = ap (λ o. unwrap_or o s.begun) (sym at ∙ ap (λ ws. number_of (head_word (tail_words (tail_words ws)))) whole ∙ number_back s.begun row.begun) in
        λ i. Answered (record { authority = authority_is i; turn = turn_is i; begun = begun_is i; life = same.1 i; says = same.0 i })

-- ---- permits

permit_back : (p : GrantedPermit) → IsPermitRow p → permit_named (decimal p.number ∷ p.token ∷ p.url ∷ []) ≡ Some p
permit_back p is =
    let fetch = is.fetch in
    rw (number_back p.number is.number, fetch.token, page_back p.url fetch.url) refl

pub permit_read : (words : List (List ℕ)) (result : Result (ℕ × Fetch) UnreadLine) → NamesPermit result (permit_named words) →
    (p : GrantedPermit) → IsPermitRow p → words ≡ decimal p.number ∷ p.token ∷ p.url ∷ [] → IsRead result (λ pair. permit_for pair.0 pair.1 ≡ p)
permit_read words result named p is spelled = by result named
  where
    back : permit_named words ≡ Some p
    back = ap permit_named spelled ∙ permit_back p is

    by : (r : Result (ℕ × Fetch) UnreadLine) → NamesPermit r (permit_named words) → IsRead r (λ pair. permit_for pair.0 pair.1 ≡ p)
    by (Ok pair) found = ap (λ o. unwrap_or o p) (sym found ∙ back)
    by (Err NotOne) none = none-some p (sym none ∙ back)
    by (Err NoMemory) none = tt

-- the words of a permit were read with this result
abbrev pub ReadsPermit : List (List ℕ) → Result (ℕ × Fetch) UnreadLine → Type 0
ReadsPermit words result =
    (p : GrantedPermit) → IsPermitRow p → words ≡ decimal p.number ∷ p.token ∷ p.url ∷ [] → IsRead result (λ pair. permit_for pair.0 pair.1 ≡ p)

unspent_alone : (words : List (List ℕ)) (P : OpenRow → Type 0) → ((p : GrantedPermit) → IsPermitRow p → words ≡ decimal p.number ∷ p.token ∷ p.url ∷ [] → P (Unspent p)) →
    (r : OpenRow) → IsOpenRow r → codes "U" ∷ words ≡ words_of (row_line r) → P r
unspent_alone words P of r is spelled = by r is (spelled ∙ row_words r is)
  where
    by : (r : OpenRow) → IsOpenRow r → codes "U" ∷ words ≡ (row_letter r ∷ []) ∷ row_fields r → P r
    by (Answered _) is whole = absurd (other_word 85 72 _ _ _ _ (λ e. omega arith) whole)
    by (InFlight _) is whole = absurd (other_word 85 73 _ _ _ _ (λ e. omega arith) whole)
    by (Greatest _) is whole = absurd (other_word 85 76 _ _ _ _ (λ e. omega arith) whole)
    by (Unspent p) is whole = of p is (ap tail_words whole)
    by (Running _) is whole = absurd (other_word 85 89 _ _ _ _ (λ e. omega arith) whole)

running_alone : (words : List (List ℕ)) (P : OpenRow → Type 0) → ((p : GrantedPermit) → IsPermitRow p → words ≡ decimal p.number ∷ p.token ∷ p.url ∷ [] → P (Running p)) →
    (r : OpenRow) → IsOpenRow r → codes "Y" ∷ words ≡ words_of (row_line r) → P r
running_alone words P of r is spelled = by r is (spelled ∙ row_words r is)
  where
    by : (r : OpenRow) → IsOpenRow r → codes "Y" ∷ words ≡ (row_letter r ∷ []) ∷ row_fields r → P r
    by (Answered _) is whole = absurd (other_word 89 72 _ _ _ _ (λ e. omega arith) whole)
    by (InFlight _) is whole = absurd (other_word 89 73 _ _ _ _ (λ e. omega arith) whole)
    by (Greatest _) is whole = absurd (other_word 89 76 _ _ _ _ (λ e. omega arith) whole)
    by (Unspent _) is whole = absurd (other_word 89 85 _ _ _ _ (λ e. omega arith) whole)
    by (Running p) is whole = of p is (ap tail_words whole)

pub unspent_refused : (words : List (List ℕ)) (unread : UnreadLine) → ReadsPermit words (Err unread) → ReadsRow (codes "U" ∷ words) (Err unread)
unspent_refused words unread reads =
    unspent_alone words (λ r. IsRead (Err unread) (λ found. row_of found ≡ r)) (λ p is whole. refused unread _ _ (reads p is whole))

pub running_refused : (words : List (List ℕ)) (unread : UnreadLine) → ReadsPermit words (Err unread) → ReadsRow (codes "Y" ∷ words) (Err unread)
running_refused words unread reads =
    running_alone words (λ r. IsRead (Err unread) (λ found. row_of found ≡ r)) (λ p is whole. refused unread _ _ (reads p is whole))

pub unspent_is : (words : List (List ℕ)) (number : ℕ) (fetch : Fetch) → ReadsPermit words (Ok (number, fetch)) →
    (r : OpenRow) → IsOpenRow r → codes "U" ∷ words ≡ words_of (row_line r) → Unspent (permit_for number fetch) ≡ r
unspent_is words number fetch reads =
    unspent_alone words (λ r. Unspent (permit_for number fetch) ≡ r) (λ p is whole. ap Unspent (reads p is whole))

pub running_is : (words : List (List ℕ)) (number : ℕ) (fetch : Fetch) → ReadsPermit words (Ok (number, fetch)) →
    (r : OpenRow) → IsOpenRow r → codes "Y" ∷ words ≡ words_of (row_line r) → Running (permit_for number fetch) ≡ r
running_is words number fetch reads =
    running_alone words (λ r. Running (permit_for number fetch) ≡ r) (λ p is whole. ap Running (reads p is whole))

-- ---- the numbers of a base

pub numbers_behind_read : (words : List (List ℕ)) (result : Option Numbers) → result ≡ numbers_behind words →
    (n : Numbers) → HasNumbers (numbered n) → codes "T" ∷ words ≡ words_of (numbers_line (numbered n)) → result ≡ Some n
numbers_behind_read words result named n has spelled =
    let whole : codes "T" ∷ words ≡ words_of (numbers_line (numbered n)) = spelled in
    named ∙ ap (λ ws. numbers_behind (tail_words ws)) (whole ∙ number_words (numbered n) has) ∙ back
  where
    back : numbers_behind (decimal n.entries ∷ decimal n.started ∷ decimal n.begins ∷ decimal n.moment ∷ []) ≡ Some n
    back = rw (number_back n.entries has.entries, number_back n.started has.started, number_back n.begins has.begins, number_back n.moment has.moment) refl

-- the numbers of the base with this line were read
abbrev pub ReadsNumbers : List ℕ → Option Numbers → Type 0
ReadsNumbers text result = (n : Numbers) → HasNumbers (numbered n) → text ≡ numbers_line (numbered n) → result ≡ Some n

its_numbers : (text : List ℕ) (result : Option Numbers) (b : Base) → ReadsNumbers text result → HasNumbers b → text ≡ numbers_line b → result ≡ Some (numbers_of b)
its_numbers text result b reads has spelled =
    reads (numbers_of b) (record { entries = has.entries; started = has.started; begins = has.begins; moment = has.moment }) spelled

pub none_numbers : (line text : List ℕ) (result : Option Numbers) (b : Base) → text ≡ line → ReadsNumbers text result → result ≡ None → HasNumbers b → line ≡ numbers_line b → ⊥
none_numbers line text result b whole reads none has same = none-some (numbers_of b) (sym none ∙ its_numbers text result b reads has (whole ∙ same))

pub other_numbers : (line text : List ℕ) (result : Option Numbers) (n : Numbers) (b : Base) → text ≡ line → ReadsNumbers text result → result ≡ Some n → line ≢ line_of_numbers n → HasNumbers b → line ≡ numbers_line b → ⊥
other_numbers line text result n b whole reads found other has same =
    let which : n ≡ numbers_of b = ap (λ o. unwrap_or o n) (sym found ∙ its_numbers text result b reads has (whole ∙ same)) in
    other (same ∙ ap line_of_numbers (sym which))
