-- The words of an entry's line, or of an answer, are read back as that entry or answer.
-- Used by the readers of `read`.
use Rattle.std.proofs.Common.{◌≡◌, ◌≢◌, ℕ, get_or, List, ◌∷◌, Some, Ok, Err, sym, ap, ◌∙◌, subst, arith, codes, decimal}
use Rattle.std.specs.Prelude.{Option, Result, IfOk, unwrap_or}
use Rattle.std.specs.declared.alloc.AllocError.{AllocError}
use Rattle.std.proofs.lemmas.Option.{none-some}
use Rattle.authority_cache.specs.Lives.{greatest_life}
use Rattle.robots_verdict.specs.declared.answer.Answer.{Answer}
use Rattle.robots_verdict.specs.declared.said.Said.{Said}
use Rattle.robots_verdict.specs.declared.said.Said.TheVariants as says
use Rattle.robots_verdict.specs.Answer.{said}
use Rattle.gate_history.specs.declared.entry.Entry.{Entry}
use Rattle.gate_history.specs.declared.entry.Entry.TheVariants.{Begun, Arrived, Granted, AskDenied, Started, StartDenied, Returned, Finished, Swept}
use Rattle.line_text.specs.Number.{number_of}
use Rattle.line_text.specs.Words.{words_of}
use Rattle.history_text.specs.declared.version.Version.{Version}
use Rattle.history_text.specs.declared.version.Version.TheVariants.{One, Two}
use Rattle.crawl_audit.specs.declared.unread_line.UnreadLine.{UnreadLine}
use Rattle.crawl_audit.specs.declared.unread_line.UnreadLine.TheVariants.{NotOne, NoMemory}
use Rattle.crawl_audit.specs.declared.record.Record.{Record}
use Rattle.history_text.specs.Entries.{HasLife, IsBody, IsEntry, IsLife, IsSaid}
use Rattle.crawl_audit.specs.Reading.{IsRead, ReadsAnswer, ReadsEntry, head_word, tail_words}
use Rattle.crawl_audit.specs.Records.{entry_of}
use Rattle.history_text.specs.Spell.{answer_fields, body_word, entry_fields, entry_line, letter_of}
use Rattle.crawl_audit.proofs.Back.{authority_back, body_back, number_back}
use Rattle.crawl_audit.proofs.NamedEntries.{Lasting, NamesAnswer, NamesEntry, answer_named, authority_named, body_named, entry_behind}
use Rattle.crawl_audit.proofs.Spelling.{answer_back, behind_back, entry_words}

pub refused : {A B : Type 0} (unread : UnreadLine) (is_right : A → Type 0) (is_right' : B → Type 0) → IsRead (Err unread) is_right → IsRead (Err unread) is_right'
refused NotOne is_right is_right' is = absurd is
refused NoMemory is_right is_right' is = tt

pub other_word : (m n : ℕ) (x y : List ℕ) (xs ys : List (List ℕ)) → m ≢ n → (m ∷ x) ∷ xs ≡ (n ∷ y) ∷ ys → ⊥
other_word m n x y xs ys apart same = apart (ap (λ ws. get_or (head_word ws) 0 0) same)

-- ---- entries

entry_given : (result : Result Record UnreadLine) (named : Option Entry) (e : Entry) → NamesEntry result named → named ≡ Some e → IsRead result (λ found. entry_of found ≡ e)
entry_given (Ok found) named e is same = ap (λ o. unwrap_or o e) (sym is ∙ same)
entry_given (Err NotOne) named e is same = none-some e (sym is ∙ same)
entry_given (Err NoMemory) named e is same = tt

pub entry_read : (version : Version) (letter : List ℕ) (words : List (List ℕ)) (result : Result Record UnreadLine) → NamesEntry result (entry_behind version letter words) → ReadsEntry version (letter ∷ words) result
entry_read version letter words result named e is spelled =
    entry_given result (entry_behind version letter words) e named
    (ap (λ l. entry_behind version (head_word l) (tail_words l)) (spelled ∙ entry_words version e is) ∙ behind_back version e is)

pub entry_is : (version : Version) (letter : List ℕ) (words : List (List ℕ)) (d : Entry) → entry_behind version letter words ≡ Some d → (e : Entry) → IsEntry version e → letter ∷ words ≡ words_of (entry_line version e) → d ≡ e
entry_is version letter words d named e is spelled =
    ap (λ o. unwrap_or o d)
    (sym named ∙ ap (λ l. entry_behind version (head_word l) (tail_words l)) (spelled ∙ entry_words version e is) ∙ behind_back version e is)

pub same_entry : (version : Version) (line : List ℕ) (d e : Entry) → d ≡ e → (HasLife version d × (line ≡ entry_line version d) → ⊥) → IsEntry version e → line ≡ entry_line version e → ⊥
same_entry version line d e which other is same =
    other (subst (λ (x : Entry). HasLife version x × (line ≡ entry_line version x)) (sym which) (is.life, same))

-- ---- answers

abbrev lasting : Said → ℕ → Lasting
lasting said life = record { says = said; life = life }

answer_given : (result : Result (Answer × ℕ) UnreadLine) (named : Option Lasting) (says : Said) (life : ℕ) → NamesAnswer result named → named ≡ Some (lasting says life) → IsRead result (λ pair. (said pair.0 ≡ says) × (pair.1 ≡ life))
answer_given (Ok pair) named says life is same =
    let found : lasting (said pair.0) pair.1 ≡ lasting says life = ap (λ o. unwrap_or o (lasting says life)) (sym is ∙ same) in
    (ap (λ l. l.says) found, ap (λ l. l.life) found)
answer_given (Err NotOne) named says life is same = none-some (lasting says life) (sym is ∙ same)
answer_given (Err NoMemory) named says life is same = tt

pub answer_read : (version : Version) (words : List (List ℕ)) (result : Result (Answer × ℕ) UnreadLine) → NamesAnswer result (answer_named version words) → ReadsAnswer version words result
answer_read version words result named says life body lasts spelled =
    answer_given result (answer_named version words) says life named (ap (answer_named version) spelled ∙ answer_back version says life body lasts)

pub rules_of_one : (words : List (List ℕ)) (text : List ℕ) (life : ℕ) (answer : Answer) → said answer ≡ says.Rules text → life ≡ greatest_life → ((body : List ℕ) → IsBody body → head_word words ≡ body_word body → text ≡ body) →
    (s : Said) (l : ℕ) → IsSaid s → IsLife One s l → codes "R" ∷ words ≡ answer_fields One s l → (said answer ≡ s) × (life ≡ l)
rules_of_one words text life answer is lasts reads (says.Rules body) l of_body lives spelled =
    (is ∙ ap says.Rules (reads body of_body (ap (λ ws. head_word (tail_words ws)) spelled)), lasts ∙ sym lives)
rules_of_one words text life answer is lasts reads (says.Open opening) l of_body lives spelled = absurd (other_word 82 79 _ _ _ _ (λ e. omega arith) spelled)
rules_of_one words text life answer is lasts reads (says.Closed closure) l of_body lives spelled = absurd (other_word 82 67 _ _ _ _ (λ e. omega arith) spelled)

pub rules_of_two : (words : List (List ℕ)) (text : List ℕ) (life : ℕ) (answer : Answer) → said answer ≡ says.Rules text → number_of (head_word words) ≡ Some life → ((body : List ℕ) → IsBody body → head_word (tail_words words) ≡ body_word body → text ≡ body) →
    (s : Said) (l : ℕ) → IsSaid s → IsLife Two s l → codes "R" ∷ words ≡ answer_fields Two s l → (said answer ≡ s) × (life ≡ l)
rules_of_two words text life answer is lasts reads (says.Rules body) l of_body lives spelled =
    let first : head_word words ≡ decimal l = ap (λ ws. head_word (tail_words ws)) spelled in (
      is ∙ ap says.Rules (reads body of_body (ap (λ ws. head_word (tail_words (tail_words ws))) spelled)),
      ap (λ o. unwrap_or o l) (sym lasts ∙ ap number_of first ∙ number_back l (omega arith)),
    )
rules_of_two words text life answer is lasts reads (says.Open opening) l of_body lives spelled = absurd (other_word 82 79 _ _ _ _ (λ e. omega arith) spelled)
rules_of_two words text life answer is lasts reads (says.Closed closure) l of_body lives spelled = absurd (other_word 82 67 _ _ _ _ (λ e. omega arith) spelled)

pub body_read : (word : List ℕ) (result : Result (List ℕ) AllocError) → IfOk result (λ text. text ≡ body_named word) → (body : List ℕ) → IsBody body → word ≡ body_word body → IfOk result (λ text. text ≡ body)
body_read word (Ok text) named body is spelled = named ∙ ap body_named spelled ∙ body_back body is
body_read word (Err error) named body is spelled = tt

-- ---- arrivals

arrival_alone : (version : Version) (words : List (List ℕ)) (P : Entry → Type 0) →
    ((moment : ℕ) (authority : List ℕ) (turn : ℕ) (s : Said) (life : ℕ) → IsEntry version (Arrived life moment authority turn s) → words ≡ entry_fields version (Arrived life moment authority turn s) → P (Arrived life moment authority turn s)) →
    (e : Entry) → IsEntry version e → codes "A" ∷ words ≡ words_of (entry_line version e) → P e
arrival_alone version words P of e is spelled = by e is (spelled ∙ entry_words version e is)
  where
    by : (e : Entry) → IsEntry version e → codes "A" ∷ words ≡ letter_of e ∷ entry_fields version e → P e
    by (Begun _ _ _) is whole = absurd (other_word 65 66 _ _ _ _ (λ e. omega arith) whole)
    by (Arrived life moment authority turn s) is whole = of moment authority turn s life is (ap tail_words whole)
    by (Granted _ _ _) is whole = absurd (other_word 65 71 _ _ _ _ (λ e. omega arith) whole)
    by (AskDenied _ _ _) is whole = absurd (other_word 65 78 _ _ _ _ (λ e. omega arith) whole)
    by (Started _ _ _) is whole = absurd (other_word 65 83 _ _ _ _ (λ e. omega arith) whole)
    by (StartDenied _ _ _) is whole = absurd (other_word 65 68 _ _ _ _ (λ e. omega arith) whole)
    by (Returned _) is whole = absurd (other_word 65 75 _ _ _ _ (λ e. omega arith) whole)
    by (Finished _) is whole = absurd (other_word 65 70 _ _ _ _ (λ e. omega arith) whole)
    by (Swept _ _) is whole = absurd (other_word 65 87 _ _ _ _ (λ e. omega arith) whole)

-- the words behind the first three
abbrev pub behind_three : List (List ℕ) → List (List ℕ)
behind_three words = tail_words (tail_words (tail_words words))

pub arrival_refused : (version : Version) (words : List (List ℕ)) (unread : UnreadLine) → ReadsAnswer version (behind_three words) (Err unread) → ReadsEntry version (codes "A" ∷ words) (Err unread)
arrival_refused version words unread reads =
    arrival_alone version words (λ e. IsRead (Err unread) (λ found. entry_of found ≡ e))
    (λ moment authority turn s life is whole. refused unread _ _ (reads s life is.fields.3 is.life (ap behind_three whole)))

pub arrival_is : (version : Version) (words : List (List ℕ)) (moment : ℕ) (authority : List ℕ) (turn : ℕ) (answer : Answer) (life : ℕ) →
    number_of (head_word words) ≡ Some moment → authority_named (head_word (tail_words words)) ≡ Some authority → number_of (head_word (tail_words (tail_words words))) ≡ Some turn →
    ReadsAnswer version (behind_three words) (Ok (answer, life)) →
    (e : Entry) → IsEntry version e → codes "A" ∷ words ≡ words_of (entry_line version e) → Arrived life moment authority turn (said answer) ≡ e
arrival_is version words moment authority turn answer life at of in_turn reads = arrival_alone version words (λ e. Arrived life moment authority turn (said answer) ≡ e) by
  where
    by : (m : ℕ) (a : List ℕ) (t : ℕ) (s : Said) (l : ℕ) → IsEntry version (Arrived l m a t s) → words ≡ entry_fields version (Arrived l m a t s) → Arrived life moment authority turn (said answer) ≡ Arrived l m a t s
    by m a t s l is whole =
        let same = reads s l is.fields.3 is.life (ap behind_three whole) in
        let moment_is : moment ≡ m = ap (λ o. unwrap_or o m) (sym at ∙ ap (λ ws. number_of (head_word ws)) whole ∙ number_back m is.fields.0) in
        let authority_is : authority ≡ a = ap (λ o. unwrap_or o a) (sym of ∙ ap (λ ws. authority_named (head_word (tail_words ws))) whole ∙ authority_back a is.fields.1) in
        let turn_is : turn ≡ t = ap (λ o. unwrap_or o t) (sym in_turn ∙ ap (λ ws. number_of (head_word (tail_words (tail_words ws)))) whole ∙ number_back t is.fields.2) in
        λ i. Arrived (same.1 i) (moment_is i) (authority_is i) (turn_is i) (same.0 i)
