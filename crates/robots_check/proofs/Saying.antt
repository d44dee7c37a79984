-- What a check finds among the lines that say something is what the text has: names, notes and user-agent lines.
-- Used by what reads the text once.
use Rattle.std.proofs.Common.{◌≡◌, ℕ, ◌+◌, Bool, true, false, List, [], ◌∷◌, ◌++◌, map, flat_map, refl, sym, ap, ◌∙◌}
use Rattle.std.specs.Prelude.{◌||◌, ◌&&◌, filter, if◌then◌else◌, codes}
use Rattle.std.specs.List.{list_any}
use Rattle.std.proofs.lemmas.Bool.{cond-true, cond-false, true≢false}
use Rattle.std.proofs.lemmas.List.Elements.{filter_agree}
use Rattle.robots_text.specs.Grouped.{Grouped, group_at, grouped_from, grouped_records, grouped_seen, numbered_of}
use Rattle.robots_text.specs.declared.grouped.GroupedRecord.{GroupedRecord}
use Rattle.robots_text.specs.Groups.{is_agent, is_named, names_everybody, names_token, speaks_to}
use Rattle.robots_text.specs.Records.{Record, agent, rule, other, Numbered, numbered_from, numbered_records, records_of}
use Rattle.robots_check.specs.AgentText.{Shown, agents_for, groups_that, heads_in, is_head_of, shown_of}
use Rattle.robots_check.specs.Notes.{is_said, line_note, silent_note}
use Rattle.robots_check.specs.Said.{said_among, speaks_among}

-- ---- names

named_said : (word : List ℕ) (group : ℕ) (begins : Bool) (n : ℕ) (ks : List Record) →
    list_any (λ line. names_token word line.kind) (said_among (grouped_from group begins (numbered_from n ks))) ≡ is_named (numbered_from n ks) word
named_said word group begins n [] = refl
named_said word group begins n (agent who ∷ ks) = ap (λ b. names_token word (agent who) || b) (named_said word (group_at group begins n (agent who)) false (n + 1) ks)
named_said word group begins n (rule kind value ∷ ks) = named_said word group true (n + 1) ks
named_said word group begins n (other ∷ ks) = named_said word group begins (n + 1) ks

pub speaks_said : (text word : List ℕ) (kind : Record) → speaks_among (said_among (grouped_records text)) word kind ≡ speaks_to (numbered_records text) word kind
speaks_said text word kind = ap (λ b. if b then names_token word kind else names_everybody kind) (named_said word 0 true 1 (records_of text))

-- ---- notes

notes_from : (group : ℕ) (begins : Bool) (n : ℕ) (ks : List Record) →
    flat_map (λ line. line_note (numbered_of line)) (said_among (grouped_from group begins (numbered_from n ks))) ≡ flat_map line_note (numbered_from n ks)
notes_from group begins n [] = refl
notes_from group begins n (agent who ∷ ks) = notes_from (group_at group begins n (agent who)) false (n + 1) ks
notes_from group begins n (rule kind value ∷ ks) = ap (λ l. line_note (record { line = n; kind = rule kind value }) ++ l) (notes_from group true (n + 1) ks)
notes_from group begins n (other ∷ ks) = notes_from group begins (n + 1) ks

notes_seen : (lines : List GroupedRecord) → flat_map (λ line. line_note (numbered_of (grouped_seen line))) lines ≡ flat_map (λ line. line_note (numbered_of line)) (map grouped_seen lines)
notes_seen [] = refl
notes_seen (line ∷ lines) = ap (λ l. line_note (numbered_of (grouped_seen line)) ++ l) (notes_seen lines)

pub notes_said : (text : List ℕ) (lines : List GroupedRecord) → map grouped_seen lines ≡ said_among (grouped_records text) →
    flat_map (λ line. line_note (numbered_of (grouped_seen line))) lines ≡ flat_map line_note (numbered_records text)
notes_said text lines are = notes_seen lines ∙ ap (flat_map (λ line. line_note (numbered_of line))) are ∙ notes_from 0 true 1 (records_of text)

-- ---- the note on a text without records

none_said : (group : ℕ) (begins : Bool) (n : ℕ) (ks : List Record) → said_among (grouped_from group begins (numbered_from n ks)) ≡ [] → list_any (λ line. is_said line.kind) (numbered_from n ks) ≡ false
none_said group begins n [] none = refl
none_said group begins n (agent who ∷ ks) none = absurd cc
none_said group begins n (rule kind value ∷ ks) none = absurd cc
none_said group begins n (other ∷ ks) none = none_said group begins (n + 1) ks none

some_said : (group : ℕ) (begins : Bool) (n : ℕ) (ks : List Record) → (said_among (grouped_from group begins (numbered_from n ks)) ≡ [] → ⊥) → list_any (λ line. is_said line.kind) (numbered_from n ks) ≡ true
some_said group begins n [] some = absurd (some refl)
some_said group begins n (agent who ∷ ks) some = refl
some_said group begins n (rule kind value ∷ ks) some = refl
some_said group begins n (other ∷ ks) some = some_said group begins (n + 1) ks some

silent_by : (n : ℕ) (kind : Record) (lines : List Numbered) (said : Bool) → list_any (λ line. is_said line.kind) lines ≡ said → (is_said kind || said) ≡ false →
    silent_note (record { line = n; kind = kind } ∷ lines) ≡ codes "crawlgate: no line of the robots.txt is a record, so it allows all\n"
silent_by n (agent who) lines said is none = absurd (true≢false none)
silent_by n (rule kind value) lines said is none = absurd (true≢false none)
silent_by n other lines said is none = cond-false (list_any (λ line. is_said line.kind) lines) _ _ (is ∙ none)

not_silent_by : (n : ℕ) (kind : Record) (lines : List Numbered) → (is_said kind || list_any (λ line. is_said line.kind) lines) ≡ true → silent_note (record { line = n; kind = kind } ∷ lines) ≡ []
not_silent_by n (agent who) lines some = refl
not_silent_by n (rule kind value) lines some = refl
not_silent_by n other lines some = cond-true (list_any (λ line. is_said line.kind) lines) _ _ some

pub silent_none : (text : List ℕ) (first : Numbered) (lines : List Numbered) → numbered_records text ≡ first ∷ lines → said_among (grouped_records text) ≡ [] →
    silent_note (numbered_records text) ≡ codes "crawlgate: no line of the robots.txt is a record, so it allows all\n"
silent_none text first lines are none =
    ap silent_note are
    ∙ silent_by first.line first.kind lines _ refl (sym (ap (list_any (λ line. is_said line.kind)) are) ∙ none_said 0 true 1 (records_of text) none)

silent_some_in : (lines : List Numbered) → list_any (λ line. is_said line.kind) lines ≡ true → silent_note lines ≡ []
silent_some_in [] some = refl
silent_some_in (first ∷ lines) some = not_silent_by first.line first.kind lines some

pub silent_some : (text : List ℕ) → (said_among (grouped_records text) ≡ [] → ⊥) → silent_note (numbered_records text) ≡ []
silent_some text some = silent_some_in (numbered_records text) (some_said 0 true 1 (records_of text) some)

-- ---- user-agent lines

filter_first : {X : Type 0} (p q : X → Bool) (x : X) (kept : List X) (of_p of_q : Bool) → p x ≡ of_p → q x ≡ of_q → (of_p ≡ true → of_q ≡ true) →
    filter p (if of_q then x ∷ kept else kept) ≡ (if of_p then x ∷ filter p kept else filter p kept)
filter_first p q x kept true true p_is q_is within = cond-true (p x) _ _ p_is
filter_first p q x kept false true p_is q_is within = cond-false (p x) _ _ p_is
filter_first p q x kept true false p_is q_is within = absurd (true≢false (sym (within refl)))
filter_first p q x kept false false p_is q_is within = refl

pub filter_within : {X : Type 0} (p q : X → Bool) → ((x : X) → p x ≡ true → q x ≡ true) → (xs : List X) → filter p (filter q xs) ≡ filter p xs
filter_within p q within [] = refl
filter_within p q within (x ∷ xs) =
    filter_first p q x (filter q xs) (p x) (q x) refl refl (within x)
    ∙ ap (λ l. if p x then x ∷ l else l) (filter_within p q within xs)

head_said : (kind : Record) (b : Bool) → (is_agent kind && b) ≡ true → is_said kind ≡ true
head_said (agent who) b is = refl
head_said (rule kind value) b is = refl
head_said other b is = absurd (true≢false (sym is))

pub names_agent : (word : List ℕ) (kind : Record) → names_token word kind ≡ true → is_agent kind ≡ true
names_agent word (agent who) is = refl
names_agent word (rule kind value) is = absurd (true≢false (sym is))
names_agent word other is = absurd (true≢false (sym is))

everybody_agent : (kind : Record) → names_everybody kind ≡ true → is_agent kind ≡ true
everybody_agent (agent who) is = refl
everybody_agent (rule kind value) is = absurd (true≢false (sym is))
everybody_agent other is = absurd (true≢false (sym is))

speaks_agent_by : (named : Bool) (word : List ℕ) (kind : Record) → (if named then names_token word kind else names_everybody kind) ≡ true → is_agent kind ≡ true
speaks_agent_by true word kind is = names_agent word kind is
speaks_agent_by false word kind is = everybody_agent kind is

pub speaks_agent : (lines : List Numbered) (word : List ℕ) (kind : Record) → speaks_to lines word kind ≡ true → is_agent kind ≡ true
speaks_agent lines word kind is = speaks_agent_by (is_named lines word) word kind is

pub agent_said : (kind : Record) → is_agent kind ≡ true → is_said kind ≡ true
agent_said (agent who) is = refl
agent_said (rule kind value) is = refl
agent_said other is = absurd (true≢false (sym is))

pub speaks_like : (text word : List ℕ) (f : Record → Bool) (said : List Grouped) → said ≡ said_among (grouped_records text) → ((kind : Record) → f kind ≡ speaks_among said word kind) → (kind : Record) → f kind ≡ speaks_to (numbered_records text) word kind
speaks_like text word f said are same kind = same kind ∙ ap (λ l. speaks_among l word kind) are ∙ speaks_said text word kind

pub groups_that_same : (f g : Record → Bool) → ((kind : Record) → f kind ≡ g kind) → (lines : List Grouped) → groups_that f lines ≡ groups_that g lines
groups_that_same f g same lines =
    ap (map (λ (line : Grouped). line.group)) (filter_agree (λ (line : Grouped). f line.kind) (λ line. g line.kind) (λ line. same line.kind) lines)

same_shown : (f g : Record → Bool) → ((kind : Record) → f kind ≡ g kind) → (lines : List Grouped) → map (shown_of f) lines ≡ map (shown_of g) lines
same_shown f g same [] = refl
same_shown f g same (line ∷ lines) =
    ap (λ (b : Bool). record { line = line.line; kind = line.kind; speaks = b } ∷ map (shown_of f) lines) (same line.kind)
    ∙ ap (λ l. shown_of g line ∷ l) (same_shown f g same lines)

pub heads_said : (text word : List ℕ) (f : Record → Bool) (groups : List ℕ) (heads : List Shown) → ((kind : Record) → f kind ≡ speaks_to (numbered_records text) word kind) →
    groups ≡ groups_that (speaks_to (numbered_records text) word) (said_among (grouped_records text)) → heads ≡ heads_in f groups (said_among (grouped_records text)) → heads ≡ agents_for (numbered_records text) word
heads_said text word f groups heads same groups_are heads_are =
    let test = speaks_to (numbered_records text) word in
    let lines = grouped_records text in
    let of_all : groups ≡ groups_that test lines =
    groups_are ∙ ap (map (λ (line : Grouped). line.group)) (filter_within (λ (line : Grouped). test line.kind) (λ line. is_said line.kind) (λ line is. agent_said line.kind (speaks_agent (numbered_records text) word line.kind is)) lines) in
    heads_are
    ∙ ap (map (shown_of f)) (filter_within (is_head_of groups) (λ line. is_said line.kind) (λ line is. head_said line.kind _ is) lines)
    ∙ same_shown f test same (filter (is_head_of groups) lines)
    ∙ ap (λ (l : List ℕ). map (shown_of test) (filter (is_head_of l) lines)) of_all
