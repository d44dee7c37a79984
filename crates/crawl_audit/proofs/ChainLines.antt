-- The lines of a chain end at their line feeds and are short enough, so no line of a chain's text is bad.
-- Used by `laws`.
use Rattle.std.proofs.Common.{◌≡◌, ℕ, ◌<◌, ◌≤◌, ◌==◌, All, Bool, false, cond, List, [], ◌∷◌, ◌++◌, length, decimal, flat_map, map, inl, inr, refl, sym, ap, subst, ◌∙◌, arith, append-nil, append_assoc, length-append, codes}
use Rattle.std.proofs.lemmas.Bool.Decides.{nat_tests}
use Rattle.std.proofs.lemmas.List.Elements.{All-append, All-cons, All-head, All-nil, All-tail}
use Rattle.permit_book.specs.declared.granted_permit.GrantedPermit.{GrantedPermit}
use Rattle.authority_cache.specs.declared.standing_answer.StandingAnswer.{StandingAnswer}
use Rattle.authority_cache.specs.declared.turn.Turn.{Turn}
use Rattle.gate_history.specs.declared.base.SlotGrant.{SlotGrant}
use Rattle.gate_history.specs.declared.entry.Entry.{Entry}
use Rattle.gate_history.specs.Base.{Base}
use Rattle.gate_history.specs.History.{History}
use Rattle.history_text.specs.declared.version.Version.{Version}
use Rattle.history_text.specs.declared.version.Version.TheVariants.{One, Two}
use Rattle.history_text.specs.BaseFields.{HasNumbers, IsGrantRow, IsPermitRow, IsTurnRow}
use Rattle.history_text.specs.Texts.{head_lines, IsText, IsTextBase, Text, text_history, text_lines, version_lines}
use Rattle.crawl_audit.specs.Chains.{AllGoOn, chain_lines, IsChain, IsFront, line_limit}
use Rattle.history_text.specs.Entries.{IsEntry}
use Rattle.crawl_audit.specs.Laws.{RightChainIsNeverBad}
use Rattle.history_text.specs.Spell.{answer_fields, entry_line}
use Rattle.crawl_audit.specs.ChainAudit.{IsAmong}
use Rattle.history_text.specs.SpellBase.{answer_line, base_lines, grant_line, lines_text, numbers_line, open_lines, permit_line, running_line, turn_line, unspent_line}
use Rattle.crawl_audit.proofs.Returning.{answer_length, digits, line_length, more, token_length}
use Rattle.crawl_audit.proofs.RowSpelling.{IsLivedRow, lived, row_feedless, shown_flight, shown_grant, shown_numbers, shown_permit, shown_standing}
use Rattle.crawl_audit.proofs.Shown.{IsShownOctet}
use Rattle.crawl_audit.proofs.Spelling.{cut_lines, HasNoFeed, no_feed, not_empty}

-- a line that ends at its line feed and is short enough
pub record IsGoodLine (line : List ℕ) : Type 0 where
  pub feedless : HasNoFeed line
  pub short : length line ≤ line_limit

-- ---- the lines of a base

good_standing : (s : StandingAnswer) → IsLivedRow s → IsGoodLine (answer_line s)
good_standing s is =
    let row = is.row in
    let authority = row.authority in
    let answer = answer_fields Two s.says s.life in
    record {
      feedless = row_feedless 72 (s.authority ∷ decimal s.turn ∷ decimal s.begun ∷ answer) (omega arith, omega arith) (shown_standing s is);
      short = omega (
        arith,
        authority.limit,
        digits s.turn row.turn,
        digits s.begun row.begun,
        answer_length Two s.says s.life row.says is.life,
        more s.authority (decimal s.turn ∷ decimal s.begun ∷ answer),
        more (decimal s.turn) (decimal s.begun ∷ answer),
        more (decimal s.begun) answer,
      );
    }

good_flight : (t : Turn) → IsTurnRow t → IsGoodLine (turn_line t)
good_flight t is =
    let authority = is.authority in
    record {
      feedless = row_feedless 73 (t.authority ∷ decimal t.turn ∷ decimal t.begun ∷ []) (omega arith, omega arith) (shown_flight t is);
      short = omega (arith, authority.limit, digits t.turn is.turn, digits t.begun is.begun, more t.authority (decimal t.turn ∷ decimal t.begun ∷ []), more (decimal t.turn) (decimal t.begun ∷ []), more (decimal t.begun) []);
    }

good_grant : (g : SlotGrant) → IsGrantRow g → IsGoodLine (grant_line g)
good_grant g is = record {
  feedless = row_feedless 76 (decimal g.slot ∷ decimal g.generation ∷ []) (omega arith, omega arith) (shown_grant g is);
  short = omega (arith, digits g.slot is.slot, digits g.generation is.generation, more (decimal g.slot) (decimal g.generation ∷ []), more (decimal g.generation) []);
}

good_permit : (letter : ℕ) → IsShownOctet letter → (p : GrantedPermit) → IsPermitRow p → IsGoodLine (permit_line (letter ∷ []) p)
good_permit letter shown p is =
    let fetch = is.fetch in
    let url = fetch.url in
    record {
      feedless = row_feedless letter (decimal p.number ∷ p.token ∷ p.url ∷ []) shown (shown_permit p is);
      short = omega (arith, digits p.number is.number, token_length p.token fetch.token, url.limit, more (decimal p.number) (p.token ∷ p.url ∷ []), more p.token (p.url ∷ []), more p.url []);
    }

good_numbers : (b : Base) → HasNumbers b → IsGoodLine (numbers_line b)
good_numbers b is = record {
  feedless = row_feedless 84 (decimal b.entries ∷ decimal b.started ∷ decimal b.begins ∷ decimal b.moment ∷ []) (omega arith, omega arith) (shown_numbers b is);
  short = omega (
    arith,
    digits b.entries is.entries,
    digits b.started is.started,
    digits b.begins is.begins,
    digits b.moment is.moment,
    more (decimal b.entries) (decimal b.started ∷ decimal b.begins ∷ decimal b.moment ∷ []),
    more (decimal b.started) (decimal b.begins ∷ decimal b.moment ∷ []),
    more (decimal b.begins) (decimal b.moment ∷ []),
    more (decimal b.moment) [],
  );
}

good_three : (a b c : ℕ) → (a == 10) ≡ false → (b == 10) ≡ false → (c == 10) ≡ false → IsGoodLine (a ∷ b ∷ c ∷ [])
good_three a b c p q r = record {
  feedless = All-cons (λ o. (o == 10) ≡ false) a (b ∷ c ∷ []) p (All-cons (λ o. (o == 10) ≡ false) b (c ∷ []) q (All-cons (λ o. (o == 10) ≡ false) c [] r (All-nil (λ o. (o == 10) ≡ false))));
  short = omega arith;
}

good_end : IsGoodLine (codes "E")
good_end = record { feedless = All-cons (λ o. (o == 10) ≡ false) 69 [] refl (All-nil (λ o. (o == 10) ≡ false)); short = omega arith }

good_map : {X : Type 0} (P : X → Type 0) (f : X → List ℕ) → ((x : X) → P x → IsGoodLine (f x)) → (xs : List X) → All P xs → All IsGoodLine (map f xs)
good_map P f good [] all = All-nil IsGoodLine
good_map P f good (x ∷ xs) all = All-cons IsGoodLine (f x) (map f xs) (good x (All-head P x xs all)) (good_map P f good xs (All-tail P x xs all))

good_base : (b : Base) → IsTextBase b → All IsGoodLine (base_lines b)
good_base b is =
    let base = is.base in
    let turns = base.turns in
    let f = is.fields in
    let ys = map running_line b.running in
    let us = map unspent_line b.unspent ++ ys in
    let ls = map grant_line b.grants ++ us in
    let ts = map turn_line b.in_flight ++ ls in
    All-cons IsGoodLine (codes "V 3") (numbers_line b ∷ (open_lines b ++ codes "E" ∷ [])) (good_three 86 32 51 refl refl refl)
    (All-cons IsGoodLine (numbers_line b) (open_lines b ++ codes "E" ∷ []) (good_numbers b f.numbers)
    (All-append IsGoodLine (open_lines b) (codes "E" ∷ [])
    (All-append IsGoodLine (map answer_line b.standing) ts (good_map IsLivedRow answer_line good_standing b.standing (lived b.standing f.standing turns.lives))
    (All-append IsGoodLine (map turn_line b.in_flight) ls (good_map IsTurnRow turn_line good_flight b.in_flight f.in_flight)
    (All-append IsGoodLine (map grant_line b.grants) us (good_map IsGrantRow grant_line good_grant b.grants f.grants)
    (All-append IsGoodLine (map unspent_line b.unspent) ys (good_map IsPermitRow unspent_line (good_permit 85 (omega arith, omega arith)) b.unspent f.unspent)
    (good_map IsPermitRow running_line (good_permit 89 (omega arith, omega arith)) b.running f.running)))))
    (All-cons IsGoodLine (codes "E") [] good_end (All-nil IsGoodLine))))

-- ---- the lines of texts

good_version : (v : Version) → All IsGoodLine (version_lines v)
good_version One = All-nil IsGoodLine
good_version Two = All-cons IsGoodLine (codes "V 2") [] (good_three 86 32 50 refl refl refl) (All-nil IsGoodLine)

good_head : (t : Text) → IsText t → All IsGoodLine (head_lines t)
good_head t is = elim is.follows [
  | inl none ↦ subst (λ (b : Base). All IsGoodLine (cond (b.entries == 0) (version_lines t.version) (base_lines b))) (sym none) (good_version t.version)
  | inr some ↦ later some.base
]
  where
    later : IsTextBase t.base → All IsGoodLine (cond (t.base.entries == 0) (version_lines t.version) (base_lines t.base))
    later base =
        let positive = base.some in
        let test : (t.base.entries == 0) ≡ false = grind (arith, nat_tests) in
        subst (λ (b : Bool). All IsGoodLine (cond b (version_lines t.version) (base_lines t.base))) (sym test) (good_base t.base base)

good_entry : (v : Version) (e : Entry) → IsEntry v e → IsGoodLine (entry_line v e)
good_entry v e is = record { feedless = no_feed v e is; short = line_length v e is }

good_text : (t : Text) → IsText t → All IsGoodLine (text_lines t)
good_text t is = All-append IsGoodLine (head_lines t) (map (entry_line t.version) t.entries) (good_head t is) (good_map (IsEntry t.version) (entry_line t.version) (good_entry t.version) t.entries is.spelled)

good_later : (h : History) (later : List Text) → AllGoOn h later → All IsGoodLine (flat_map text_lines later)
good_later h [] all = All-nil IsGoodLine
good_later h (t ∷ later) all =
    let on = all.0 in
    All-append IsGoodLine (text_lines t) (flat_map text_lines later) (good_text t on.text) (good_later (text_history t) later all.1)

good_chain : (first : Text) (later : List Text) → IsChain first later → All IsGoodLine (chain_lines first later)
good_chain first later chain = All-append IsGoodLine (text_lines first) (flat_map text_lines later) (good_text first chain.begins) (good_later (text_history first) later chain.goes_on)

good_front : (front rest : List (List ℕ)) → All IsGoodLine (front ++ rest) → All IsGoodLine front
good_front [] rest all = All-nil IsGoodLine
good_front (line ∷ front) rest all =
    All-cons IsGoodLine line front (All-head IsGoodLine line (front ++ rest) all) (good_front front rest (All-tail IsGoodLine line (front ++ rest) all))

pub good_begins : (lines : List (List ℕ)) → IsFront lines → All IsGoodLine lines
good_begins lines is = elim is.begins [
  | inl front ↦ good_front lines front.0 (subst (All IsGoodLine) front.1 (good_chain is.first is.later is.chain))
  | inr whole ↦ subst (All IsGoodLine) (sym whole) (All-append IsGoodLine (chain_lines is.first is.later) (codes "V 3" ∷ []) (good_chain is.first is.later is.chain)
      (All-cons IsGoodLine (codes "V 3") [] (good_three 86 32 51 refl refl refl) (All-nil IsGoodLine)))
]

-- ---- what follows a prefix of lines

-- the next line after a prefix of lines, and the rest
record NextLine (lines front : List (List ℕ)) (behind : List ℕ) : Type 0 where
  next : List ℕ
  rest : List (List ℕ)
  lines_are : lines ≡ front ++ next ∷ rest
  behind_is : behind ≡ (next ++ 10 ∷ []) ++ lines_text rest
  good : IsGoodLine next

next_line : (lines front : List (List ℕ)) (behind : List ℕ) → All IsGoodLine lines → All IsGoodLine front → lines_text lines ≡ lines_text front ++ behind → 0 < length behind → NextLine lines front behind
next_line [] [] behind all all' same some = absurd (omega (arith, ap length same))
next_line (line ∷ lines) [] behind all all' same some = record { next = line; rest = lines; lines_are = refl; behind_is = sym same; good = All-head IsGoodLine line lines all }
next_line [] (f ∷ front) behind all all' same some =
    absurd (not_empty f (lines_text front ++ behind) (same ∙ append_assoc (f ++ 10 ∷ []) (lines_text front) behind ∙ append_assoc f (10 ∷ []) (lines_text front ++ behind)))
next_line (line ∷ lines) (f ∷ front) behind all all' same some =
    let good = All-head IsGoodLine line lines all in
    let good' = All-head IsGoodLine f front all' in
    let cut = cut_lines line f (lines_text lines) (lines_text front ++ behind) good.feedless good'.feedless
    (sym (append_assoc line (10 ∷ []) (lines_text lines)) ∙ same ∙ append_assoc (f ++ 10 ∷ []) (lines_text front) behind ∙ append_assoc f (10 ∷ []) (lines_text front ++ behind)) in
    let n = next_line lines front behind (All-tail IsGoodLine line lines all) (All-tail IsGoodLine f front all') cut.1 some in
    record {
      next = n.next;
      rest = n.rest;
      lines_are = λ i. cut.0 i ∷ n.lines_are i;
      behind_is = n.behind_is;
      good = n.good;
    }

same_lines : (lines front : List (List ℕ)) → All IsGoodLine lines → All IsGoodLine front → lines_text lines ≡ lines_text front → lines ≡ front
same_lines [] [] all all' same = refl
same_lines [] (f ∷ front) all all' same = absurd (not_empty f (lines_text front) (same ∙ append_assoc f (10 ∷ []) (lines_text front)))
same_lines (line ∷ lines) [] all all' same = absurd (not_empty line (lines_text lines) (sym same ∙ append_assoc line (10 ∷ []) (lines_text lines)))
same_lines (line ∷ lines) (f ∷ front) all all' same =
    let good = All-head IsGoodLine line lines all in
    let good' = All-head IsGoodLine f front all' in
    let cut = cut_lines line f (lines_text lines) (lines_text front) good.feedless good'.feedless
    (sym (append_assoc line (10 ∷ []) (lines_text lines)) ∙ same ∙ append_assoc f (10 ∷ []) (lines_text front)) in
    let rest = same_lines lines front (All-tail IsGoodLine line lines all) (All-tail IsGoodLine f front all') cut.1 in
    λ i. cut.0 i ∷ rest i

pub all_after : (P : List ℕ → Type 0) (front rest : List (List ℕ)) → All P (front ++ rest) → All P rest
all_after P [] rest all = all
all_after P (line ∷ front) rest all = all_after P front rest (All-tail P line (front ++ rest) all)

pub right_chain : RightChainIsNeverBad
right_chain schemes first later line chain few among bad = by bad.behind refl
  where
    by : (b : List ℕ) → bad.behind ≡ b → ⊥
    by [] none =
        bad.whole none first later chain
        (same_lines (chain_lines first later) bad.front (good_chain first later chain) (good_begins bad.front bad.before) (bad.text_is ∙ ap (λ k. lines_text bad.front ++ k) none ∙ append-nil (lines_text bad.front)))
    by (o ∷ behind) is =
        let n = next_line (chain_lines first later) bad.front bad.behind (good_chain first later chain) (good_begins bad.front bad.before) bad.text_is (omega (arith, ap length is)) in
        let good = n.good in
        let long = ap length n.lines_are in
        bad.bad n.next (lines_text n.rest) good.short n.behind_is (All-head (IsAmong schemes) n.next n.rest (all_after (IsAmong schemes) bad.front (n.next ∷ n.rest) (subst (All (IsAmong schemes)) n.lines_are among))) (record {
          first = first;
          later = later;
          chain = chain;
          begins = inl (n.rest, n.lines_are ∙ sym (append_assoc bad.front (n.next ∷ []) n.rest));
          few = omega (arith, long, length-append bad.front (n.next ∷ n.rest), length-append bad.front (n.next ∷ []));
        })
