-- How a pattern spells a path, by its first octet, first wildcard or first literal.
-- Used by the answers of the matchers.
use Rattle.std.proofs.Common.{◌≡◌, ◌≤◌, ℕ, suc, ◌==◌, Bool, true, false, List, [], ◌∷◌, ◌++◌, length, sym, refl, ap, ◌∙◌, subst, append_assoc, append-nil, drop, arith, eqb-true}
use Rattle.std.specs.Prelude.{IsTrue, ◌↔◌, Option, None, Some, MatchOption, is_some}
use Rattle.std.proofs.lemmas.Bool.{cond-false, true≢false}
use Rattle.std.proofs.lemmas.List.Elements.{All-head, All-tail}
use Rattle.std.proofs.Math.Seq.{drop-append_seam}
use Rattle.path_pattern.specs.Matches.{filled, stars, Spells}
use Rattle.path_pattern.specs.Literals.{BeginsNot, HasNoStar, IsAfterFirst, IsSplitAtStar, StandsNowhere}
use Rattle.path_normal.specs.Octets.{star}

-- ---- the empty pattern

pub on_nothing : (anchored : Bool) (path : List ℕ) → (IsTrue anchored → path ≡ []) → Spells [] anchored path
on_nothing anchored path ended = record { texts = []; rest = path; as_many = refl; spelled = refl; ended = ended }

pub off_nothing : (anchored : Bool) (path : List ℕ) → Spells [] anchored path → IsTrue anchored → path ≡ []
off_nothing anchored path spells is = spells.spelled ∙ spells.ended is

-- ---- an octet that is no wildcard

filled_plain : (octet : ℕ) (pattern : List ℕ) (texts : List (List ℕ)) → (octet == star) ≡ false → filled (octet ∷ pattern) texts ≡ octet ∷ filled pattern texts
filled_plain octet pattern [] plain = refl
filled_plain octet pattern (text ∷ texts) plain = cond-false (octet == star) _ _ plain

stars_plain : (octet : ℕ) (pattern : List ℕ) → (octet == star) ≡ false → stars (octet ∷ pattern) ≡ stars pattern
stars_plain octet pattern plain = cond-false (octet == star) _ _ plain

pub on_octet : (octet : ℕ) (pattern : List ℕ) (anchored : Bool) (path : List ℕ) → (octet == star) ≡ false → Spells pattern anchored path → Spells (octet ∷ pattern) anchored (octet ∷ path)
on_octet octet pattern anchored path plain spells = record {
  texts = spells.texts;
  rest = spells.rest;
  as_many = spells.as_many ∙ sym (stars_plain octet pattern plain);
  spelled = ap (λ t. octet ∷ t) spells.spelled ∙ ap (λ t. t ++ spells.rest) (sym (filled_plain octet pattern spells.texts plain));
  ended = spells.ended;
}

pub off_octet : (octet : ℕ) (pattern : List ℕ) (anchored : Bool) (path : List ℕ) → (octet == star) ≡ false → Spells (octet ∷ pattern) anchored path → (after : List ℕ) × (path ≡ octet ∷ after) × Spells pattern anchored after
off_octet octet pattern anchored path plain spells = (
  filled pattern spells.texts ++ spells.rest,
  spells.spelled ∙ ap (λ t. t ++ spells.rest) (filled_plain octet pattern spells.texts plain),
  record {
    texts = spells.texts;
    rest = spells.rest;
    as_many = spells.as_many ∙ stars_plain octet pattern plain;
    spelled = refl;
    ended = spells.ended;
  },
)

-- ---- a wildcard

pub on_star : (front pattern : List ℕ) (anchored : Bool) (path : List ℕ) → Spells pattern anchored path → Spells (star ∷ pattern) anchored (front ++ path)
on_star front pattern anchored path spells = record {
  texts = front ∷ spells.texts;
  rest = spells.rest;
  as_many = ap suc spells.as_many;
  spelled = ap (λ t. front ++ t) spells.spelled ∙ sym (append_assoc front (filled pattern spells.texts) spells.rest);
  ended = spells.ended;
}

off_texts : (pattern : List ℕ) (anchored : Bool) (path rest : List ℕ) (texts : List (List ℕ)) → length texts ≡ suc (stars pattern) → path ≡ filled (star ∷ pattern) texts ++ rest → (IsTrue anchored → rest ≡ []) → (front after : List ℕ) × (path ≡ front ++ after) × Spells pattern anchored after
off_texts pattern anchored path rest [] many spelled ended = absurd (omega arith)
off_texts pattern anchored path rest (text ∷ texts) many spelled ended = (
  text,
  filled pattern texts ++ rest,
  spelled ∙ append_assoc text (filled pattern texts) rest,
  record { texts = texts; rest = rest; as_many = omega arith; spelled = refl; ended = ended },
)

pub off_star : (pattern : List ℕ) (anchored : Bool) (path : List ℕ) → Spells (star ∷ pattern) anchored path → (front after : List ℕ) × (path ≡ front ++ after) × Spells pattern anchored after
off_star pattern anchored path spells =
    off_texts pattern anchored path spells.rest spells.texts spells.as_many spells.spelled spells.ended

pub star_longer : (more pattern : List ℕ) (anchored : Bool) (path : List ℕ) → Spells (star ∷ pattern) anchored path → Spells (star ∷ pattern) anchored (more ++ path)
star_longer more pattern anchored path spells =
    let off = off_star pattern anchored path spells in
    subst (Spells (star ∷ pattern) anchored) (append_assoc more off.0 off.1 ∙ ap (λ t. more ++ t) (sym off.2)) (on_star (more ++ off.0) pattern anchored off.1 off.3)

-- ---- a literal

pub on_run : (literal pattern : List ℕ) (anchored : Bool) (path : List ℕ) → HasNoStar literal → Spells pattern anchored path → Spells (literal ++ pattern) anchored (literal ++ path)
on_run [] pattern anchored path plain spells = spells
on_run (octet ∷ literal) pattern anchored path plain spells =
    on_octet octet (literal ++ pattern) anchored (literal ++ path) (All-head (λ o. (o == star) ≡ false) octet literal plain) (on_run literal pattern anchored path (All-tail (λ o. (o == star) ≡ false) octet literal plain) spells)

pub off_run : (literal pattern : List ℕ) (anchored : Bool) (path : List ℕ) → HasNoStar literal → Spells (literal ++ pattern) anchored path → (after : List ℕ) × (path ≡ literal ++ after) × Spells pattern anchored after
off_run [] pattern anchored path plain spells = (path, refl, spells)
off_run (octet ∷ literal) pattern anchored path plain spells =
    let off = off_octet octet (literal ++ pattern) anchored path (All-head (λ o. (o == star) ≡ false) octet literal plain) spells in
    let more = off_run literal pattern anchored off.0 (All-tail (λ o. (o == star) ≡ false) octet literal plain) off.2 in
    (more.0, off.1 ∙ ap (λ t. octet ∷ t) more.1, more.2)

pub on_last : (literal : List ℕ) (anchored : Bool) (path rest : List ℕ) → HasNoStar literal → path ≡ literal ++ rest → (IsTrue anchored → rest ≡ []) → Spells literal anchored path
on_last literal anchored path rest plain is ended =
    let spells = on_run literal [] anchored rest plain (on_nothing anchored rest ended) in
    subst (λ pattern. Spells pattern anchored path) (append-nil literal) (subst (Spells (literal ++ []) anchored) (sym is) spells)

pub off_last : (literal : List ℕ) (anchored : Bool) (path : List ℕ) → HasNoStar literal → Spells literal anchored path → (rest : List ℕ) × (path ≡ literal ++ rest) × (IsTrue anchored → rest ≡ [])
off_last literal anchored path plain spells =
    let off = off_run literal [] anchored path plain (subst (λ pattern. Spells pattern anchored path) (sym (append-nil literal)) spells) in
    (off.0, off.1, off_nothing anchored off.0 off.2)

-- ---- a literal and a wildcard after it, at the start of the path and after a wildcard

pub on_start : (pattern literal after : List ℕ) (anchored : Bool) (path rest : List ℕ) → IsSplitAtStar pattern literal after → path ≡ literal ++ rest → Spells (star ∷ after) anchored rest → Spells pattern anchored path
on_start pattern literal after anchored path rest split is spells =
    subst (λ p. Spells p anchored path) (sym split.parts) (subst (Spells (literal ++ star ∷ after) anchored) (sym is) (on_run literal (star ∷ after) anchored rest split.plain spells))

pub off_start : (pattern literal after : List ℕ) (anchored : Bool) (path : List ℕ) → IsSplitAtStar pattern literal after → Spells pattern anchored path → (rest : List ℕ) × (path ≡ literal ++ rest) × Spells (star ∷ after) anchored rest
off_start pattern literal after anchored path split spells =
    off_run literal (star ∷ after) anchored path split.plain (subst (λ p. Spells p anchored path) split.parts spells)

pub on_first : (pattern literal after : List ℕ) (anchored : Bool) (path rest : List ℕ) → IsSplitAtStar pattern literal after → IsAfterFirst path literal rest → Spells (star ∷ after) anchored rest → Spells (star ∷ pattern) anchored path
on_first pattern literal after anchored path rest split first spells =
    let fits = on_start pattern literal after anchored (literal ++ rest) rest split refl spells in
    subst (Spells (star ∷ pattern) anchored) (sym first.stands) (on_star first.front pattern anchored (literal ++ rest) fits)

pub off_first : (pattern literal after : List ℕ) (anchored : Bool) (path rest : List ℕ) → IsSplitAtStar pattern literal after → IsAfterFirst path literal rest → Spells (star ∷ pattern) anchored path → Spells (star ∷ after) anchored rest
off_first pattern literal after anchored path rest split first spells =
    let tail = off_star pattern anchored path spells in
    let start = off_start pattern literal after anchored tail.1 split tail.3 in
    let between = first.first tail.0 start.0 (tail.2 ∙ ap (λ t. tail.0 ++ t) start.1) in
    subst (Spells (star ∷ after) anchored) (sym between.1) (star_longer between.0 after anchored start.0 start.2)

pub off_nowhere : (pattern literal after : List ℕ) (anchored : Bool) (path : List ℕ) → IsSplitAtStar pattern literal after → StandsNowhere path literal → Spells (star ∷ pattern) anchored path → ⊥
off_nowhere pattern literal after anchored path split nowhere spells =
    let tail = off_star pattern anchored path spells in
    let start = off_start pattern literal after anchored tail.1 split tail.3 in
    nowhere tail.0 start.0 (tail.2 ∙ ap (λ t. tail.0 ++ t) start.1)

-- ---- a last literal

pub rest_is : (literal path rest other : List ℕ) → path ≡ literal ++ rest → path ≡ literal ++ other → rest ≡ other
rest_is literal path rest other is is' =
    sym (drop-append_seam literal rest) ∙ ap (drop (length literal)) (sym is ∙ is') ∙ drop-append_seam literal other

empty_is : (rest : List ℕ) → (length rest == 0) ≡ true → rest ≡ []
empty_is [] is = refl
empty_is (octet ∷ rest) is = absurd (omega (arith, eqb-true (length (octet ∷ rest)) 0 is))

pub fits_open : (literal : List ℕ) (anchored : Bool) (path rest : List ℕ) → HasNoStar literal → path ≡ literal ++ rest → anchored ≡ false → Spells literal anchored path
fits_open literal anchored path rest plain is free = on_last literal anchored path rest plain is (λ bound. absurd (true≢false (sym bound ∙ free)))

pub fits_ended : (literal : List ℕ) (anchored empty : Bool) (path rest : List ℕ) → HasNoStar literal → path ≡ literal ++ rest → anchored ≡ true → empty ≡ (length rest == 0) → IsTrue empty ↔ Spells literal anchored path
fits_ended literal anchored empty path rest plain is bound tested = (
  λ none. on_last literal anchored path rest plain is (λ _. empty_is rest (sym tested ∙ none)),
  λ spells.
      let off = off_last literal anchored path plain spells in
      tested ∙ ap (λ t. length t == 0) (rest_is literal path rest off.0 is off.1 ∙ off.2 bound),
)

pub fits_nowhere : (literal : List ℕ) (anchored : Bool) (path : List ℕ) → HasNoStar literal → BeginsNot path literal → Spells literal anchored path → ⊥
fits_nowhere literal anchored path plain begins spells =
    let off = off_last literal anchored path plain spells in
    begins off.0 off.1

pub last_ended : (literal : List ℕ) (anchored ends : Bool) (path : List ℕ) → HasNoStar literal → anchored ≡ true → (IsTrue ends ↔ ((front : List ℕ) × (path ≡ front ++ literal))) → IsTrue ends ↔ Spells (star ∷ literal) anchored path
last_ended literal anchored ends path plain bound tested = (
  λ is.
      let stands = tested.0 is in
      let fits = on_last literal anchored literal [] plain (sym (append-nil literal)) (λ _. refl) in
      subst (Spells (star ∷ literal) anchored) (sym stands.1) (on_star stands.0 literal anchored literal fits),
  λ spells.
      let tail = off_star literal anchored path spells in
      let off = off_last literal anchored tail.1 plain tail.3 in
      tested.1 (tail.0, tail.2 ∙ ap (λ t. tail.0 ++ t) (off.1 ∙ ap (λ t. literal ++ t) (off.2 bound) ∙ append-nil literal)),
)

pub last_open : (literal : List ℕ) (anchored : Bool) (path : List ℕ) (found : Option (List ℕ)) → HasNoStar literal → anchored ≡ false → MatchOption found (StandsNowhere path literal) (λ rest. IsAfterFirst path literal rest) → IsTrue (is_some found) ↔ Spells (star ∷ literal) anchored path
last_open literal anchored path None plain free nowhere = (
  λ no. absurd (true≢false (sym no)),
  λ spells.
      let tail = off_star literal anchored path spells in
      let off = off_last literal anchored tail.1 plain tail.3 in
      absurd (nowhere tail.0 off.0 (tail.2 ∙ ap (λ t. tail.0 ++ t) off.1)),
)
last_open literal anchored path (Some rest) plain free first = (
  λ _.
      let fits = fits_open literal anchored (literal ++ rest) rest plain refl free in
      subst (Spells (star ∷ literal) anchored) (sym first.stands) (on_star first.front literal anchored (literal ++ rest) fits),
  λ _. refl,
)

pub last_from : (literal : List ℕ) (anchored : Bool) (path : List ℕ) (from : ℕ) (found : Option ℕ) → HasNoStar literal → anchored ≡ false → MatchOption found (StandsNowhere (drop from path) literal) (λ next. (next ≤ length path) × IsAfterFirst (drop from path) literal (drop next path)) → IsTrue (is_some found) ↔ Spells (star ∷ literal) anchored (drop from path)
last_from literal anchored path from None plain free none = last_open literal anchored (drop from path) None plain free none
last_from literal anchored path from (Some next) plain free first = last_open literal anchored (drop from path) (Some (drop next path)) plain free first.1

-- ---- all ways to cut a path

pub cuts_none_open : (pattern : List ℕ) (anchored : Bool) (path : List ℕ) → length pattern ≡ 0 → anchored ≡ false → Spells pattern anchored path
cuts_none_open [] anchored path none free = on_nothing anchored path (λ bound. absurd (true≢false (sym bound ∙ free)))
cuts_none_open (octet ∷ pattern) anchored path none free = absurd (omega arith)

pub cuts_none_ended : (pattern : List ℕ) (anchored empty : Bool) (path : List ℕ) → length pattern ≡ 0 → anchored ≡ true → empty ≡ (length path == 0) → IsTrue empty ↔ Spells pattern anchored path
cuts_none_ended [] anchored empty path none bound tested = (
  λ is. on_nothing anchored path (λ _. empty_is path (sym tested ∙ is)),
  λ spells. tested ∙ ap (λ t. length t == 0) (off_nothing anchored path spells bound),
)
cuts_none_ended (octet ∷ pattern) anchored empty path none bound tested = absurd (omega arith)

later_cut : (after : List ℕ) (anchored : Bool) (first : ℕ) (rest front back : List ℕ) → (Spells after anchored (first ∷ rest) → ⊥) → first ∷ rest ≡ front ++ back → Spells after anchored back → Spells (star ∷ after) anchored rest
later_cut after anchored first rest [] back not_here is spells = absurd (not_here (subst (Spells after anchored) (sym is) spells))
later_cut after anchored first rest (octet ∷ front) back not_here is spells =
    let same : rest ≡ front ++ back = cc in
    subst (Spells (star ∷ after) anchored) (sym same) (on_star front after anchored back spells)

pub cuts_star : (after : List ℕ) (anchored : Bool) (first : ℕ) (rest : List ℕ) → (Spells after anchored (first ∷ rest) → ⊥) → Spells (star ∷ after) anchored (first ∷ rest) → Spells (star ∷ after) anchored rest
cuts_star after anchored first rest not_here spells =
    let tail = off_star after anchored (first ∷ rest) spells in
    later_cut after anchored first rest tail.0 tail.1 not_here tail.2 tail.3

no_later_cut : (after : List ℕ) (anchored : Bool) (front back : List ℕ) → (Spells after anchored [] → ⊥) → [] ≡ front ++ back → Spells after anchored back → ⊥
no_later_cut after anchored [] back not_here is spells = not_here (subst (Spells after anchored) (sym is) spells)
no_later_cut after anchored (octet ∷ front) back not_here is spells = cc

pub cuts_star_at_end : (after : List ℕ) (anchored : Bool) → (Spells after anchored [] → ⊥) → Spells (star ∷ after) anchored [] → ⊥
cuts_star_at_end after anchored not_here spells =
    let tail = off_star after anchored [] spells in
    no_later_cut after anchored tail.0 tail.1 not_here tail.2 tail.3

pub cuts_at_end : (pattern after path : List ℕ) (anchored result : Bool) → pattern ≡ star ∷ after → length path ≡ 0 → (IsTrue result ↔ Spells after anchored path) → IsTrue result ↔ Spells pattern anchored path
cuts_at_end pattern after [] anchored true is none tested = (λ _. subst (λ p. Spells p anchored []) (sym is) (on_star [] after anchored [] (tested.0 refl)), λ _. refl)
cuts_at_end pattern after [] anchored false is none tested = (
  λ no. absurd (true≢false (sym no)),
  λ spells. absurd (cuts_star_at_end after anchored (λ here. true≢false (sym (tested.1 here))) (subst (λ p. Spells p anchored []) is spells)),
)
cuts_at_end pattern after (octet ∷ path) anchored result is none tested = absurd (omega arith)

pub cuts_here : (pattern after path : List ℕ) (anchored result : Bool) → pattern ≡ star ∷ after → (IsTrue result ↔ Spells after anchored path) → result ≡ true → Spells pattern anchored path
cuts_here pattern after path anchored result is tested holds =
    subst (λ p. Spells p anchored path) (sym is) (on_star [] after anchored path (tested.0 holds))

pub cuts_later : (pattern after path rest : List ℕ) (first : ℕ) (anchored here later : Bool) → pattern ≡ star ∷ after → path ≡ first ∷ rest → (IsTrue here ↔ Spells after anchored path) → here ≡ false → (IsTrue later ↔ Spells pattern anchored rest) → IsTrue later ↔ Spells pattern anchored path
cuts_later pattern after path rest first anchored here later is cut tested fails goes = (
  λ holds.
      let spells = subst (λ p. Spells p anchored rest) is (goes.0 holds) in
      subst (λ p. Spells p anchored path) (sym is) (subst (Spells (star ∷ after) anchored) (sym cut) (star_longer (first ∷ []) after anchored rest spells)),
  λ spells.
      let not_here : Spells after anchored (first ∷ rest) → ⊥ = λ fits. true≢false (sym (tested.1 (subst (Spells after anchored) (sym cut) fits)) ∙ fails) in
      let whole = subst (Spells (star ∷ after) anchored) cut (subst (λ p. Spells p anchored path) is spells) in
      goes.1 (subst (λ p. Spells p anchored rest) (sym is) (cuts_star after anchored first rest not_here whole)),
)
