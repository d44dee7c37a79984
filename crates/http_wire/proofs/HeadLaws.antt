-- An input has one final head, and no fault of a head beside it.
-- RFC 9112, section 2.
use Rattle.std.proofs.Common.{◌≡◌, ◌⊎◌, ◌+◌, ℕ, Bool, true, false, List, [], ◌∷◌, ◌++◌, length, refl, sym, ap, subst, ◌∙◌, arith, append_assoc, append-nil, inl, inr}
use Rattle.std.specs.Prelude.{IsTrue, ◌||◌}
use Rattle.std.specs.List.{flat_map}
use Rattle.std.proofs.lemmas.Bool.Decides.{nat_tests}
use Rattle.std.proofs.lemmas.Bool.{false≢true}
use Rattle.std.proofs.lemmas.List.Elements.{All-head, All-tail}
use Rattle.httparse.specs.Grammar.{ResponseHead, print_response, status_code}
use Rattle.httparse.proofs.GrammarLemmas.{response_unique}
use Rattle.http_wire.specs.Heads.{AfterInterims, BeginsFinal, HasFinal, HasHead, HasInterims, HasTooManyInterim, IsBadHead, IsInterim, IsLongHead, EndsInHead, is_interim, is_final}

-- ---- one head after another

head_unique : (text : List ℕ) (h k : ResponseHead) (r q : List ℕ) → HasHead text h r → HasHead text k q → (h ≡ k) × (r ≡ q)
head_unique text h k r q a b = response_unique text h k r q (a.is.valid, a.parts) (b.is.valid, b.parts)

-- the first interim head, and those after it
record First (head : ResponseHead) (heads : List ResponseHead) (text rest : List ℕ) : Type 0 where
  middle : List ℕ
  has : HasHead text head middle
  interim : IsTrue (is_interim (status_code head))
  others : HasInterims heads middle rest

first : (head : ResponseHead) (heads : List ResponseHead) (text rest : List ℕ) → HasInterims (head ∷ heads) text rest
    → First head heads text rest
first head heads text rest has =
    let is = All-head IsInterim head heads has.are in
    record {
      middle = flat_map print_response heads ++ rest;
      has = record { is = is.is; parts = has.parts ∙ append_assoc (print_response head) (flat_map print_response heads) rest };
      interim = is.status;
      others = record { are = All-tail IsInterim head heads has.are; parts = refl };
    }

not_both : (status : ℕ) → IsTrue (is_interim status) → IsTrue (is_final status) → ⊥
not_both status interim final = grind (arith, nat_tests)

clash : (text : List ℕ) (g h : ResponseHead) (r q : List ℕ) → HasHead text g r → IsTrue (is_interim (status_code g))
    → BeginsFinal h q text → ⊥
clash text g h r q has interim final =
    let same = head_unique text g h r q has final.has in
    not_both (status_code h) (subst (λ k. IsTrue (is_interim (status_code k))) same.0 interim) final.status

-- interim heads that were skipped are among those before the final head
record Left (hs ks : List ResponseHead) (after before : List ℕ) : Type 0 where
  heads : List ResponseHead
  passed : HasInterims heads after before
  count : length hs + length heads ≡ length ks

skip : (hs ks : List ResponseHead) (text after before : List ℕ) (h : ResponseHead) (rest : List ℕ) → HasInterims hs text after
    → HasInterims ks text before → BeginsFinal h rest before → Left hs ks after before
skip [] ks text after before h rest passed all final = record {
  heads = ks;
  passed = subst (λ (t : List ℕ). HasInterims ks t before) passed.parts all;
  count = omega arith;
}
skip (g ∷ gs) [] text after before h rest passed all final =
    let one = first g gs text after passed in
    absurd (clash text g h one.middle rest one.has one.interim (subst (BeginsFinal h rest) (sym all.parts) final))
skip (g ∷ gs) (k ∷ ks) text after before h rest passed all final =
    let one = first g gs text after passed in
    let two = first k ks text before all in
    let same = head_unique text g k one.middle two.middle one.has two.has in
    let left = skip gs ks two.middle after before h rest
    (subst (λ (t : List ℕ). HasInterims gs t after) same.1 one.others) two.others final in
    record { heads = left.heads; passed = left.passed; count = omega (arith, left.count) }

-- ---- the final head

final_begun : (ms : List ResponseHead) (h k : ResponseHead) (a b r q : List ℕ) → HasInterims ms a b → BeginsFinal h r a
    → BeginsFinal k q b → (h ≡ k) × (r ≡ q)
final_begun [] h k a b r q passed here there = head_unique b h k r q (subst (λ (t : List ℕ). HasHead t h r) passed.parts here.has) there.has
final_begun (m ∷ ms) h k a b r q passed here there =
    let one = first m ms a b passed in absurd (clash a m h one.middle r one.has one.interim here)

pub final_unique : (text : List ℕ) (h k : ResponseHead) (r q : List ℕ) → HasFinal text h r → HasFinal text k q → (h ≡ k) × (r ≡ q)
final_unique text h k r q a b =
    let left = skip a.heads b.heads text a.rest b.rest k q a.passed b.passed b.fact in
    final_begun left.heads h k a.rest b.rest r q left.passed a.fact b.fact

-- ---- no fault of a head beside a final one

-- the text begins with a head that is skipped or taken
record IsTaken (text : List ℕ) : Type 0 where
  head : ResponseHead
  rest : List ℕ
  has : HasHead text head rest
  status : (is_interim (status_code head) || is_final (status_code head)) ≡ true

either : (a b : Bool) → a ≡ true ⊎ b ≡ true → (a || b) ≡ true
either true b h = refl
either false b (inl h) = cc
either false b (inr h) = h

taken : (ms : List ResponseHead) (a b : List ℕ) (h : ResponseHead) (rest : List ℕ) → HasInterims ms a b → BeginsFinal h rest b → IsTaken a
taken [] a b h rest passed final = record {
  head = h;
  rest = rest;
  has = subst (λ (t : List ℕ). HasHead t h rest) (sym passed.parts) final.has;
  status = either (is_interim (status_code h)) (is_final (status_code h)) (inr final.status);
}
taken (m ∷ ms) a b h rest passed final =
    let one = first m ms a b passed in
    record {
      head = m;
      rest = one.middle;
      has = one.has;
      status = either (is_interim (status_code m)) (is_final (status_code m)) (inl one.interim);
    }

after_taken : {Fact : List ℕ → Type 0} (text : List ℕ) (h : ResponseHead) (rest : List ℕ) (fact : AfterInterims Fact text) → HasFinal text h rest
    → IsTaken fact.rest
after_taken text h rest fact final =
    let left = skip fact.heads final.heads text fact.rest final.rest h rest fact.passed final.passed final.fact in
    taken left.heads fact.rest final.rest h rest left.passed final.fact

pub ends_in_head_excludes : (text : List ℕ) (h : ResponseHead) (rest : List ℕ) → AfterInterims EndsInHead text → HasFinal text h rest → ⊥
ends_in_head_excludes text h rest ends final =
    let is = after_taken text h rest ends final in ends.fact.none is.head is.rest (is.has.is.valid, is.has.parts)

pub long_head_excludes : (text : List ℕ) (h : ResponseHead) (rest : List ℕ) → AfterInterims IsLongHead text → HasFinal text h rest → ⊥
long_head_excludes text h rest long final =
    let is = after_taken text h rest long final in long.fact.none is.head is.rest is.has

pub bad_head_excludes : (text : List ℕ) (h : ResponseHead) (rest : List ℕ) → AfterInterims IsBadHead text → HasFinal text h rest → ⊥
bad_head_excludes text h rest bad final =
    let is = after_taken text h rest bad final in
    elim bad.fact [
      | inl never ↦ never [] is.head is.rest (is.has.is.valid, append-nil bad.rest ∙ is.has.parts)
      | inr strange ↦
          let same = head_unique bad.rest is.head strange.head is.rest strange.rest is.has strange.has in
          let status : (is_interim (status_code is.head) || is_final (status_code is.head)) ≡ false =
          ap (λ k. is_interim (status_code k) || is_final (status_code k)) same.0 ∙ strange.status in
          false≢true (sym status ∙ is.status)
    ]

pub many_interim_excludes : (text : List ℕ) (h : ResponseHead) (rest : List ℕ) → HasTooManyInterim text → HasFinal text h rest → ⊥
many_interim_excludes text h rest many final =
    let left = skip many.heads final.heads text many.rest final.rest h rest many.passed final.passed final.fact in
    omega (arith, left.count, many.many, final.few)
