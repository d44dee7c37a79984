-- Only one text follows the leading empty line.
-- Used by `urls_behind`.
use Rattle.std.proofs.Common.{◌≡◌, false, ℕ, List, ◌++◌, drop, slice_index, inl, inr, sym, ap, ◌∙◌, arith}
use Rattle.std.proofs.lemmas.Bool.{false≢true}
use Rattle.robots_check.specs.Input.{FollowsEmpty, UrlsFollow, begins_url}
use Rattle.robots_check.proofs.input.urls_behind.Goals as goal
use Rattle.robots_check.proofs.input.urls_behind.Goals.{in_default-via-in-Some+else-begins_url, in_default-via-in_default}

one_rest : (text one other : List ℕ) → FollowsEmpty text one → FollowsEmpty text other → one ≡ other
one_rest text one other (line, inl e, is) (other_line, inl f, so) =
    ap (drop 1) (sym (is ∙ ap (λ l. l ++ one) e) ∙ so ∙ ap (λ l. l ++ other) f)
one_rest text one other (line, inr e, is) (other_line, inr f, so) =
    ap (drop 2) (sym (is ∙ ap (λ l. l ++ one) e) ∙ so ∙ ap (λ l. l ++ other) f)
one_rest text one other (line, inl e, is) (other_line, inr f, so) =
    let first : 10 ≡ 13 = ap (λ l. slice_index l 0) (sym (is ∙ ap (λ l. l ++ one) e) ∙ so ∙ ap (λ l. l ++ other) f) in absurd (omega (arith, first))
one_rest text one other (line, inr e, is) (other_line, inl f, so) =
    let first : 13 ≡ 10 = ap (λ l. slice_index l 0) (sym (is ∙ ap (λ l. l ++ one) e) ∙ so ∙ ap (λ l. l ++ other) f) in absurd (omega (arith, first))

begins_none : (text one rest : List ℕ) → FollowsEmpty text one → begins_url one ≡ false → UrlsFollow text rest → ⊥
begins_none text one rest follows not_one follow =
    false≢true (sym not_one ∙ ap begins_url (one_rest text one rest follows follow.follow) ∙ follow.begins)

pub returns-in_default-clause-none : goal.returns-in_default-clause-none
returns-in_default-clause-none c rest follow = elim c.in_default.branch [
  | in_default-via-in-Some+else-begins_url w ↦
      begins_none c.args.text.now w.in-Some.rest.now rest w.in-Some.ensures.some (sym w.begins_url.ensures ∙ w.if-begins_url.false) follow
  | in_default-via-in_default w ↦ w.in_default.ensures.none rest follow.follow
]
