-- An authority is known exactly if it was found.
use Rattle.std.proofs.Common.{◌≡◌, ℕ, ◌≤◌, None, Option, IfNone, false, not, inl, inr, length, sym, ap, subst, arith, ◌∙◌}
use Rattle.std.specs.Map.{lookup}
use Rattle.std.specs.Str.{bytes_eq}
use Rattle.authority_cache.specs.Calls.{cannot_know}
use Rattle.authority_cache.specs.Kept.{known_in, said_entries}
use Rattle.authority_cache.proofs.FoundLaws.{empty_index, found_known, none_said}
use Rattle.authority_cache.proofs.SiteLaws.{full, knows, may_know}
use Rattle.authority_cache.proofs.SweepLaws.{apart_from}
use Rattle.authority_cache.proofs.begin.may_begin.Goals as goal

pub returns-then-found-clause-apart : goal.returns-then-found-clause-apart
returns-then-found-clause-apart c = apart_from c.args.sites.now.entries c.len.ensures.unique

pub returns-then-is_full-clause-apart : goal.returns-then-is_full-clause-apart
returns-then-is_full-clause-apart c = apart_from c.args.sites.now.entries c.len.ensures.unique

pub returns-clause-apart : goal.returns-clause-apart
returns-clause-apart c = apart_from c.args.sites.now.entries c.len.ensures.unique

pub returns-then-is_full-clause-may : goal.returns-then-is_full-clause-may
returns-then-is_full-clause-may c = λ a found.
    let es = c.args.sites.now.entries in
    let none = none_said a es (subst (λ (o : Option ℕ). IfNone o (lookup (bytes_eq a) (said_entries es) ≡ None)) (empty_index c.args.found.index c.if-is_none.ensures) found.none) in
    let over : c.args.limit ≤ length es = (let len = c.len.ensures.len in let true = c.if-is_full.true in omega (arith, len, true)) in
    (sym found.fetching ∙ c.if-found.false, full c.args.limit a es c.requires.all none over)

pub returns-clause-may : goal.returns-clause-may
returns-clause-may c = λ a found.
    let es = c.args.sites.now.entries in
    let may : cannot_know (known_in c.args.limit es) a ≡ false =
    (elim c.else-is_none.either [
      | inl w ↦ may_know c.args.limit a es c.requires.all (let len = c.len.ensures.len in omega (arith, len, w.1))
      | inr w ↦ knows c.args.limit a es (found_known c.args.limit a es c.args.found c.requires.all found (c.is_none.ensures ∙ ap not w))
    ]) in
    (sym found.fetching ∙ c.if-found.false, may)
