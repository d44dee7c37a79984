-- A prefix of the octets is a prefix of the text.
use Rattle.std.proofs.Common.{◌≡◌, ℕ, true, List, [], ◌∷◌, flat_map, refl, sym, ap, ◌∙◌, arith}
use Rattle.std.specs.List.{list_all}
use Rattle.std.specs.Char.{to_ascii_lowercase}
use Rattle.std.proofs.lemmas.Bool.{and_parts}
use Rattle.std.proofs.lemmas.Bool.Decides.{nat_tests}
use Rattle.counted_io.specs.Device.{one_more}
use Rattle.line_text.specs.Escapes.{is_as_is, spelled_octet}
use Rattle.line_text.specs.declared.octets.Spelling.{Spelling}
use Rattle.line_text.specs.declared.octets.Spelling.TheVariants.{LowerCase, Escaped, Body}
use Rattle.line_text.proofs.Pushing.{row_more, row_cut, pushes_cut}
use Rattle.line_text.proofs.octets.Spelling.push.Goals as goal

octet_as_is : (spelling : Spelling) (octet : ℕ) → is_as_is spelling octet ≡ true → spelled_octet spelling octet ≡ octet ∷ []
octet_as_is LowerCase octet is =
    let same : to_ascii_lowercase octet ≡ octet = grind (arith, nat_tests) in
    ap (λ n. n ∷ []) same
octet_as_is Escaped octet is = rw is refl
octet_as_is Body octet is = rw is refl

as_is : (spelling : Spelling) (octets : List ℕ) → list_all (is_as_is spelling) octets ≡ true → flat_map (spelled_octet spelling) octets ≡ octets
as_is spelling [] all = refl
as_is spelling (octet ∷ octets) all =
    let parts = and_parts (is_as_is spelling octet) (list_all (is_as_is spelling) octets) all in
    rw (octet_as_is spelling octet parts.0) (ap (λ l. octet ∷ l) (as_is spelling octets parts.1))

pub returns-then-are_as_is : goal.returns-then-are_as_is
returns-then-are_as_is g c =
    rw (as_is c.args.self c.args.octets.now (sym c.are_as_is.ensures ∙ c.if-are_as_is.true)) c.push.ensures.pushes

pub returns-in_err-push_octet : goal.returns-in_err-push_octet
returns-in_err-push_octet g c =
    pushes_cut _ _ _ _ _ _ _ c.from_residual.result c.from_residual.ensures.0
    (row_cut (spelled_octet c.args.self) c.args.octets.now c.loop-octet.octet-index _ _ _ _ c.args.output.now _ c.loop-octet-test.true c.loop-octet.invariant.0 c.in_err-push_octet.ensures.err)
    (c.in_err-push_octet.ensures.count ∙ ap one_more c.loop-octet.invariant.1)

pub loop-octet-preserved : goal.loop-octet-preserved
loop-octet-preserved g c = (
  row_more (spelled_octet c.args.self) c.args.octets.now c.loop-octet.octet-index _ _ _ _ c.args.output.now _ _ c.loop-octet-test.true c.loop-octet.invariant.0 c.in_ok-push_octet.ensures.ok,
  c.in_ok-push_octet.ensures.count ∙ c.loop-octet.invariant.1,
)
