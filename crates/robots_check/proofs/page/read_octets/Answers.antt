-- A text is read unchanged, and other octets are no URL.
-- Used by `read_octets`.
use Rattle.std.specs.Prelude.{Result}
use Rattle.std.proofs.Common.{◌≡◌, refl, true, false, ℕ, Bool, List, Ok, Err, None, sym, ◌∙◌, ap}
use Rattle.std.proofs.lemmas.Bool.{cond-false, cond-true}
use Rattle.std.proofs.lemmas.Str.{is_utf8-from_IsUtf8, IsUtf8-from_is_utf8}
use Rattle.std.specs.Str.{is_utf8, IsUtf8}
use Rattle.path_normal.specs.Capacity.{Enough, IsReadWith}
use Rattle.path_normal.specs.PageUrl.{page_url_from}
use Rattle.path_normal.specs.declared.fault.Unread.{Unread}
use Rattle.path_normal.specs.declared.fault.Unread.TheVariants as unread
use Rattle.robots_check.specs.Targets.{IsReadAs, page_read}
use Rattle.robots_check.proofs.page.read_octets.Goals as goal

text_read : (octets text : List ℕ) → text ≡ octets → IsUtf8 octets → (result : Result (List ℕ) Unread) → IsReadWith result (page_url_from None text) → IsReadAs (page_read octets) result
text_read octets text is utf8 (Ok page) reads = cond-true _ _ _ (is_utf8-from_IsUtf8 octets utf8) ∙ ap (λ t. page_url_from None t Enough) (sym is) ∙ reads
text_read octets text is utf8 (Err (unread.Fault fault)) reads = cond-true _ _ _ (is_utf8-from_IsUtf8 octets utf8) ∙ ap (λ t. page_url_from None t Enough) (sym is) ∙ reads
text_read octets text is utf8 (Err unread.Overflow) reads = tt
text_read octets text is utf8 (Err unread.NoMemory) reads = tt

not_utf8 : (octets : List ℕ) (b : Bool) → is_utf8 octets ≡ b → (IsUtf8 octets → ⊥) → is_utf8 octets ≡ false
not_utf8 octets true is never = absurd (never (IsUtf8-from_is_utf8 octets is))
not_utf8 octets false is never = is

pub returns-in-Ok : goal.returns-in-Ok
returns-in-Ok c = text_read c.args.octets.now c.in-Ok.text.now c.in-Ok.ensures.cases.0 c.in-Ok.ensures.cases.1 c.read.result c.read.ensures.answer

pub returns-in-Err : goal.returns-in-Err
returns-in-Err c = cond-false _ _ _ (not_utf8 c.args.octets.now _ refl c.in-Err.ensures.cases.0)
