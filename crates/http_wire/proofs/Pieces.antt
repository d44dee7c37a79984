-- The pieces of a list between commas.
-- Used by `split_member` and for the members of a list.
use Rattle.std.proofs.Common.{◌≡◌, refl, ◌==◌, List, ◌∷◌, [], ◌++◌, ℕ, false, map, ap, ◌∙◌, cond}
use Rattle.std.proofs.lemmas.List.Elements.{All-head, All-tail}
use Rattle.http_wire.specs.Fields.{pieces, onto_first, members}
use Rattle.httparse.specs.Grammar.{trim_ows}
use Rattle.http_wire.specs.Left.{HasNoComma}

abbrev is_plain : ℕ → Type 0
is_plain octet = (octet == 44) ≡ false

step : (octet : ℕ) (text : List ℕ) → is_plain octet → pieces (octet ∷ text) ≡ onto_first octet (pieces text)
step octet text plain = ap (λ test. cond test ([] ∷ pieces text) (onto_first octet (pieces text))) plain

pieces_whole : (text : List ℕ) → HasNoComma text → pieces text ≡ text ∷ []
pieces_whole [] plain = refl
pieces_whole (octet ∷ text) plain =
    step octet text (All-head is_plain octet text plain)
    ∙ ap (onto_first octet) (pieces_whole text (All-tail is_plain octet text plain))

pieces_split : (prefix after : List ℕ) → HasNoComma prefix → pieces (prefix ++ 44 ∷ after) ≡ prefix ∷ pieces after
pieces_split [] after plain = refl
pieces_split (octet ∷ prefix) after plain =
    step octet (prefix ++ 44 ∷ after) (All-head is_plain octet prefix plain)
    ∙ ap (onto_first octet) (pieces_split prefix after (All-tail is_plain octet prefix plain))

pub members_whole : (text : List ℕ) → HasNoComma text → members text ≡ trim_ows text ∷ []
unfolding members
members_whole text plain = ap (map trim_ows) (pieces_whole text plain)

pub members_split : (prefix after : List ℕ) → HasNoComma prefix
    → members (prefix ++ 44 ∷ after) ≡ trim_ows prefix ∷ members after
unfolding members
members_split prefix after plain = ap (map trim_ows) (pieces_split prefix after plain)
