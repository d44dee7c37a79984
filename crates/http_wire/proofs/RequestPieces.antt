-- The pieces of a request, and what is written of them if a write fails.
-- Used by `write_get_with` and `write_pieces`.
use Rattle.std.proofs.Common.{◌≡◌, ℕ, suc, ◌+◌, ◌<◌, List, [], ◌∷◌, ◌++◌, length, take, drop, get_or, min, refl, sym, ap, subst, ◌∙◌, arith, append_assoc, take-append-drop, Option, Some, None}
use Rattle.std.specs.Prelude.{codes}
use Rattle.std.specs.Borrow.{Bor}
use Rattle.std.specs.Io.KnownBytes.{Appends}
use Rattle.std.proofs.KnownBytes.{Appends-trans}
use Rattle.std.proofs.Math.Seq.{drop-cons, take-append-add}
use Rattle.std.proofs.lemmas.Grind.{flat_map-append}
use Rattle.std.proofs.lemmas.List.{take_min, take-append-le}
use Rattle.httparse.specs.Ascii.{crlf_bytes}
use Rattle.counted_io.specs.Device.{AppendsPrefix}
use Rattle.http_wire.specs.Request.{closing_value, joined_pieces, request_with, request_line, field_line, field_line_if, line_after}
use Rattle.http_wire.specs.declared.ending.ConnectionEnding.{ConnectionEnding}
use Rattle.http_wire.specs.declared.forwarded_fields.ForwardedFields.{ForwardedFields}
use Rattle.http_wire.specs.declared.request.FieldLine.{FieldLine}

-- ---- the pieces

-- the lines after the agent's, and what follows the agent's value, before the rest
abbrev pub last_lines : List ℕ → List ℕ
last_lines rest =
    field_line (codes "Accept") (codes "*/*")
    ++ (field_line (codes "Accept-Encoding") (codes "identity") ++ rest)

abbrev pub after_agent : List ℕ → List ℕ
after_agent rest = crlf_bytes ++ last_lines rest

-- the text between the target and the authority, and between the authority and the agent's value
abbrev pub before_authority : List ℕ
before_authority = codes " HTTP/1.1" ++ (crlf_bytes ++ codes "Host: ")

abbrev pub before_agent : List ℕ
before_agent = crlf_bytes ++ codes "User-Agent: "

request_joined : (target authority agent t a g rest : List ℕ) → t ≡ target → a ≡ authority → g ≡ agent
    → codes "GET " ++ (t ++ (before_authority ++ (a ++ (before_agent ++ (g ++ after_agent rest)))))
    ≡ request_line target ++ (field_line (codes "Host") authority ++ (field_line (codes "User-Agent") agent ++ last_lines rest))
request_joined target authority agent t a g rest is_target is_authority is_agent =
    let agent_line = field_line (codes "User-Agent") agent ++ last_lines rest in
    let host_line = field_line (codes "Host") authority ++ agent_line in
    let behind_agent : agent_line ≡ codes "User-Agent: " ++ (agent ++ after_agent rest) = ap (λ s. codes "User-Agent: " ++ s) (append_assoc agent crlf_bytes (last_lines rest)) in
    let behind_authority : host_line ≡ codes "Host: " ++ (authority ++ (crlf_bytes ++ agent_line)) = ap (λ s. codes "Host: " ++ s) (append_assoc authority crlf_bytes agent_line) in
    let behind_target : request_line target ++ host_line ≡ codes "GET " ++ (target ++ (before_authority ++ (authority ++ (crlf_bytes ++ agent_line)))) = ap (λ s. codes "GET " ++ s) (append_assoc target (codes " HTTP/1.1" ++ crlf_bytes) host_line)
    ∙ ap (λ s. codes "GET " ++ (target ++ (codes " HTTP/1.1" ++ (crlf_bytes ++ s)))) behind_authority in
    let whole : request_line target ++ host_line ≡ codes "GET " ++ (target ++ (before_authority ++ (authority ++ (before_agent ++ (agent ++ after_agent rest))))) = behind_target ∙ ap (λ s. codes "GET " ++ (target ++ (before_authority ++ (authority ++ (crlf_bytes ++ s))))) behind_agent in
    (λ i. codes "GET " ++ (is_target i ++ (before_authority ++ (is_authority i ++ (before_agent ++ (is_agent i ++ after_agent rest)))))) ∙ sym whole

-- the pieces of a line, and the line
abbrev pub pieces_of : FieldLine → List ℕ → List ℕ
pieces_of line rest = line.begin.now ++ (line.value.now ++ (line.end.now ++ rest))

abbrev pub IsLine : FieldLine → List ℕ → Type 0
IsLine line octets = line.begin.now ++ (line.value.now ++ line.end.now) ≡ octets

line_joined : (line : FieldLine) (octets rest rest' : List ℕ) → IsLine line octets → rest ≡ rest' → pieces_of line rest ≡ octets ++ rest'
line_joined line octets rest rest' is same =
    ap (λ s. line.begin.now ++ s) (sym (append_assoc line.value.now line.end.now rest))
    ∙ sym (append_assoc line.begin.now (line.value.now ++ line.end.now) rest)
    ∙ (λ i. is i ++ same i)

line_is : (name begin : List ℕ) (value : Option (List ℕ)) → begin ≡ name ++ codes ": " → line_after begin value ≡ field_line_if name value
line_is name begin None is = refl
line_is name begin (Some value) is = ap (λ s. s ++ (value ++ crlf_bytes)) is ∙ append_assoc name (codes ": ") (value ++ crlf_bytes)

pub request_with_joined : (ending : ConnectionEnding) (fields : ForwardedFields) (target authority agent t a g : List ℕ) (tags since types languages closing : FieldLine)
    → t ≡ target → a ≡ authority → g ≡ agent
    → IsLine tags (line_after (codes "If-None-Match: ") fields.if_none_match)
    → IsLine since (line_after (codes "If-Modified-Since: ") fields.if_modified_since)
    → IsLine types (line_after (codes "Accept: ") fields.accept)
    → IsLine languages (line_after (codes "Accept-Language: ") fields.accept_language)
    → IsLine closing (line_after (codes "Connection: ") (closing_value ending))
    → codes "GET " ++ (t ++ (before_authority ++ (a ++ (before_agent ++ (g ++ after_agent
    (pieces_of tags (pieces_of since (pieces_of types (pieces_of languages (pieces_of closing (crlf_bytes ++ [])))))))))))
    ≡ request_with ending fields target authority agent
request_with_joined ending fields target authority agent t a g tags since types languages closing is_target is_authority is_agent is_tags is_since is_types is_languages is_closing =
    let from_closing : pieces_of closing (crlf_bytes ++ []) ≡ field_line_if (codes "Connection") (closing_value ending) ++ crlf_bytes =
    line_joined closing _ (crlf_bytes ++ []) crlf_bytes (is_closing ∙ line_is (codes "Connection") _ (closing_value ending) refl) refl in
    let end = line_joined languages _ _ _ (is_languages ∙ line_is (codes "Accept-Language") _ fields.accept_language refl) from_closing in
    let from_types = line_joined types _ _ _ (is_types ∙ line_is (codes "Accept") _ fields.accept refl) end in
    let from_since = line_joined since _ _ _ (is_since ∙ line_is (codes "If-Modified-Since") _ fields.if_modified_since refl) from_types in
    let from_tags = line_joined tags _ _ _ (is_tags ∙ line_is (codes "If-None-Match") _ fields.if_none_match refl) from_since in
    request_joined target authority agent t a g _ is_target is_authority is_agent
    ∙ ap (λ rest. request_line target ++ (field_line (codes "Host") authority ++ (field_line (codes "User-Agent") agent ++ last_lines rest))) from_tags

-- ---- a write that fails

pieces_at : (pieces : List (Bor (List ℕ))) (i : ℕ) (d : Bor (List ℕ)) → i < length pieces
    → joined_pieces pieces ≡ joined_pieces (take i pieces) ++ ((get_or pieces i d).now ++ joined_pieces (drop (suc i) pieces))
pieces_at pieces i d inside =
    let split : pieces ≡ take i pieces ++ (get_or pieces i d ∷ drop (suc i) pieces) = sym (take-append-drop i pieces) ∙ ap (λ t. take i pieces ++ t) (drop-cons pieces i d inside) in
    ap joined_pieces split ∙ flat_map-append (λ (piece : Bor (List ℕ)). piece.now) (take i pieces) (get_or pieces i d ∷ drop (suc i) pieces)

prefix_more : (first second rest : List ℕ) (n : ℕ) → take (length first + min n (length second)) (first ++ (second ++ rest)) ≡ first ++ take n second
prefix_more first second rest n =
    take-append-add first (second ++ rest) (min n (length second))
    ∙ ap (λ t. first ++ t) (take-append-le (min n (length second)) second rest (omega arith) ∙ take_min n second)

-- what was written up to a failed piece is a prefix of all the pieces
pub cut_piece : (old mid new : Option (List ℕ)) (pieces : List (Bor (List ℕ))) (i : ℕ) (d : Bor (List ℕ)) → i < length pieces
    → Appends old mid (joined_pieces (take i pieces)) → AppendsPrefix mid new (get_or pieces i d).now → AppendsPrefix old new (joined_pieces pieces)
cut_piece old mid new pieces i d inside before part =
    let first = joined_pieces (take i pieces) in
    let piece = (get_or pieces i d).now in
    let rest = joined_pieces (drop (suc i) pieces) in
    let n = length first + min part.0 (length piece) in
    let prefix : first ++ take part.0 piece ≡ take n (joined_pieces pieces) = sym (ap (take n) (pieces_at pieces i d inside) ∙ prefix_more first piece rest part.0) in
    (n, subst (Appends old new) prefix (Appends-trans old mid new first (take part.0 piece) before part.1))
