-- What a look at the octets of a body tells of the whole input.
-- Used by `BodyDecoder` and `read_body`.
use Rattle.std.proofs.Common.{◌≡◌, ℕ, suc, ◌<◌, ◌≤◌, Bool, true, false, List, [], ◌∷◌, ◌++◌, length, take, drop, get_or, refl, sym, ap, subst, ◌∙◌, arith, append-nil, length-append, take-append-drop, inl, inr}
use Rattle.std.proofs.Math.Seq.{drop-cons}
use Rattle.std.proofs.lemmas.Bool.{false≢true}
use Rattle.std.proofs.lemmas.List.{drop-append-le, drop_all, take-append-le, take_all, length-take-le}
use Rattle.std.specs.Prelude.{IsTrue}
use Rattle.httparse.proofs.PieceLemmas.{front-append}
use Rattle.http_wire.specs.declared.body.Body.{Body}
use Rattle.http_wire.specs.declared.body_decoder.BodySeen.{BodySeen}
use Rattle.http_wire.specs.declared.body_decoder.BodySeen.TheVariants.{Given, Full, More}
use Rattle.http_wire.specs.declared.fault.WireFault.{WireFault}
use Rattle.http_wire.specs.declared.fault.WireFault.TheVariants.{BadChunk}
use Rattle.http_wire.specs.declared.framing.Framing.{Framing}
use Rattle.http_wire.specs.declared.framing.Framing.TheVariants.{Counted, Chunked, ToEnd}
use Rattle.http_wire.specs.Limits.{raw_limit}
use Rattle.http_wire.specs.Bodies.{Gives, GivesCounted, IsBodyPrefix, IsBadBody}
use Rattle.http_wire.specs.Chunks.{IsBadChunked}
use Rattle.http_wire.specs.Reading.{HasBody, GoesOn, HasNoBody}
use Rattle.http_wire.specs.Seeing.{GivesBody, HasFullTrailers, IsOpen, SeesBody, SeesPrefix, IsGiven, Refuses}
use Rattle.http_wire.proofs.ChunkLaws.{bad_append}

-- ---- the octets that are given

prefix_parts : (limit : ℕ) (text : List ℕ) → limit < length text → text ≡ take limit text ++ (get_or text limit 0 ∷ drop (suc limit) text)
prefix_parts limit text past =
    sym (take-append-drop limit text) ∙ ap (λ t. take limit text ++ t) (drop-cons text limit 0 past)

pub prefix_seen : (limit : ℕ) (text : List ℕ) (seen : BodySeen) → limit < length text → IsGiven (take limit text) true false seen → SeesPrefix limit text seen
prefix_seen limit text (Given body) past given =
    let next = get_or text limit 0 ∷ drop (suc limit) text in
    let parts : text ≡ body.octets.items ++ next = prefix_parts limit text past ∙ ap (λ t. t ++ next) (sym given.0) in
    record {
      cut = given.1;
      alone = given.2;
      rest = drop (suc limit) text;
      first = λ more. record {
        last = get_or text limit 0;
        parts = front-append text body.octets.items next more parts;
        full = ap length given.0 ∙ length-take-le limit text (omega arith);
      };
    }
prefix_seen limit text Full past given = absurd given
prefix_seen limit text More past given = absurd given

pub counted_cut : (size limit : ℕ) (text : List ℕ) (seen : BodySeen) → limit < size → SeesPrefix limit text seen
    → (last : Bool) → SeesBody (Counted size) limit text last seen
counted_cut size limit text (Given body) past prefix last = record {
  rest = prefix.rest;
  gives = λ more. subst (λ cut. GivesCounted size limit (text ++ more) body.octets.items cut (prefix.rest ++ more)) (sym prefix.cut) (past, prefix.first more);
  alone = λ is. absurd (false≢true (sym prefix.alone ∙ is));
}
counted_cut size limit text Full past prefix last = absurd prefix
counted_cut size limit text More past few last = λ _. (omega arith, few)

pub counted_seen : (size limit : ℕ) (text : List ℕ) (alone : Bool) (seen : BodySeen) → size ≤ limit → size ≤ length text → (IsTrue alone → length text ≡ size)
    → IsGiven (take size text) false alone seen → (last : Bool) → SeesBody (Counted size) limit text last seen
counted_seen size limit text alone (Given body) fits stand whole given last =
    let parts : text ≡ body.octets.items ++ drop size text = sym (take-append-drop size text) ∙ ap (λ t. t ++ drop size text) (sym given.0) in
    let size_is : length body.octets.items ≡ size = ap length given.0 ∙ length-take-le size text stand in
    record {
      rest = drop size text;
      gives = λ more.
          subst (λ cut. GivesCounted size limit (text ++ more) body.octets.items cut (drop size text ++ more)) (sym given.1)
          (fits, size_is, front-append text body.octets.items (drop size text) more parts);
      alone = λ is. drop_all size text (omega (arith, whole (sym given.2 ∙ is)));
    }
counted_seen size limit text alone Full fits stand whole given last = absurd given
counted_seen size limit text alone More fits stand whole given last = absurd given

pub bad_chunks : (limit start limit' start' : ℕ) (bytes : List ℕ) → limit' ≡ limit → start' ≡ start → IsBadChunked limit' (drop start' bytes)
    → Refuses Chunked limit (drop start bytes) BadChunk
bad_chunks limit start limit' start' bytes same_limit same_start bad =
    let here = subst (λ s. IsBadChunked limit' (drop s bytes)) same_start bad in
    let all = subst (λ n. IsBadChunked n (drop start bytes)) same_limit here in
    inl (refl, λ more. inl (bad_append limit (drop start bytes) more all))

-- ---- the whole input

drop_more : (start : ℕ) (bytes more : List ℕ) → start ≤ length bytes → drop start bytes ++ more ≡ drop start (bytes ++ more)
drop_more start bytes more within = sym (drop-append-le start bytes more within)

-- a body that is certain whatever follows stays with more bytes after it
pub given_past : (framing : Framing) (limit start : ℕ) (bytes more : List ℕ) (body : Body) → start ≤ length bytes → length bytes ≤ raw_limit limit
    → GivesBody framing limit (drop start bytes) body → HasBody framing limit start (bytes ++ more) body
given_past framing limit start bytes more body within few given = record {
  rest = given.rest ++ more;
  gives = subst (λ t. Gives framing limit t body.octets.items body.cut (given.rest ++ more)) (drop_more start bytes more within) (given.gives more);
  within = omega (arith, few, length-append bytes more, length-append given.rest more);
}

-- the same body, whether it is alone or not
pub same_body : (framing : Framing) (limit start : ℕ) (input : List ℕ) (body body' : Body) → body'.octets ≡ body.octets → body'.cut ≡ body.cut
    → HasBody framing limit start input body → HasBody framing limit start input body'
same_body framing limit start input body body' octets cut has = record {
  rest = has.rest;
  gives = subst (λ c. Gives framing limit (drop start input) body'.octets.items c has.rest) (sym cut)
      (subst (λ o. Gives framing limit (drop start input) o.items body.cut has.rest) (sym octets) has.gives);
  within = has.within;
}

pub refused_past : (framing : Framing) (limit start : ℕ) (bytes more : List ℕ) (fault : WireFault) → start ≤ length bytes
    → Refuses framing limit (drop start bytes) fault → HasNoBody fault framing limit start (bytes ++ more)
refused_past framing limit start bytes more fault within refuses =
    elim refuses [
      | inl bad ↦ subst (λ f. HasNoBody f framing limit start (bytes ++ more)) (sym bad.0) (subst (IsBadBody framing limit) (drop_more start bytes more within) (bad.1 more))
      | inr none ↦ subst (λ f. HasNoBody f framing limit start (bytes ++ more)) (sym none) tt
    ]

pub given_end : (framing : Framing) (limit start : ℕ) (bytes : List ℕ) (body : Body) → start ≤ length bytes → length bytes ≤ raw_limit limit
    → GivesBody framing limit (drop start bytes) body → HasBody framing limit start bytes body
given_end framing limit start bytes body within few given =
    subst (λ input. HasBody framing limit start input body) (append-nil bytes) (given_past framing limit start bytes [] body within few given)

pub refused_end : (framing : Framing) (limit start : ℕ) (bytes : List ℕ) (fault : WireFault) → start ≤ length bytes
    → Refuses framing limit (drop start bytes) fault → HasNoBody fault framing limit start bytes
refused_end framing limit start bytes fault within refuses =
    subst (HasNoBody fault framing limit start) (append-nil bytes) (refused_past framing limit start bytes [] fault within refuses)

open_prefix : (framing : Framing) (limit : ℕ) (text : List ℕ) → IsOpen framing limit text → IsBodyPrefix framing limit text
open_prefix (Counted size) limit text open' = open'
open_prefix Chunked limit text open' = inl open'
open_prefix ToEnd limit text open' = open'

full_prefix : (framing : Framing) (limit : ℕ) (text : List ℕ) → HasFullTrailers framing limit text → IsBodyPrefix framing limit text
full_prefix (Counted size) limit text full = absurd full
full_prefix Chunked limit text full = inr full
full_prefix ToEnd limit text full = absurd full

goes_on : (framing : Framing) (limit start : ℕ) (bytes more : List ℕ) → length bytes ≡ raw_limit limit → 0 < length more
    → IsBodyPrefix framing limit (drop start bytes) → GoesOn framing limit start (bytes ++ more)
goes_on framing limit start bytes more full some prefix =
    let whole : bytes ≡ take (raw_limit limit) (bytes ++ more) = sym (take-append-le (raw_limit limit) bytes more (omega arith) ∙ take_all (raw_limit limit) bytes (omega arith)) in
    record {
      more = omega (arith, full, some, length-append bytes more);
      prefix = subst (λ t. IsBodyPrefix framing limit (drop start t)) whole prefix;
    }

-- an open body goes on after the last octet that a response may have
pub open_past : (framing : Framing) (limit start : ℕ) (bytes more : List ℕ) → length bytes ≡ raw_limit limit → 0 < length more
    → IsOpen framing limit (drop start bytes) → GoesOn framing limit start (bytes ++ more)
open_past framing limit start bytes more full some open' = goes_on framing limit start bytes more full some (open_prefix framing limit (drop start bytes) open')

pub full_past : (framing : Framing) (limit start : ℕ) (bytes more : List ℕ) → length bytes ≡ raw_limit limit → 0 < length more
    → HasFullTrailers framing limit (drop start bytes) → GoesOn framing limit start (bytes ++ more)
full_past framing limit start bytes more full some lines = goes_on framing limit start bytes more full some (full_prefix framing limit (drop start bytes) lines)
