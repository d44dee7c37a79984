-- An input gives one reply, and no fault besides but the device's and memory's.
-- Used by `read_response`.
use Rattle.std.proofs.Common.{◌≡◌, ◌⊎◌, ℕ, List, [], ◌∷◌, ◌++◌, length, take, drop, Option, Some, None, Result, Ok, Err, refl, sym, ap, subst, ◌∙◌, arith, length-append, length-take, take-append-drop, inl, inr}
use Rattle.std.proofs.lemmas.Bool.{false≢true}
use Rattle.std.proofs.Math.Seq.{take-append_seam}
use Rattle.httparse.specs.Grammar.{ResponseHead, print_response, status_code}
use Rattle.http_wire.specs.Bodies.{Gives, InBody, IsBodyPrefix}
use Rattle.http_wire.specs.Fields.{framing_of, IsFirstText, IsLocation}
use Rattle.http_wire.specs.Freshness.{HasMaxAge}
use Rattle.http_wire.specs.Heads.{HasFinal, head_fields}
use Rattle.http_wire.specs.Response.{AnswersRead, AtFinal, Cause, Finds, GivesOrStops, GivesReply, HasBadLength, IsInCoding, IsTooMuch, Reply, Response, Tells, reply_of}
use Rattle.http_wire.specs.declared.fault.WireFault.{WireFault}
use Rattle.http_wire.specs.declared.fault.WireFault.TheVariants.{EarlyEnd, BadHead, HeadTooLong, TooManyInterim, BadLength, BadChunk, Coding, Device, NoMemory, TooMuch}
use Rattle.http_wire.specs.declared.framing.Framing.{Framing}
use Rattle.http_wire.specs.declared.framing.Unframed.{Unframed}
use Rattle.http_wire.specs.Limits.{raw_limit}
use Rattle.http_wire.specs.declared.response.HttpReply.{HttpReply}
use Rattle.http_wire.proofs.BodyLaws.{body_unique, body_ends, body_bad, body_prefix}
use Rattle.http_wire.proofs.HeadFacts.{final_append}
use Rattle.http_wire.proofs.HeadLaws.{final_unique, ends_in_head_excludes, long_head_excludes, bad_head_excludes, many_interim_excludes}
use Rattle.http_wire.proofs.MaxAges.{tells_unique}

-- ---- one reply

first_text_unique : (values : List (List ℕ)) (a b : Option (List ℕ)) → IsFirstText values a → IsFirstText values b → a ≡ b
first_text_unique [] a b x y = x ∙ sym y
first_text_unique (value ∷ values) None None x y = refl
first_text_unique (value ∷ values) None (Some b) x y = absurd (x y.0)
first_text_unique (value ∷ values) (Some a) None x y = absurd (y x.0)
first_text_unique (value ∷ values) (Some a) (Some b) x y = ap Some (x.1 ∙ sym y.1)

same_framing : (h k : ResponseHead) (f e : Framing) → h ≡ k → framing_of (status_code h) (head_fields h) ≡ Ok f
    → framing_of (status_code k) (head_fields k) ≡ Ok e → f ≡ e
same_framing h k f e same x y =
    let both : ◌≡◌ {A = Result Framing Unframed} (Ok f) (Ok e) =
    sym x ∙ ap (λ head. framing_of (status_code head) (head_fields head)) same ∙ y in
    cc

pub reply_unique : (input : List ℕ) (limit : ℕ) (a b : Reply) → Response input limit a → Response input limit b → a ≡ b
reply_unique input limit a b x y =
    let p = x.gives in
    let q = y.gives in
    let heads = final_unique input p.head q.head p.text q.text p.final q.final in
    let framing = same_framing p.head q.head p.framing q.framing heads.0 p.framed q.framed in
    let gives = subst (λ (t : List ℕ). Gives q.framing limit t a.body a.cut x.rest) heads.1
    (subst (λ f. Gives f limit p.text a.body a.cut x.rest) framing p.gives) in
    let bodies = body_unique q.framing limit q.text a.body b.body a.cut b.cut x.rest y.rest gives q.gives in
    let status : a.status ≡ b.status = p.status ∙ ap status_code heads.0 ∙ sym q.status in
    let location : a.location ≡ b.location =
    first_text_unique _ a.location b.location
    (subst (λ head. IsLocation (head_fields head) a.location) heads.0 p.location) q.location in
    let max_age : a.max_age ≡ b.max_age =
    tells_unique _ a.max_age b.max_age
    (subst (λ head. HasMaxAge (head_fields head) a.max_age) heads.0 p.max_age) q.max_age in
    let octets : a.head ≡ b.head = p.octets ∙ ap print_response heads.0 ∙ sym q.octets in
    λ i. record { status = status i; location = location i; max_age = max_age i; head = octets i; body = bodies.0 i; cut = bodies.1 i }

-- ---- no fault beside a reply

own_body : {Fact : Framing → List ℕ → Type 0} (input : List ℕ) (limit : ℕ) (reply : Reply) (rest : List ℕ) (gives : GivesReply input limit reply rest)
    → InBody Fact input → Fact gives.framing gives.text
own_body {Fact} input limit reply rest gives body =
    let heads = final_unique input body.head gives.head body.text gives.text body.final gives.final in
    let framing = same_framing body.head gives.head body.framing gives.framing heads.0 body.framed gives.framed in
    subst (Fact gives.framing) heads.1 (subst (λ f. Fact f body.text) framing body.fact)

own_head : {Fact : ResponseHead → Type 0} (input : List ℕ) (limit : ℕ) (reply : Reply) (rest : List ℕ) (gives : GivesReply input limit reply rest)
    → AtFinal Fact input → Fact gives.head
own_head {Fact} input limit reply rest gives at =
    subst Fact (final_unique input at.head gives.head at.text gives.text at.final gives.final).0 at.fact

not_unframed : (result : Result Framing Unframed) (framing : Framing) (why : Unframed) → result ≡ Ok framing → result ≡ Err why → ⊥
not_unframed result framing why ok err =
    let both : ◌≡◌ {A = Result Framing Unframed} (Ok framing) (Err why) = sym ok ∙ err in cc

too_much_excludes : (input : List ℕ) (limit : ℕ) (reply : Reply) → Response input limit reply → IsTooMuch input limit → ⊥
too_much_excludes input limit reply response much =
    let gives = response.gives in
    let prefix = much.prefix in
    let most = raw_limit limit in
    let behind = drop most input in
    let whole : take most input ++ behind ≡ input = take-append-drop most input in
    let final : HasFinal input prefix.head (prefix.text ++ behind) =
    subst (λ (t : List ℕ). HasFinal t prefix.head (prefix.text ++ behind)) whole
    (final_append (take most input) prefix.head prefix.text behind prefix.final) in
    let heads = final_unique input prefix.head gives.head (prefix.text ++ behind) gives.text final gives.final in
    let framing = same_framing prefix.head gives.head prefix.framing gives.framing heads.0 prefix.framed gives.framed in
    let n = length prefix.text in
    let cut : take n gives.text ≡ prefix.text = ap (take n) (sym heads.1) ∙ take-append_seam prefix.text behind in
    let lengths = ap length heads.1 in
    let sum = length-append prefix.text behind in
    let total = ap length whole in
    let parts = length-append (take most input) behind in
    let taken = length-take most input in
    body_prefix gives.framing limit n gives.text reply.body reply.cut response.rest
    (subst (λ (t : List ℕ). IsBodyPrefix gives.framing limit t) (sym cut) (subst (λ f. IsBodyPrefix f limit prefix.text) framing prefix.fact))
    (omega (arith, much.more, lengths, sum, total, parts, taken))
    (omega (arith, response.within, much.more, lengths, sum, total, parts, taken))
    gives.gives

-- beside a reply only memory and the device can fail
pub cause_excludes : (input : List ℕ) (limit : ℕ) (reply : Reply) (fault : WireFault) → Response input limit reply → Cause fault input limit
    → (fault ≡ Device) ⊎ (fault ≡ NoMemory)
cause_excludes input limit reply EarlyEnd response (inl ends) =
    absurd (ends_in_head_excludes input response.gives.head response.gives.text ends response.gives.final)
cause_excludes input limit reply EarlyEnd response (inr ends) =
    let gives = response.gives in
    absurd (body_ends gives.framing limit gives.text reply.body reply.cut response.rest (own_body input limit reply response.rest gives ends) gives.gives)
cause_excludes input limit reply BadHead response bad =
    absurd (bad_head_excludes input response.gives.head response.gives.text bad response.gives.final)
cause_excludes input limit reply HeadTooLong response long =
    absurd (long_head_excludes input response.gives.head response.gives.text long response.gives.final)
cause_excludes input limit reply TooManyInterim response many =
    absurd (many_interim_excludes input response.gives.head response.gives.text many response.gives.final)
cause_excludes input limit reply BadLength response bad =
    let gives = response.gives in
    absurd (not_unframed _ gives.framing _ gives.framed (own_head {Fact = HasBadLength} input limit reply response.rest gives bad))
cause_excludes input limit reply BadChunk response bad =
    let gives = response.gives in
    absurd (body_bad gives.framing limit gives.text reply.body reply.cut response.rest (own_body input limit reply response.rest gives bad) gives.gives)
cause_excludes input limit reply Coding response coding =
    let gives = response.gives in
    absurd (elim (own_head {Fact = IsInCoding} input limit reply response.rest gives coding) [
      | inl coded ↦ false≢true (sym gives.uncoded ∙ coded)
      | inr other ↦ not_unframed _ gives.framing _ gives.framed other
    ])
cause_excludes input limit reply Device response cause = inl refl
cause_excludes input limit reply NoMemory response cause = inr refl
cause_excludes input limit reply TooMuch response much = absurd (too_much_excludes input limit reply response much)

-- ---- what is answered is what is there

gives_or_stops : (input : List ℕ) (limit : ℕ) (reply : Reply) (result : Result HttpReply WireFault) → Response input limit reply
    → AnswersRead input limit result → GivesOrStops reply result
gives_or_stops input limit reply (Ok given) response answers = reply_unique input limit (reply_of given) reply answers response
gives_or_stops input limit reply (Err fault) response cause = cause_excludes input limit reply fault response cause

pub finds : (left : Option (List ℕ)) (limit : ℕ) (result : Result HttpReply WireFault) → Tells left limit result → Finds left limit result
finds None limit result tells = tt
finds (Some octets) limit result tells = λ reply response.
    gives_or_stops octets limit reply result response
    (subst (λ (t : List ℕ). AnswersRead t limit result) (sym tells.whole) tells.answers)
