-- What the reading of a body tells at each of its ends.
-- Used by `read_body`.
use Rattle.std.proofs.Common.{◌⊎◌, inl, inr, ◌≡◌, ◌∙◌, ℕ, ◌<◌, ◌≤◌, Bool, false, List, [], ◌++◌, length, drop, append-nil, sym, subst, Option, Result, Ok, Err}
use Rattle.std.proofs.lemmas.Bool.{false≢true}
use Rattle.std.specs.Prelude.{IsTrue}
use Rattle.http_wire.specs.Bodies.{Gives}
use Rattle.http_wire.specs.declared.body.Body.{Body}
use Rattle.http_wire.specs.declared.body_decoder.BodyDecoder.{BodyDecoder}
use Rattle.http_wire.specs.declared.fault.WireFault.{WireFault}
use Rattle.http_wire.specs.declared.fault.WireFault.TheVariants.{Device, NoMemory}
use Rattle.http_wire.specs.declared.framing.Framing.{Framing}
use Rattle.http_wire.specs.Limits.{raw_limit}
use Rattle.http_wire.specs.Parts.{Breaks, EndsWaiting, GoesOnWaiting, IsFoundIn}
use Rattle.http_wire.specs.Reading.{EndsWith, Grows, IsWhole, HasNoBody, TellsBody, ReadsBody}
use Rattle.http_wire.specs.Seeing.{GivesBody, Refuses, framing_in}
use Rattle.http_wire.proofs.BodyLooks.{given_past, refused_past}
use Rattle.http_wire.proofs.SourceReads.{ahead, whole_now, whole_before, whole_ended, whole_past}

-- the decoder is for the body that is read
pub record IsFor (framing : Framing) (limit start : ℕ) (decoder : BodyDecoder) : Type 0 where
  pub framing_is : framing_in decoder ≡ framing
  pub limit_is : decoder.limit ≡ limit
  pub start_is : decoder.start ≡ start

-- the octets give the body from the decoder's start, or refuse it
abbrev pub GivesThere : BodyDecoder → List ℕ → Body → Type 0
GivesThere decoder seen body = (decoder.start ≤ length seen) × GivesBody (framing_in decoder) decoder.limit (drop decoder.start seen) body

abbrev pub RefusesThere : BodyDecoder → List ℕ → WireFault → Type 0
RefusesThere decoder seen fault = (decoder.start ≤ length seen) × Refuses (framing_in decoder) decoder.limit (drop decoder.start seen) fault

tells_for : (framing : Framing) (limit start : ℕ) (decoder : BodyDecoder) (input : List ℕ) (result : Result Body WireFault) → IsFor framing limit start decoder
    → TellsBody (framing_in decoder) decoder.limit decoder.start input result → TellsBody framing limit start input result
tells_for framing limit start decoder input result is tells =
    subst (λ f. TellsBody f limit start input result) is.framing_is
    (subst (λ n. TellsBody (framing_in decoder) n start input result) is.limit_is
    (subst (λ s. TellsBody (framing_in decoder) decoder.limit s input result) is.start_is tells))

reads_for : (framing : Framing) (limit start : ℕ) (left left' : Option (List ℕ)) (old seen input : List ℕ) (decoder : BodyDecoder) (result : Result Body WireFault)
    → IsFor framing limit start decoder → Grows left left' old seen → IsWhole left' seen input
    → TellsBody (framing_in decoder) decoder.limit decoder.start input result → ReadsBody framing limit start left old result
reads_for framing limit start left left' old seen input decoder result is grows whole tells = record {
  input = input;
  whole = whole_before left left' old seen input grows whole;
  tells = tells_for framing limit start decoder input result is tells;
}

pub found_read : (framing : Framing) (limit start : ℕ) (left left' : Option (List ℕ)) (old new : List ℕ) (most : ℕ) (decoder : BodyDecoder) (body : Body)
    → IsFor framing limit start decoder → most ≡ raw_limit limit → IsFoundIn most (λ seen _ body. GivesThere decoder seen body) left left' old new body
    → ReadsBody framing limit start left old (Ok body)
found_read framing limit start left left' old new most decoder body is most_is found =
    let few : length found.seen ≤ raw_limit decoder.limit =
    subst (λ n. length found.seen ≤ raw_limit n) (sym is.limit_is) (subst (λ n. length found.seen ≤ n) most_is found.few) in
    reads_for framing limit start left left' old found.seen (found.seen ++ ahead left') decoder (Ok body) is found.grows (whole_now left' found.seen)
    (given_past (framing_in decoder) decoder.limit decoder.start found.seen (ahead left') body found.given.0 few found.given.1)

seen_alone : (framing : Framing) (limit start : ℕ) (decoder : BodyDecoder) (seen : List ℕ) (body : Body) → IsFor framing limit start decoder
    → GivesBody (framing_in decoder) decoder.limit (drop decoder.start seen) body → IsTrue body.alone → Gives framing limit (drop start seen) body.octets.items body.cut []
seen_alone framing limit start decoder seen body is given alone =
    let text = drop decoder.start seen in
    let own : Gives (framing_in decoder) decoder.limit text body.octets.items body.cut [] =
    subst (λ rest. Gives (framing_in decoder) decoder.limit text body.octets.items body.cut rest) (append-nil given.rest ∙ given.alone alone)
    (subst (λ t. Gives (framing_in decoder) decoder.limit t body.octets.items body.cut (given.rest ++ [])) (append-nil text) (given.gives [])) in
    subst (λ f. Gives f limit (drop start seen) body.octets.items body.cut []) is.framing_is
    (subst (λ n. Gives (framing_in decoder) n (drop start seen) body.octets.items body.cut []) is.limit_is
    (subst (λ s. Gives (framing_in decoder) decoder.limit (drop s seen) body.octets.items body.cut []) is.start_is own))

pub found_alone : (framing : Framing) (limit start : ℕ) (left left' : Option (List ℕ)) (old new : List ℕ) (most : ℕ) (decoder : BodyDecoder) (body : Body)
    → IsFor framing limit start decoder → IsFoundIn most (λ seen _ body. GivesThere decoder seen body) left left' old new body
    → IsTrue body.alone → EndsWith framing limit start left left' old body
found_alone framing limit start left left' old new most decoder body is found alone = record {
  seen = found.seen;
  grows = found.grows;
  gives = seen_alone framing limit start decoder found.seen body is found.given.1 alone;
}

pub ended_alone : {T : Type 0} (alone : Bool) → alone ≡ false → IsTrue alone → T
ended_alone alone ended is = absurd (false≢true (sym ended ∙ is))

pub ended_read : (framing : Framing) (limit start : ℕ) (left left' : Option (List ℕ)) (old new : List ℕ) (most : ℕ) (waits : List ℕ → Type 0) (decoder : BodyDecoder) (result : Result Body WireFault)
    → IsFor framing limit start decoder → EndsWaiting most waits left left' old new
    → TellsBody (framing_in decoder) decoder.limit decoder.start new result → ReadsBody framing limit start left old result
ended_read framing limit start left left' old new most waits decoder result is ends tells =
    reads_for framing limit start left ends.before old new new decoder result is ends.came (whole_ended ends.before new ends.ended) tells

pub past_read : (framing : Framing) (limit start : ℕ) (left : Option (List ℕ)) (old new : List ℕ) (most : ℕ) (waits : List ℕ → Type 0) (decoder : BodyDecoder) (result : Result Body WireFault)
    → IsFor framing limit start decoder → GoesOnWaiting most waits left old new
    → ((more : List ℕ) → 0 < length more → TellsBody (framing_in decoder) decoder.limit decoder.start (new ++ more) result)
    → ReadsBody framing limit start left old result
past_read framing limit start left old new most waits decoder result is on tells =
    let (more, some, whole) = whole_past on.before new on.more in
    reads_for framing limit start left on.before old new (new ++ more) decoder result is on.came whole (tells more some)

no_cause : (framing : Framing) (limit start : ℕ) (input : List ℕ) (fault : WireFault) → (fault ≡ Device) ⊎ (fault ≡ NoMemory) → HasNoBody fault framing limit start input
no_cause framing limit start input fault stops =
    elim stops [
      | inl device ↦ subst (λ f. HasNoBody f framing limit start input) (sym device) tt
      | inr none ↦ subst (λ f. HasNoBody f framing limit start input) (sym none) tt
    ]

pub broken_read : (framing : Framing) (limit start : ℕ) (left : Option (List ℕ)) (old : List ℕ) (decoder : BodyDecoder) (fault : WireFault)
    → IsFor framing limit start decoder → Breaks (RefusesThere decoder) left old fault → ReadsBody framing limit start left old (Err fault)
broken_read framing limit start left old decoder fault is breaks =
    elim breaks.cause [
      | inl refused ↦
          reads_for framing limit start left breaks.before old breaks.seen (breaks.seen ++ ahead breaks.before) decoder (Err fault) is breaks.came
          (whole_now breaks.before breaks.seen)
          (refused_past (framing_in decoder) decoder.limit decoder.start breaks.seen (ahead breaks.before) fault refused.0 refused.1)
      | inr stops ↦ record {
        input = breaks.seen ++ ahead breaks.before;
        whole = whole_before left breaks.before old breaks.seen (breaks.seen ++ ahead breaks.before) breaks.came (whole_now breaks.before breaks.seen);
        tells = no_cause framing limit start (breaks.seen ++ ahead breaks.before) fault stops;
      }
    ]
