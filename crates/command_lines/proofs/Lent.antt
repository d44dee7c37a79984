-- Lines answered from a state are answered from what is seen of it.
-- Used by `run_lines`, whose state lends a keeper.
use Rattle.std.proofs.Common.{◌≡◌, ℕ, Bool, List, [], ◌∷◌, ap, ◌∙◌, inl, inr}
use Rattle.std.specs.Prelude.{Option, Result, Ok, Err}
use Rattle.command_lines.specs.Answers.{AnswersLines}
use Rattle.command_lines.specs.Session.{KeepsUp, Session, StopsAtWrite}
use Rattle.command_lines.specs.declared.session_fault.SessionFault.{SessionFault}
use Rattle.command_lines.specs.declared.session_fault.SessionFault.TheVariants.{LongLine, Lines, Read, Write, NoMemory}

module _ {S T N : Type 0} (name : S → N) (view : S → T) (answers : T → List ℕ → List ℕ → Bool → T → Type 0) where
  -- a line is answered from what is seen, and the name stays
  abbrev pub Lends : S → List ℕ → List ℕ → Bool → S → Type 0
  Lends old line text ended new = (name new ≡ name old) × answers (view old) line text ended (view new)

  pub lines_seen : (old : S) (lines : List (List ℕ)) (text : List ℕ) (ended : Bool) (new : S) →
      AnswersLines Lends old lines text ended new → (name new ≡ name old) × AnswersLines answers (view old) lines text ended (view new)
  lines_seen old [] text ended new none = (ap name none.2, (none.0, none.1, ap view none.2))
  lines_seen old (line ∷ lines) text ended new (inl ends) =
      (ends.answered.0, inl (record { answered = ends.answered.1; last = ends.last; ended_is = ends.ended_is }))
  lines_seen old (line ∷ lines) text ended new (inr goes) =
      let later = lines_seen goes.state lines goes.rest ended new goes.then in (
        later.0 ∙ goes.answered.0,
        inr (record {
          reply = goes.reply;
          state = view goes.state;
          rest = goes.rest;
          text_is = goes.text_is;
          answered = goes.answered.1;
          then = later.1;
        }),
      )

  kept_seen : (old : S) (lines : List (List ℕ)) (text : List ℕ) (written written_new : Option (List ℕ)) →
      KeepsUp Lends old lines text written written_new → KeepsUp answers (view old) lines text written written_new
  kept_seen old lines text written written_new kept = record {
    front = kept.front;
    late = kept.late;
    replies = kept.replies;
    rest = kept.rest;
    ended = kept.ended;
    state = view kept.state;
    wrote = kept.wrote;
    lines_are = kept.lines_are;
    few = kept.few;
    text_is = kept.text_is;
    answered = (lines_seen old kept.front kept.replies kept.ended kept.state kept.answered).1;
    appended = kept.appended;
    nearly = kept.nearly;
  }

  stops_seen : (result : Result (Unit {0}) SessionFault) (old : S) (lines : List (List ℕ)) (text : List ℕ) (written written_new : Option (List ℕ)) →
      StopsAtWrite result (KeepsUp Lends old lines text written written_new) → StopsAtWrite result (KeepsUp answers (view old) lines text written written_new)
  stops_seen (Ok _) old lines text written written_new stops = tt
  stops_seen (Err LongLine) old lines text written written_new stops = tt
  stops_seen (Err Lines) old lines text written written_new stops = tt
  stops_seen (Err Read) old lines text written written_new stops = tt
  stops_seen (Err NoMemory) old lines text written written_new stops = tt
  stops_seen (Err Write) old lines text written written_new stops = kept_seen old lines text written written_new stops

  pub session_seen : {limit most : ℕ} {old new : S} {input left written written_new : Option (List ℕ)} {result : Result (Unit {0}) SessionFault} →
      Session Lends limit most old new input left written written_new result →
      (name new ≡ name old) × Session answers limit most (view old) (view new) input left written written_new result
  session_seen {old = old} {new = new} {written = written} {written_new = written_new} {result = result} session =
      let seen = lines_seen old session.lines session.text session.ended new session.answered in (
        seen.0,
        record {
          lines = session.lines;
          text = session.text;
          ended = session.ended;
          met = session.met;
          behind = session.behind;
          unread = session.unread;
          took = session.took;
          within = session.within;
          answered = seen.1;
          stopped = session.stopped;
          results = session.results;
          wrote = session.wrote;
          stops = stops_seen result old session.lines session.text written written_new session.stops;
        },
      )
