-- The lines that a session took so far, and its end.
-- Used by `run_session`.
use Rattle.std.proofs.Common.{◌≡◌, ℕ, ◌+◌, ◌≤◌, Bool, true, false, List, [], ◌∷◌, ◌++◌, None, Some, refl, sym, ap, subst, ◌∙◌, inl, inr, append_assoc, append-nil, length, length-append, take, arith, rules, ◌≢◌}
use Rattle.std.specs.Prelude.{Option, Result, Ok, Err, map, All, ◌⊎◌}
use Rattle.std.proofs.lemmas.List.{map-append}
use Rattle.std.proofs.lemmas.List.Elements.{All-nil, All-cons, All-append}
use Rattle.std.specs.Io.KnownBytes.{Appends, Consumes, prepend_known}
use Rattle.std.proofs.KnownBytes.{Appends-nil, Appends-trans, Consumes-nil, Consumes-trans, Keeps-refl, prepend_known-end}
use Rattle.counted_io.specs.Device.{AppendsPrefix}
use Rattle.counted_io.specs.Lines.{HasNoLineFeed, without_cr, TakesLine, TakesLast, line_feed}
use Rattle.counted_io.specs.Limits.{output_buffer}
use Rattle.counted_io.specs.Output.{Passes}
use Rattle.counted_io.proofs.CallerLemmas.{Passes-cut, Passes-cut-all, Passes-further, Passes-push, Passes-written}
use Rattle.command_lines.specs.Answers.{AnswersLines, GivesReply, LosesReply}
use Rattle.command_lines.specs.Input.{with_line_feeds, TakesLines, FindsPart}
use Rattle.command_lines.specs.Session.{KeepsUp, Session, Meets, ResultsIn, StopsAtWrite, Writes, last_words}
use Rattle.command_lines.specs.Steps.{FailsToReadLine}
use Rattle.command_lines.specs.declared.session_fault.SessionFault.{SessionFault}
use Rattle.command_lines.specs.declared.session_fault.SessionFault.TheVariants.{LongLine, Lines, Read, Write, NoMemory}

-- the front of an input is these lines, each with a line feed
pub record TakesWhole (limit : ℕ) (input behind : Option (List ℕ)) (lines : List (List ℕ)) : Type 0 where
  pub raws : List (List ℕ)
  pub no_line_feed : All HasNoLineFeed raws
  pub lines_are : lines ≡ map without_cr raws
  pub fit : All (λ line. length line ≤ limit) lines
  pub consumed : Consumes input behind (with_line_feeds raws)

-- this many lines were taken and answered, none ended the session, and the replies reached the output
pub record Served {S : Type 0} (answers : S → List ℕ → List ℕ → Bool → S → Type 0) (limit count : ℕ) (old new : S) (input behind written written_new : Option (List ℕ)) (pending : List ℕ) : Type 0 where
  pub lines : List (List ℕ)
  pub text : List ℕ
  pub whole : TakesWhole limit input behind lines
  pub count_is : length lines ≡ count
  pub answered : AnswersLines answers old lines text false new
  pub passed : Passes written written_new text pending

never : false ≡ true → ⊥
never e = search rules

pub Answers-more : {S : Type 0} (answers : S → List ℕ → List ℕ → Bool → S → Type 0) (old : S) (lines : List (List ℕ)) (text : List ℕ) (mid : S) (line reply : List ℕ) (ended : Bool) (new : S)
    → AnswersLines answers old lines text false mid → answers mid line reply ended new → AnswersLines answers old (lines ++ line ∷ []) (text ++ reply) ended new
Answers-more answers old [] text mid line reply true new so_far answered =
    let start : answers old line reply true new = subst (λ s. answers s line reply true new) so_far.2 answered in
    let all : reply ≡ text ++ reply = ap (λ t. t ++ reply) (sym so_far.0) in
    inl (record { answered = subst (λ t. answers old line t true new) all start; last = refl; ended_is = refl })
Answers-more answers old [] text mid line reply false new so_far answered =
    let start : answers old line reply false new = subst (λ s. answers s line reply false new) so_far.2 answered in
    inr (record { reply = reply; state = new; rest = []; text_is = ap (λ t. t ++ reply) so_far.0 ∙ sym (append-nil reply); answered = start; then = (refl, refl, refl) })
Answers-more {S = S} answers old (first ∷ lines) text mid line reply ended new so_far answered =
    elim so_far [
      | inl ends ↦ absurd (never ends.ended_is)
      | inr goes ↦ inr (record {
        reply = goes.reply;
        state = goes.state;
        rest = goes.rest ++ reply;
        text_is = ap (λ t. t ++ reply) goes.text_is ∙ append_assoc goes.reply goes.rest reply;
        answered = goes.answered;
        then = Answers-more answers goes.state lines goes.rest mid line reply ended new goes.then answered;
      })
    ]

pub with_line_feeds-append : (raws : List (List ℕ)) (raw : List ℕ) → with_line_feeds (raws ++ raw ∷ []) ≡ with_line_feeds raws ++ (raw ++ line_feed ∷ [])
with_line_feeds-append [] raw = append-nil (raw ++ line_feed ∷ [])
with_line_feeds-append (first ∷ raws) raw =
    ap (λ l. (first ++ line_feed ∷ []) ++ l) (with_line_feeds-append raws raw) ∙ sym (append_assoc (first ++ line_feed ∷ []) (with_line_feeds raws) (raw ++ line_feed ∷ []))

-- octets written after the pending ones are written after the text
pub Writes-after : (a b c : Option (List ℕ)) (text pending words : List ℕ) (result : Result (Unit {0}) SessionFault) → Passes a b text pending
    → Writes b c (pending ++ words) result → Writes a c (text ++ words) result
Writes-after a b c text pending words (Ok _) p w = Passes-written a b c text pending words p w
Writes-after a b c text pending words (Err LongLine) p w = Passes-written a b c text pending words p w
Writes-after a b c text pending words (Err Lines) p w = Passes-written a b c text pending words p w
Writes-after a b c text pending words (Err Read) p w = Passes-written a b c text pending words p w
Writes-after a b c text pending words (Err Write) p w = Passes-cut a b c text pending words p w
Writes-after a b c text pending words (Err NoMemory) p w = Passes-written a b c text pending words p w

All-one : {X : Type 0} (P : X → Type 0) (x : X) → P x → All P (x ∷ [])
All-one P x h = All-cons P x [] h (All-nil P)

pub finds_none : (unread : List ℕ) (left : Option (List ℕ)) → FindsPart (prepend_known unread left) unread left
finds_none unread left = record { part = []; taken = record { no_line_feed = All-nil (λ octet. octet ≢ line_feed); consumed = Consumes-nil (prepend_known unread left) } }

took_whole : {limit : ℕ} {input behind : Option (List ℕ)} {lines : List (List ℕ)} → TakesWhole limit input behind lines → TakesLines limit input behind lines
took_whole {input = input} {behind = behind} t = record {
  raws = t.raws;
  last = None;
  no_line_feed = t.no_line_feed;
  last_line = tt;
  lines_are = t.lines_are ∙ sym (append-nil (map without_cr t.raws));
  fit = t.fit;
  consumed = subst (Consumes input behind) (sym (append-nil (with_line_feeds t.raws))) t.consumed;
}

whole_more : {limit : ℕ} {input behind after : Option (List ℕ)} {lines : List (List ℕ)} {line : List ℕ} → TakesWhole limit input behind lines → TakesLine limit behind after line
    → TakesWhole limit input after (lines ++ line ∷ [])
whole_more {limit} {input} {behind} {after} {lines} {line} t next = record {
  raws = t.raws ++ next.raw ∷ [];
  no_line_feed = All-append HasNoLineFeed t.raws (next.raw ∷ []) t.no_line_feed (All-one HasNoLineFeed next.raw next.no_line_feed);
  lines_are =
      ap (λ l. l ++ line ∷ []) t.lines_are ∙ ap (λ l. map without_cr t.raws ++ l ∷ []) next.line_is ∙ sym (map-append without_cr t.raws (next.raw ∷ []));
  fit = All-append (λ l. length l ≤ limit) lines (line ∷ []) t.fit (All-one (λ l. length l ≤ limit) line next.fits);
  consumed =
      subst (Consumes input after) (sym (with_line_feeds-append t.raws next.raw))
      (Consumes-trans input behind after (with_line_feeds t.raws) (next.raw ++ line_feed ∷ []) t.consumed next.consumed);
}

pub took_line : {limit : ℕ} {input behind after : Option (List ℕ)} {lines : List (List ℕ)} {line : List ℕ} → TakesWhole limit input behind lines → TakesLine limit behind after line
    → TakesLines limit input after (lines ++ line ∷ [])
took_line t next = took_whole (whole_more t next)

pub took_last : {limit : ℕ} {input behind left : Option (List ℕ)} {unread : List ℕ} {lines : List (List ℕ)} {line : List ℕ} → TakesWhole limit input behind lines → TakesLast limit behind unread left line
    → TakesLines limit input (prepend_known unread left) (lines ++ line ∷ [])
took_last {limit} {input} {behind} {left} {unread} {lines} {line} t last = record {
  raws = t.raws;
  last = Some line;
  no_line_feed = t.no_line_feed;
  last_line = record {
    no_line_feed = last.no_line_feed;
    some = last.some;
    at_end = prepend_known-end (prepend_known unread left) left unread (Keeps-refl (prepend_known unread left)) last.drained.empty last.drained.at_end;
  };
  lines_are = ap (λ l. l ++ line ∷ []) t.lines_are;
  fit = All-append (λ l. length l ≤ limit) lines (line ∷ []) t.fit (All-one (λ l. length l ≤ limit) line last.fits);
  consumed = Consumes-trans input behind (prepend_known unread left) (with_line_feeds t.raws) line t.consumed last.consumed;
}

consumes_start : (unread : List ℕ) (left : Option (List ℕ)) → unread ≡ [] → Consumes left (prepend_known unread left) []
consumes_start unread None e = tt
consumes_start unread (Some xs) e = ap (λ l. l ++ xs) (sym e)

pub served_start : {S : Type 0} (answers : S → List ℕ → List ℕ → Bool → S → Type 0) (limit : ℕ) (old : S) (left : Option (List ℕ)) (unread : List ℕ) (written : Option (List ℕ)) (pending : List ℕ)
    → unread ≡ [] → pending ≡ [] → Served answers limit 0 old old left (prepend_known unread left) written written pending
served_start answers limit old left unread written pending none empty = record {
  lines = [];
  text = [];
  whole = record {
    raws = [];
    no_line_feed = All-nil HasNoLineFeed;
    lines_are = refl;
    fit = All-nil (λ line. length line ≤ limit);
    consumed = consumes_start unread left none;
  };
  count_is = refl;
  answered = (refl, refl, refl);
  passed = record { front = []; wrote = Appends-nil written; split = sym empty };
}

pub served_further : {S : Type 0} {answers : S → List ℕ → List ℕ → Bool → S → Type 0} {limit count : ℕ} {old new : S} {input behind a b c : Option (List ℕ)} {pending left : List ℕ}
    → Served answers limit count old new input behind a b pending → Passes b c pending left → Served answers limit count old new input behind a c left
served_further {a = a} {b = b} {c = c} {pending = pending} {left = left} s p = record {
  lines = s.lines;
  text = s.text;
  whole = s.whole;
  count_is = s.count_is;
  answered = s.answered;
  passed = Passes-further a b c s.text pending left s.passed p;
}

pub served_line : {S : Type 0} {answers : S → List ℕ → List ℕ → Bool → S → Type 0} {limit count : ℕ} {old mid : S} {input behind after a b c : Option (List ℕ)} {pending left line : List ℕ} (new : S)
    → Served answers limit count old mid input behind a b pending → TakesLine limit behind after line → GivesReply (λ reply. answers mid line reply false new) b c pending left
    → Served answers limit (count + 1) old new input after a c left
served_line {answers = answers} {old = old} {mid = mid} {a = a} {b = b} {c = c} {pending = pending} {left = left} {line = line} new s next replies = record {
  lines = s.lines ++ line ∷ [];
  text = s.text ++ replies.reply;
  whole = whole_more s.whole next;
  count_is = length-append s.lines (line ∷ []) ∙ ap (λ n. n + 1) s.count_is;
  answered = Answers-more answers old s.lines s.text mid line replies.reply false new s.answered replies.answered;
  passed = Passes-push a b c s.text pending replies.reply left s.passed replies.passed;
}

-- the replies to the first lines reached the output, a part of them still pending when a write failed
keeps_up : {S : Type 0} (answers : S → List ℕ → List ℕ → Bool → S → Type 0) (old mid : S) (front late : List (List ℕ)) (replies rest : List ℕ) (ended : Bool) (a b c : Option (List ℕ)) (pending more : List ℕ)
    → length late ≤ 1 → AnswersLines answers old front replies ended mid → Passes a b replies pending → length pending ≤ output_buffer → AppendsPrefix b c more
    → KeepsUp answers old (front ++ late) (replies ++ rest) a c
keeps_up answers old mid front late replies rest ended a b c pending more few answered passed bound cut = record {
  front = front;
  late = late;
  replies = replies;
  rest = rest;
  ended = ended;
  state = mid;
  wrote = passed.front ++ take cut.0 more;
  lines_are = refl;
  few = few;
  text_is = refl;
  answered = answered;
  appended = Appends-trans a b c passed.front (take cut.0 more) passed.wrote cut.1;
  nearly = omega (arith, bound, ap length passed.split, length-append passed.front pending, length-append passed.front (take cut.0 more));
}

stops_at_write : {S : Type 0} (answers : S → List ℕ → List ℕ → Bool → S → Type 0) (old new : S) (lines : List (List ℕ)) (text : List ℕ) (ended : Bool) (a b c : Option (List ℕ)) (pending words : List ℕ) (result : Result (Unit {0}) SessionFault)
    → AnswersLines answers old lines text ended new → Passes a b text pending → length pending ≤ output_buffer → Writes b c (pending ++ words) result
    → StopsAtWrite result (KeepsUp answers old lines text a c)
stops_at_write answers old new lines text ended a b c pending words (Ok _) answered passed bound wrote = tt
stops_at_write answers old new lines text ended a b c pending words (Err LongLine) answered passed bound wrote = tt
stops_at_write answers old new lines text ended a b c pending words (Err Lines) answered passed bound wrote = tt
stops_at_write answers old new lines text ended a b c pending words (Err Read) answered passed bound wrote = tt
stops_at_write answers old new lines text ended a b c pending words (Err NoMemory) answered passed bound wrote = tt
stops_at_write answers old new lines text ended a b c pending words (Err Write) answered passed bound wrote =
    subst (λ l. KeepsUp answers old l text a c) (append-nil lines)
    (subst (λ t. KeepsUp answers old (lines ++ []) t a c) (append-nil text)
    (keeps_up answers old new lines [] text [] ended a b c pending (pending ++ words) (omega arith) answered passed bound wrote))

pub stops : {S : Type 0} {answers : S → List ℕ → List ℕ → Bool → S → Type 0} {limit : ℕ} (most count : ℕ) {old new : S} {input behind : Option (List ℕ)} (unread : List ℕ) (left : Option (List ℕ)) {a b : Option (List ℕ)} (c : Option (List ℕ))
    (lines : List (List ℕ)) (text pending : List ℕ) (ended : Bool) (met result : Result (Unit {0}) SessionFault)
    → TakesLines limit input behind lines → length lines ≡ count → count ≤ most → AnswersLines answers old lines text ended new → Passes a b text pending
    → Meets limit most count ended behind unread left met → ResultsIn met result → Writes b c (pending ++ last_words met) result → length pending ≤ output_buffer
    → Session answers limit most old new input left a c result
stops {answers = answers} {limit = limit} most count {old = old} {new = new} {behind = behind} unread left {a = a} {b = b} c lines text pending ended met result took count_is within answered passed stopped results wrote bound = record {
  lines = lines;
  text = text;
  ended = ended;
  met = met;
  behind = behind;
  unread = unread;
  took = took;
  within = subst (λ n. n ≤ most) (sym count_is) within;
  answered = answered;
  stopped = subst (λ n. Meets limit most n ended behind unread left met) (sym count_is) stopped;
  results = results;
  wrote = Writes-after a b c text pending (last_words met) result passed wrote;
  stops = stops_at_write answers old new lines text ended a b c pending (last_words met) result answered passed bound wrote;
}

pub served_stops : {S : Type 0} {answers : S → List ℕ → List ℕ → Bool → S → Type 0} {limit count : ℕ} (most : ℕ) {old new : S} {input behind a b : Option (List ℕ)} {pending : List ℕ} (unread : List ℕ) (left c : Option (List ℕ)) (met result : Result (Unit {0}) SessionFault)
    → Served answers limit count old new input behind a b pending → count ≤ most → Meets limit most count false behind unread left met → ResultsIn met result → Writes b c (pending ++ last_words met) result
    → length pending ≤ output_buffer → Session answers limit most old new input left a c result
served_stops {answers = answers} {limit = limit} {count = count} most {pending = pending} unread left c met result s within stopped results wrote bound =
    stops most count unread left c s.lines s.text pending false met result (took_whole s.whole) s.count_is within s.answered s.passed stopped results wrote bound

pub line_stops : {S : Type 0} {answers : S → List ℕ → List ℕ → Bool → S → Type 0} {limit count : ℕ} (most : ℕ) {old mid : S} {input behind after a b c : Option (List ℕ)} {pending pending_new line : List ℕ} (new : S) (ended : Bool) (unread : List ℕ) (left d : Option (List ℕ)) (met result : Result (Unit {0}) SessionFault)
    → (s : Served answers limit count old mid input behind a b pending) → TakesLines limit input after (s.lines ++ line ∷ []) → count + 1 ≤ most → GivesReply (λ reply. answers mid line reply ended new) b c pending pending_new
    → Meets limit most (count + 1) ended after unread left met → ResultsIn met result → Writes c d (pending_new ++ last_words met) result → length pending_new ≤ output_buffer
    → Session answers limit most old new input left a d result
line_stops {answers = answers} {limit = limit} {count = count} most {old = old} {mid = mid} {a = a} {b = b} {c = c} {pending = pending} {pending_new = pending_new} {line = line} new ended unread left d met result s took within replies stopped results wrote bound =
    stops most (count + 1) unread left d (s.lines ++ line ∷ []) (s.text ++ replies.reply) pending_new ended met result took
    (length-append s.lines (line ∷ []) ∙ ap (λ n. n + 1) s.count_is) within
    (Answers-more answers old s.lines s.text mid line replies.reply ended new s.answered replies.answered)
    (Passes-push a b c s.text pending replies.reply pending_new s.passed replies.passed) stopped results wrote bound

pub given_at : {S : Type 0} (answers : ℕ → S → List ℕ → List ℕ → Bool → S → Type 0) {failed failed_now : ℕ} {old new : S} {line : List ℕ} {ended : Bool} {a b : Option (List ℕ)} {pending left : List ℕ}
    → failed_now ≡ failed → GivesReply (λ reply. answers failed_now old line reply ended new) a b pending left → GivesReply (λ reply. answers failed old line reply ended new) a b pending left
given_at answers {old = old} {new = new} {line = line} {ended = ended} same given = record {
  reply = given.reply;
  answered = subst (λ n. answers n old line given.reply ended new) same given.answered;
  passed = given.passed;
}

pub lost_at : {S : Type 0} (answers : ℕ → S → List ℕ → List ℕ → Bool → S → Type 0) {failed failed_now : ℕ} {old new : S} {line : List ℕ} {a b : Option (List ℕ)} {pending : List ℕ}
    → failed_now ≡ failed → LosesReply (λ reply ended. answers failed_now old line reply ended new) a b pending → LosesReply (λ reply ended. answers failed old line reply ended new) a b pending
lost_at answers {old = old} {new = new} {line = line} same lost = record {
  reply = lost.reply;
  ended = lost.ended;
  answered = subst (λ n. answers n old line lost.reply lost.ended new) same lost.answered;
  cut = lost.cut;
}

pub line_lost : {S : Type 0} {answers : S → List ℕ → List ℕ → Bool → S → Type 0} {limit count : ℕ} (most : ℕ) {old mid : S} {input after behind a b c : Option (List ℕ)} {pending line : List ℕ} (new : S) (unread : List ℕ) (left : Option (List ℕ))
    → (s : Served answers limit count old mid input behind a b pending) → TakesLines limit input after (s.lines ++ line ∷ []) → count + 1 ≤ most → LosesReply (λ reply ended. answers mid line reply ended new) b c pending
    → FindsPart after unread left → length pending ≤ output_buffer → Session answers limit most old new input left a c (Err Write)
line_lost {answers = answers} {count = count} most {old = old} {mid = mid} {after = after} {a = a} {b = b} {c = c} {pending = pending} {line = line} new unread left s took within lost part bound = record {
  lines = s.lines ++ line ∷ [];
  text = s.text ++ lost.reply;
  ended = lost.ended;
  met = Err Write;
  behind = after;
  unread = unread;
  took = took;
  within = omega (arith, within, s.count_is, length-append s.lines (line ∷ []));
  answered = Answers-more answers old s.lines s.text mid line lost.reply lost.ended new s.answered lost.answered;
  stopped = part;
  results = inl refl;
  wrote = subst (AppendsPrefix a c) (sym (append-nil (s.text ++ lost.reply))) (Passes-cut a b c s.text pending lost.reply s.passed lost.cut);
  stops = keeps_up answers old mid s.lines (line ∷ []) s.text lost.reply false a b c pending (pending ++ lost.reply) (omega arith) s.answered s.passed bound lost.cut;
}

pub still_cut : (a b c : Option (List ℕ)) (pending left : List ℕ) → (Appends a b pending × (left ≡ [])) ⊎ ((b ≡ a) × (left ≡ pending)) → AppendsPrefix b c left → AppendsPrefix a c pending
still_cut a b c pending left (inl written) cut =
    Passes-cut-all a b c pending left (record { front = pending; wrote = written.0; split = sym (ap (λ l. pending ++ l) written.1 ∙ append-nil pending) }) cut
still_cut a b c pending left (inr same) cut = subst (λ x. AppendsPrefix x c pending) same.0 (subst (AppendsPrefix b c) same.1 cut)

pub fails_stops : {S : Type 0} {answers : S → List ℕ → List ℕ → Bool → S → Type 0} {limit count : ℕ} (most : ℕ) {old new : S} {input behind a b : Option (List ℕ)} {pending : List ℕ} (unread : List ℕ) (left c : Option (List ℕ)) (fault : SessionFault)
    → Served answers limit count old new input behind a b pending → count ≤ most → FailsToReadLine behind unread left pending b c fault → length pending ≤ output_buffer → Session answers limit most old new input left a c (Err fault)
fails_stops most unread left c LongLine s within f bound = absurd f
fails_stops most unread left c Lines s within f bound = absurd f
fails_stops most {b = b} {pending = pending} unread left c Read s within f bound =
    served_stops most unread left c (Err Read) (Err Read) s within (refl, f.0) (inl refl) (subst (Appends b c) (sym (append-nil pending)) f.1) bound
fails_stops most {b = b} {pending = pending} unread left c Write s within f bound =
    served_stops most unread left c (Err Write) (Err Write) s within f.0 (inl refl) (subst (AppendsPrefix b c) (sym (append-nil pending)) f.1) bound
fails_stops most {b = b} {pending = pending} unread left c NoMemory s within f bound =
    served_stops most unread left c (Err NoMemory) (Err NoMemory) s within (refl, f.0) (inl refl) (subst (Appends b c) (sym (append-nil pending)) f.1) bound
