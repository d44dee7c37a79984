-- What each entry does to an open_state that agrees with a history, and why an entry is not legal.
-- Used by the calls of the open_state.
use Rattle.std.proofs.Common.{◌≡◌, ℕ, ◌+◌, ◌<◌, ◌≤◌, Bool, true, false, max, List, refl, sym, ap, subst, ◌∙◌, arith, Ok, Err}
use Rattle.std.specs.Prelude.{◌||◌, Option, Result, Some, None, is_err, is_some}
use Rattle.std.specs.Borrow.{Bor}
use Rattle.std.specs.List.{list_any}
use Rattle.std.specs.Str.{bytes_eq}
use Rattle.std.proofs.lemmas.Bool.{and_parts, true≢false}
use Rattle.std.proofs.lemmas.Slice.Eq.{bytes_eq-Decides}
use Rattle.permit_book.specs.declared.out.Fetch.{Fetch}
use Rattle.permit_book.specs.Outstanding.{fetch_of, is_numbered}
use Rattle.permit_book.specs.Table.{is_fetch_of}
use Rattle.permit_book.proofs.CallerLemmas.{list_any-both, list_any-filter}
use Rattle.robots_verdict.specs.declared.said.Said.{Said}
use Rattle.authority_cache.specs.declared.site.Flight.{Flight}
use Rattle.authority_cache.specs.Calls.{Arrives, Begins, Changes, Sweeps}
use Rattle.authority_cache.specs.declared.refusal.FlightRefusal.{FlightRefusal}
use Rattle.authority_cache.specs.declared.refusal.Stale.{Stale}
use Rattle.authority_cache.specs.Laws.{ReadsAlike}
use Rattle.authority_cache.specs.Lives.{life_of, Timed}
use Rattle.authority_cache.specs.Sites.{arrived, has_turn as site_turn, is_flying, IsApart, Known, site_of, with_flight}
use Rattle.authority_cache.proofs.CallerLemmas as cache_laws
use Rattle.gate_history.specs.declared.entry.Entry.{Entry}
use Rattle.gate_history.specs.declared.entry.Entry.TheVariants.{Begun, Arrived, AskDenied, Granted, Started, StartDenied, Returned, Finished, Swept}
use Rattle.gate_history.specs.declared.outcome.Cause.{Cause}
use Rattle.gate_history.specs.declared.outcome.Reason.{Reason}
use Rattle.gate_history.specs.Cause.{Decides}
use Rattle.gate_history.specs.History.{History, ◌▸◌, now}
use Rattle.gate_history.specs.Legal.{IsLegal, MayFollow, Rises, SpendsAs}
use Rattle.gate_history.specs.Outstanding.{is_running, is_unspent, running, stands, unspent}
use Rattle.gate_history.specs.Standing.{has_turn, in_flight, is_fetching, past_count, standing}
use Rattle.gate_history.proofs.CallerLemmas.{decides_once, stands_once}
use Rattle.crawl_audit.specs.declared.open_state.OpenState.{OpenState}
use Rattle.crawl_audit.specs.declared.numbers.PermitNumbers.{PermitNumbers}
use Rattle.crawl_audit.specs.declared.numbers.Phase.{Phase}
use Rattle.crawl_audit.specs.declared.numbers.Phase.TheVariants.{Unspent, Running}
use Rattle.crawl_audit.specs.Tables.{Enters, GivesUnspent, Grants, is_new, is_running_in, is_unspent_in, MayCome, phases_of, Puts, running_under, StartsRun, Tells, unspent_under}
use Rattle.crawl_audit.proofs.Numbering.{finished_tells, granted_tells, new_rises, new_ungranted, returned_tells, start_denied_tells, started_tells, still}

-- ---- the moment

pub late : (clock moment now : ℕ) → clock ≡ now → moment < clock → now ≤ moment → ⊥
late clock moment now same early fit = omega arith

on_time : (moment now clock : ℕ) → clock ≡ now → clock ≤ moment → moment ≡ max moment now
on_time moment now clock same fit = omega arith

module _ (l : OpenState) (h : History) (t : Tells l h) where
  comes : (e : Entry) (l' : OpenState) → MayFollow h e → (l.numbers.rising ≡ true → Rises h e) → Tells l' (h ▸ e) → l'.numbers.rising ≡ l.numbers.rising → MayCome l.numbers.rising h e × Enters l.numbers.rising (h ▸ e) l'
  comes e l' fit rises tells same = (record { fit = fit; rises = rises }, record { tells = tells; still = same })

  abbrev reads : ReadsAlike l.cache (standing h) (in_flight h)
  reads = cache_laws.reads_alike l.cache (standing h) (in_flight h) t.cache_tells

  -- ---- begins

  pub fetching : (a authority : List ℕ) → a ≡ authority → (b : Bool) → b ≡ is_flying (site_of l.cache a) → is_fetching h authority ≡ b
  fetching a authority same b is = ap (λ c. is_fetching h c) (sym same) ∙ sym (is ∙ reads.flying a)

  pub begun_follows : (moment turn count : ℕ) (a authority : List ℕ) (cache : Known) → a ≡ authority → l.clock ≤ moment → false ≡ is_flying (site_of l.cache a) → turn ≡ l.begins + 1 → count ≡ turn →
      is_flying (site_of l.cache authority) ≡ false → Changes l.cache authority (with_flight (record { turn = turn; begun = moment }) (site_of l.cache authority)) cache →
      MayCome l.numbers.rising h (Begun moment authority turn) × Enters l.numbers.rising (h ▸ Begun moment authority turn) (record l { clock = moment; begins = count; cache = cache; numbers = l.numbers })
  begun_follows moment turn count a authority cache same fit idle next counted free changes =
      comes (Begun moment authority turn) _ (omega (arith, t.clock_is), fetching a authority same false idle, next ∙ ap (λ n. n + 1) t.begins_are) (λ _. tt)
      (record {
        clock_is = on_time moment (now h) l.clock t.clock_is fit;
        begins_are = counted ∙ next ∙ ap (λ n. n + 1) t.begins_are;
        cache_tells = cache_laws.begun l.cache cache (standing h) (in_flight h) authority (record { turn = turn; begun = moment }) t.cache_tells free changes;
        numbers_tell = still l.numbers h (h ▸ Begun moment authority turn) refl refl refl (λ _. refl) t.numbers_tell;
      }) refl

  -- ---- arrivals

  pub flying_turn : (authority : List ℕ) (turn : ℕ) → has_turn h authority turn ≡ site_turn turn (site_of l.cache authority)
  flying_turn authority turn = sym (reads.turns authority turn)

  pub arrived_follows : IsLegal h → (moment turn life : ℕ) (authority : List ℕ) (says : Said) (cache : Known) → l.clock ≤ moment → life_of says life ≡ life →
      site_turn turn (site_of l.cache authority) ≡ true → Changes l.cache authority (arrived turn says life (site_of l.cache authority)) cache →
      MayCome l.numbers.rising h (Arrived life moment authority turn says) × Enters l.numbers.rising (h ▸ Arrived life moment authority turn says) (record l { clock = moment; begins = l.begins; cache = cache; numbers = l.numbers })
  arrived_follows legal moment turn life authority says cache fit lasting flying changes =
      let there = flying_turn authority turn ∙ flying in
      comes (Arrived life moment authority turn says) _ (omega (arith, t.clock_is), there, lasting) (λ _. tt)
      (record {
        clock_is = on_time moment (now h) l.clock t.clock_is fit;
        begins_are = t.begins_are;
        cache_tells = cache_laws.arrives l.cache cache (standing h) (in_flight h) authority turn life says t.cache_tells flying ((stands_once h legal).own_turn authority turn there) changes;
        numbers_tell = still l.numbers h (h ▸ Arrived life moment authority turn says) refl refl refl (λ _. refl) t.numbers_tell;
      }) refl

  -- ---- sweeps

  pub swept_count : (moment count : ℕ) (cache : Known) → Sweeps l.cache moment count cache → IsApart l.cache → count ≡ past_count h moment
  swept_count moment count cache sweeps apart = sweeps.dropped ∙ (cache_laws.counts_alike l.cache (standing h) (in_flight h) t.cache_tells apart).past moment

  pub swept_follows : (moment count swept : ℕ) (cache : Known) → l.clock ≤ moment → swept ≡ count → Sweeps l.cache moment swept cache → IsApart l.cache →
      MayCome l.numbers.rising h (Swept moment count) × Enters l.numbers.rising (h ▸ Swept moment count) (record l { clock = moment; begins = l.begins; cache = cache; numbers = l.numbers })
  swept_follows moment count swept cache fit same sweeps apart =
      comes (Swept moment count) _ (omega (arith, t.clock_is), sym same ∙ swept_count moment swept cache sweeps apart) (λ _. tt)
      (record {
        clock_is = on_time moment (now h) l.clock t.clock_is fit;
        begins_are = t.begins_are;
        cache_tells = cache_laws.swept_away l.cache cache (standing h) (in_flight h) moment swept t.cache_tells sweeps;
        numbers_tell = still l.numbers h (h ▸ Swept moment count) refl refl refl (λ _. refl) t.numbers_tell;
      }) refl

  -- ---- grants

  pub granted_follows : (moment n : ℕ) (fetch : Fetch) (reason : Reason) (numbers : PermitNumbers) → l.clock ≤ moment → is_new l.numbers n ≡ true → Decides h fetch.token fetch.url moment (Ok reason) →
      Grants l.numbers n fetch numbers →
      MayCome l.numbers.rising h (Granted moment n fetch) × Enters l.numbers.rising (h ▸ Granted moment n fetch) (record l { clock = moment; begins = l.begins; cache = l.cache; numbers = numbers })
  granted_follows moment n fetch reason numbers fit new decided grants =
      comes (Granted moment n fetch) _ (omega (arith, t.clock_is), new_ungranted l.numbers l.numbers h n t.numbers_tell new, (reason, decided)) (new_rises l.numbers l.numbers h n t.numbers_tell new)
      (record {
        clock_is = on_time moment (now h) l.clock t.clock_is fit;
        begins_are = t.begins_are;
        cache_tells = t.cache_tells;
        numbers_tell = granted_tells l.numbers numbers h n t.numbers_tell moment fetch new grants;
      }) grants.rising

  pub not_allowed : (token url : List ℕ) (moment : ℕ) (outcome : Result Reason Cause) → Decides h token url moment outcome → is_err outcome ≡ true →
      ((reason : Reason) × Decides h token url moment (Ok reason)) → ⊥
  not_allowed token url moment (Err cause) decided is allowed = clash (decides_once h token url moment (Err cause) (Ok allowed.0) decided allowed.1)
    where
      clash : Err cause ≡ Ok allowed.0 → ⊥
      clash e = cc
  not_allowed token url moment (Ok reason) decided is allowed = true≢false (sym is)

  pub not_so : (token url : List ℕ) (moment : ℕ) (one other : Result Reason Cause) → Decides h token url moment one → (one ≡ other → ⊥) → Decides h token url moment other → ⊥
  not_so token url moment one other decided apart so = apart (decides_once h token url moment one other decided so)

  -- ---- denied asks

  pub ask_denied_follows : (moment : ℕ) (fetch : Fetch) (cause : Cause) → l.clock ≤ moment → Decides h fetch.token fetch.url moment (Err cause) →
      MayCome l.numbers.rising h (AskDenied moment fetch cause) × Enters l.numbers.rising (h ▸ AskDenied moment fetch cause) (record l { clock = moment; begins = l.begins; cache = l.cache; numbers = l.numbers })
  ask_denied_follows moment fetch cause fit decided =
      comes (AskDenied moment fetch cause) _ (omega (arith, t.clock_is), decided) (λ _. tt)
      (record {
        clock_is = on_time moment (now h) l.clock t.clock_is fit;
        begins_are = t.begins_are;
        cache_tells = t.cache_tells;
        numbers_tell = still l.numbers h (h ▸ AskDenied moment fetch cause) refl refl refl (λ _. refl) t.numbers_tell;
      }) refl

  -- ---- permits

  stands_of : (n : ℕ) (token url : List ℕ) → stands h n token url ≡ list_any (λ p. is_fetch_of token url (fetch_of p)) (unspent_under n (phases_of l.numbers n))
  stands_of n token url = list_any-both (is_numbered n) (λ p. is_fetch_of token url (fetch_of p)) (unspent h) ∙ ap (list_any (λ p. is_fetch_of token url (fetch_of p))) (t.numbers_tell.unspent_are n)

  pub unspent_of : (n : ℕ) → is_unspent h n ≡ is_unspent_in (phases_of l.numbers n)
  unspent_of n = list_any-filter (is_numbered n) (unspent h) ∙ ap (list_any (λ _. true)) (t.numbers_tell.unspent_are n) ∙ there (phases_of l.numbers n)
    where
      there : (o : Option Phase) → list_any (λ _. true) (unspent_under n o) ≡ is_unspent_in o
      there None = refl
      there (Some (Unspent fetch)) = refl
      there (Some (Running fetch)) = refl

  pub running_of : (n : ℕ) → is_running h n ≡ is_running_in (phases_of l.numbers n)
  running_of n = list_any-filter (is_numbered n) (running h) ∙ ap (list_any (λ _. true)) (t.numbers_tell.running_are n) ∙ there (phases_of l.numbers n)
    where
      there : (o : Option Phase) → list_any (λ _. true) (running_under n o) ≡ is_running_in o
      there None = refl
      there (Some (Unspent fetch)) = refl
      there (Some (Running fetch)) = refl

  pub no_spend : (n moment : ℕ) (outcome : Result Reason Cause) → is_unspent_in (phases_of l.numbers n) ≡ false → SpendsAs h n moment outcome → ⊥
  no_spend n moment outcome none spends =
      true≢false (sym spends.1.1.0 ∙ stands_of n spends.0 spends.1.0 ∙ nothing (phases_of l.numbers n) none)
    where
      nothing : (o : Option Phase) → is_unspent_in o ≡ false → list_any (λ p. is_fetch_of spends.0 spends.1.0 (fetch_of p)) (unspent_under n o) ≡ false
      nothing None is = refl
      nothing (Some (Unspent fetch)) is = absurd (true≢false is)
      nothing (Some (Running fetch)) is = refl

  or_none : (b : Bool) → (b || false) ≡ b
  or_none true = refl
  or_none false = refl

  pub spends_as : (n moment : ℕ) (fetch : Fetch) (one outcome : Result Reason Cause) → phases_of l.numbers n ≡ Some (Unspent fetch) → Decides h fetch.token fetch.url moment one → one ≡ outcome → SpendsAs h n moment outcome
  spends_as n moment fetch one outcome some decided same = (
    fetch.token,
    (
      fetch.url,
      (
        stands_of n fetch.token fetch.url ∙ ap (λ o. list_any (λ p. is_fetch_of fetch.token fetch.url (fetch_of p)) (unspent_under n o)) some ∙ or_none (is_fetch_of fetch.token fetch.url fetch) ∙ own,
        subst (Decides h fetch.token fetch.url moment) same decided,
      ),
    ),
  )
    where
      own : is_fetch_of fetch.token fetch.url fetch ≡ true
      own = rw ((bytes_eq-Decides fetch.token fetch.token).1 refl, (bytes_eq-Decides fetch.url fetch.url).1 refl) refl

  pub spent_as : (n moment : ℕ) (fetch : Fetch) (one outcome : Result Reason Cause) → phases_of l.numbers n ≡ Some (Unspent fetch) → Decides h fetch.token fetch.url moment one → SpendsAs h n moment outcome → one ≡ outcome
  spent_as n moment fetch one outcome some decided spends =
      let token = spends.0 in
      let url = spends.1.0 in
      let both : is_fetch_of token url fetch ≡ true =
      sym (stands_of n token url ∙ ap (λ o. list_any (λ p. is_fetch_of token url (fetch_of p)) (unspent_under n o)) some ∙ or_none (is_fetch_of token url fetch)) ∙ spends.1.1.0 in
      let parts = and_parts (bytes_eq fetch.token token) (bytes_eq fetch.url url) both in
      let same_token = (bytes_eq-Decides fetch.token token).0 parts.0 in
      let same_url = (bytes_eq-Decides fetch.url url).0 parts.1 in
      decides_once h token url moment one outcome
      (subst (λ (u : List ℕ). Decides h token u moment one) same_url (subst (λ (k : List ℕ). Decides h k fetch.url moment one) same_token decided)) spends.1.1.1

  pub fetch_spent : (n moment : ℕ) (outcome : Result Reason Cause) → SpendsAs h n moment outcome → (fetch : Fetch) × (phases_of l.numbers n ≡ Some (Unspent fetch))
  fetch_spent n moment outcome spends = by (phases_of l.numbers n) refl
    where
      by : (o : Option Phase) → phases_of l.numbers n ≡ o → (fetch : Fetch) × (phases_of l.numbers n ≡ Some (Unspent fetch))
      by None is = absurd (no_spend n moment outcome (ap is_unspent_in is) spends)
      by (Some (Unspent fetch)) is = (fetch, is)
      by (Some (Running fetch)) is = absurd (no_spend n moment outcome (ap is_unspent_in is) spends)

  pub started_follows : (moment n : ℕ) (reason : Reason) (numbers : PermitNumbers) → l.clock ≤ moment → SpendsAs h n moment (Ok reason) → StartsRun l.numbers n numbers →
      MayCome l.numbers.rising h (Started moment n reason) × Enters l.numbers.rising (h ▸ Started moment n reason) (record l { clock = moment; begins = l.begins; cache = l.cache; numbers = numbers })
  started_follows moment n reason numbers fit spends starts =
      let fetch = fetch_spent n moment (Ok reason) spends in
      let puts = starts fetch.0 fetch.1 in
      comes (Started moment n reason) _ (omega (arith, t.clock_is), spends) (λ _. tt)
      (record {
        clock_is = on_time moment (now h) l.clock t.clock_is fit;
        begins_are = t.begins_are;
        cache_tells = t.cache_tells;
        numbers_tell = started_tells l.numbers numbers h n t.numbers_tell moment reason fetch.0 fetch.1 puts;
      }) puts.rising

  pub start_denied_follows : (moment n : ℕ) (cause : Cause) (numbers : PermitNumbers) → l.clock ≤ moment → SpendsAs h n moment (Err cause) → Puts l.numbers n None numbers →
      MayCome l.numbers.rising h (StartDenied moment n cause) × Enters l.numbers.rising (h ▸ StartDenied moment n cause) (record l { clock = moment; begins = l.begins; cache = l.cache; numbers = numbers })
  start_denied_follows moment n cause numbers fit spends puts =
      let fetch = fetch_spent n moment (Err cause) spends in
      comes (StartDenied moment n cause) _ (omega (arith, t.clock_is), spends) (λ _. tt)
      (record {
        clock_is = on_time moment (now h) l.clock t.clock_is fit;
        begins_are = t.begins_are;
        cache_tells = t.cache_tells;
        numbers_tell = start_denied_tells l.numbers numbers h n t.numbers_tell moment cause fetch.0 fetch.1 puts;
      }) puts.rising

  pub returned_follows : (n : ℕ) (fetch : Fetch) (numbers : PermitNumbers) → phases_of l.numbers n ≡ Some (Unspent fetch) → Puts l.numbers n None numbers →
      MayCome l.numbers.rising h (Returned n) × Enters l.numbers.rising (h ▸ Returned n) (record l { clock = l.clock; begins = l.begins; cache = l.cache; numbers = numbers })
  returned_follows n fetch numbers some puts =
      comes (Returned n) _ (unspent_of n ∙ ap is_unspent_in some) (λ _. tt)
      (record {
        clock_is = omega (arith, t.clock_is);
        begins_are = t.begins_are;
        cache_tells = t.cache_tells;
        numbers_tell = returned_tells l.numbers numbers h n t.numbers_tell fetch some puts;
      }) puts.rising

  pub finished_follows : (n : ℕ) (numbers : PermitNumbers) → is_running_in (phases_of l.numbers n) ≡ true → Puts l.numbers n None numbers →
      MayCome l.numbers.rising h (Finished n) × Enters l.numbers.rising (h ▸ Finished n) (record l { clock = l.clock; begins = l.begins; cache = l.cache; numbers = numbers })
  finished_follows n numbers runs puts =
      let one = running_one (phases_of l.numbers n) runs in
      comes (Finished n) _ (running_of n ∙ runs) (λ _. tt)
      (record {
        clock_is = omega (arith, t.clock_is);
        begins_are = t.begins_are;
        cache_tells = t.cache_tells;
        numbers_tell = finished_tells l.numbers numbers h n t.numbers_tell one.0 one.1 puts;
      }) puts.rising
    where
      running_one : (o : Option Phase) → is_running_in o ≡ true → (fetch : Fetch) × (o ≡ Some (Running fetch))
      running_one None is = absurd (true≢false (sym is))
      running_one (Some (Unspent fetch)) is = absurd (true≢false (sym is))
      running_one (Some (Running fetch)) is = (fetch, refl)

pub told : (l : OpenState) (known : Known) (h : History) → known ≡ l.cache → Tells l h → Tells (record l { cache = known }) h
told l known h same t = subst (λ (k : Known). Tells (record l { cache = k }) h) (sym same) t

-- ---- what calls answered

pub begins_fine : {old new : Known} {authority : List ℕ} {flight : Flight} (r : Result (Unit {0}) FlightRefusal) → is_err r ≡ false → Begins old authority flight r new →
    (is_flying (site_of old authority) ≡ false) × Changes old authority (with_flight flight (site_of old authority)) new
begins_fine (Ok _) is b = (b.0, b.2)
begins_fine (Err e) is b = absurd (true≢false is)

pub arrives_fine : (old new : Known) (authority : List ℕ) (turn : ℕ) (answer : Timed) (r : Result (Unit {0}) Stale) → is_err r ≡ false → Arrives old authority turn answer r new →
    (site_turn turn (site_of old authority) ≡ true) × Changes old authority (arrived turn answer.says answer.life (site_of old authority)) new
arrives_fine old new authority turn answer (Ok _) is b = b
arrives_fine old new authority turn answer (Err e) is b = absurd (true≢false is)

pub arrives_stale : (old new : Known) (authority : List ℕ) (turn : ℕ) (answer : Timed) (r : Result (Unit {0}) Stale) → is_err r ≡ true → Arrives old authority turn answer r new →
    site_turn turn (site_of old authority) ≡ false
arrives_stale old new authority turn answer (Ok _) is b = absurd (true≢false (sym is))
arrives_stale old new authority turn answer (Err e) is b = b.0

pub allowed_by : (h : History) (token url : List ℕ) (moment : ℕ) (r : Result Reason Cause) → is_err r ≡ false → Decides h token url moment r → (reason : Reason) × Decides h token url moment (Ok reason)
allowed_by h token url moment (Ok reason) is decided = (reason, decided)
allowed_by h token url moment (Err cause) is decided = absurd (true≢false is)

pub none_given : (o : Option Phase) (r : Option (Bor Fetch)) → GivesUnspent o r → is_some r ≡ false → is_unspent_in o ≡ false
none_given o None gives is = gives
none_given o (Some fetch) gives is = absurd (true≢false is)

pub some_given : (o : Option Phase) (r : Option (Bor Fetch)) → GivesUnspent o r → is_some r ≡ true → (fetch : Fetch) × (o ≡ Some (Unspent fetch))
some_given o None gives is = absurd (true≢false (sym is))
some_given o (Some fetch) gives is = (fetch.now, gives)
