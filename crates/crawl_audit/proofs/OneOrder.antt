-- Bases in order that say the same are equal.
-- Used by `laws`.
use Rattle.std.proofs.Common.{◌≡◌, ℕ, ◌≤◌, ◌==◌, List, length, filter, sym, ap, ◌∙◌, arith}
use Rattle.std.proofs.lemmas.Cmp.{nat_cmp_total}
use Rattle.std.proofs.lemmas.List.Sorted.{ranks_by}
use Rattle.permit_book.specs.declared.granted_permit.GrantedPermit.{GrantedPermit}
use Rattle.permit_book.specs.Outstanding.{is_numbered}
use Rattle.permit_book.proofs.CallerLemmas.{same_number}
use Rattle.authority_cache.specs.declared.turn.Turn.{Turn}
use Rattle.authority_cache.specs.Lists.{has_number, is_turn_of}
use Rattle.gate_history.specs.declared.base.SlotGrant.{SlotGrant}
use Rattle.gate_history.specs.Grants.{is_in}
use Rattle.gate_history.specs.Order.{GrantsRise, PermitsRise, TurnsRise}
use Rattle.gate_history.proofs.CallerLemmas.{nat_tie, once, one_order, one_standing, same_text}
use Rattle.crawl_audit.specs.Laws.{OneNextBase}

one_flights : (xs ys : List Turn) → TurnsRise xs → TurnsRise ys → ((n : ℕ) → length (filter (has_number n) xs) ≤ 1) → ((a : List ℕ) → filter (is_turn_of a) xs ≡ filter (is_turn_of a) ys) → xs ≡ ys
one_flights xs ys sx sy few same =
    one_order _ (ranks_by nat_cmp_total (λ (t : Turn). t.turn)) is_turn_of (λ t. t.authority) (λ t. same_text t.authority) xs ys sx sy
    (λ z w there here p q. once (has_number z.turn) xs z w (few z.turn) (same_number z.turn) (ap (λ n. n == z.turn) (sym (nat_tie z.turn w.turn p q)) ∙ same_number z.turn) there here) same

one_permits : (xs ys : List GrantedPermit) → PermitsRise xs → PermitsRise ys → ((n : ℕ) → length (filter (is_numbered n) xs) ≤ 1) → ((n : ℕ) → filter (is_numbered n) xs ≡ filter (is_numbered n) ys) → xs ≡ ys
one_permits xs ys sx sy few same =
    one_order _ (ranks_by nat_cmp_total (λ (p : GrantedPermit). p.number)) is_numbered (λ p. p.number) (λ p. same_number p.number) xs ys sx sy
    (λ z w there here p q. once (is_numbered z.number) xs z w (few z.number) (same_number z.number) (ap (λ n. n == z.number) (sym (nat_tie z.number w.number p q)) ∙ same_number z.number) there here) same

one_grants : (xs ys : List SlotGrant) → GrantsRise xs → GrantsRise ys → ((n : ℕ) → length (filter (is_in n) xs) ≤ 1) → ((n : ℕ) → filter (is_in n) xs ≡ filter (is_in n) ys) → xs ≡ ys
one_grants xs ys sx sy few same =
    one_order _ (ranks_by nat_cmp_total (λ (g : SlotGrant). g.slot)) is_in (λ g. g.slot) (λ g. same_number g.slot) xs ys sx sy
    (λ z w there here p q. once (is_in z.slot) xs z w (few z.slot) (same_number z.slot) (ap (λ n. n == z.slot) (sym (nat_tie z.slot w.slot p q)) ∙ same_number z.slot) there here) same

pub one_next_base : OneNextBase
one_next_base h a b base order order' says says' =
    let permits = base.permits in
    let turns = base.turns in
    let standing = one_standing a.standing b.standing order.answers order'.answers turns.answers_once (λ k. says.answers.each k ∙ sym (says'.answers.each k)) in
    let flights = one_flights a.in_flight b.in_flight order.turns order'.turns (λ n. (let few = turns.turns_once n in omega arith)) (λ k. says.turns.each k ∙ sym (says'.turns.each k)) in
    let unspent = one_permits a.unspent b.unspent order.permits order'.permits (λ n. (let few = permits.numbers_once n in omega arith)) (λ k. says.permits.each k ∙ sym (says'.permits.each k)) in
    let running = one_permits a.running b.running order.runs order'.runs (λ n. (let few = permits.numbers_once n in omega arith)) (λ k. says.runs.each k ∙ sym (says'.runs.each k)) in
    let grants = one_grants a.grants b.grants order.grants order'.grants permits.slots_once (λ k. says.slots.each k ∙ sym (says'.slots.each k)) in
    let begins = says.begun ∙ sym says'.begun in
    let moment = says.moment ∙ sym says'.moment in
    let entries = says.entries ∙ sym says'.entries in
    let started = says.started ∙ sym says'.started in
    λ i. record {
      standing = standing i;
      in_flight = flights i;
      unspent = unspent i;
      running = running i;
      grants = grants i;
      begins = begins i;
      moment = moment i;
      entries = entries i;
      started = started i;
    }
