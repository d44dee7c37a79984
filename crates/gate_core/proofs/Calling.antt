-- From the steps of a call to its reply.
-- Used by `Book::begin`, `Book::start`, `Book::url_of` and `Book::ask_judged`.
use Rattle.std.proofs.Common.{◌≡◌, ◌<◌, ◌≤◌, ℕ, Bool, true, false, inl, inr, List, refl, sym, ap, ◌∙◌, subst}
use Rattle.std.specs.Prelude.{MatchBool, Option, Result, Ok, Err}
use Rattle.std.proofs.lemmas.Bool.{cases_lt, true≢false}
use Rattle.std.proofs.lemmas.Slice.Eq.{bytes_eq-Decides}
use Rattle.authority_cache.specs.Sites.{is_flying, site_of}
use Rattle.permit_book.specs.declared.out.Fetch.{Fetch}
use Rattle.permit_book.specs.declared.out.SlotContent.{SlotContent}
use Rattle.permit_book.specs.declared.out.SlotContent.TheVariants.{Nothing, Running, Unspent}
use Rattle.permit_book.specs.Table.{is_fetch_of, is_permit_for, is_unspent, is_unspent_out, out_under, stands, url_out}
use Rattle.gate_history.specs.declared.entry.Entry.TheVariants.{Begun, Granted, StartDenied}
use Rattle.gate_history.specs.declared.outcome.Cause.{Cause}
use Rattle.gate_history.specs.declared.outcome.Cause.TheVariants.{Spent}
use Rattle.gate_history.specs.Cause.{Decides}
use Rattle.gate_history.specs.Outstanding as outstanding
use Rattle.gate_history.specs.Standing.{is_fetching}
use Rattle.gate_core.specs.declared.book.Book.TheInside.{Inside}
use Rattle.gate_core.specs.declared.refusal.AskRefusal.{AskRefusal}
use Rattle.gate_core.specs.declared.refusal.AskRefusal.TheVariants as ask
use Rattle.gate_core.specs.declared.refusal.BeginRefusal.{BeginRefusal}
use Rattle.gate_core.specs.declared.refusal.BeginRefusal.TheVariants as begin
use Rattle.gate_core.specs.Gate.{Adds, Gate, HasRoom, history, Stays}
use Rattle.gate_core.specs.Kept.{gate_of, IsKept}
use Rattle.gate_core.specs.Opened.{Grants, OpensTurn}
use Rattle.gate_core.specs.PermitUrls.{IsPermitUrl}
use Rattle.gate_core.specs.Replies.{Asks, Begins, IsAllowed, moment_at, Starts}
use Rattle.gate_core.proofs.Keeping.{reads, told}
use Rattle.gate_core.proofs.Looking.{fetching_is}

pub fetching_as : (b : Inside) → IsKept b → (g : Gate) → gate_of b ≡ g → (authority text : List ℕ) → text ≡ authority → (says : Bool) →
    says ≡ is_flying (site_of b.cache text) → says ≡ is_fetching (history g) authority
fetching_as b kept g is authority text same says flying =
    flying ∙ fetching_is b kept text ∙ ap (is_fetching (told b)) same ∙ ap (λ (g : Gate). is_fetching (history g) authority) is

pub begins_by : (g : Gate) (authority : List ℕ) (m moment : ℕ) → moment ≡ moment_at g m → is_fetching (history g) authority ≡ false → HasRoom g 2 → (r : Result ℕ BeginRefusal) (new : Gate) →
    OpensTurn g authority moment r new → Begins g authority m r new
begins_by g authority m moment is idle room (Ok turn) new opens =
    (idle, room, opens.0, opens.1, subst (λ (t : ℕ). Adds g (Begun t authority turn) new) is opens.2)
begins_by g authority m moment is idle room (Err begin.AuthoritiesFull) new opens = (idle, room, opens.0, opens.1)
begins_by g authority m moment is idle room (Err begin.NoMemory) new opens = (idle, room, opens)
begins_by g authority m moment is idle room (Err begin.InFlight) new opens = absurd opens
begins_by g authority m moment is idle room (Err begin.LogFull) new opens = absurd opens

pub stands_as : (b : Inside) → IsKept b → (g : Gate) → gate_of b ≡ g → (number : ℕ) (token url : List ℕ) → stands b.permits number token url ≡ outstanding.stands (history g) number token url
stands_as b kept g is number token url =
    (reads b kept b.entries).permits number token url ∙ ap (λ (g : Gate). outstanding.stands (history g) number token url) is

pub permit_url_as : (b : Inside) → IsKept b → (g : Gate) → gate_of b ≡ g → (number : ℕ) → is_unspent b.permits number ≡ true → (url : Option (List ℕ)) →
    url ≡ url_out (out_under b.permits number) → IsPermitUrl (history g) number url
permit_url_as b kept g is number out_is url same =
    subst (IsPermitUrl (history g) number) (sym same) (by (out_under b.permits number) refl out_is)
  where
    own : (fetch : Fetch) → is_fetch_of fetch.token fetch.url fetch ≡ true
    own fetch = rw ((bytes_eq-Decides fetch.token fetch.token).1 refl, (bytes_eq-Decides fetch.url fetch.url).1 refl) refl

    by : (out : SlotContent) → out_under b.permits number ≡ out → is_unspent_out out ≡ true → IsPermitUrl (history g) number (url_out out)
    by (Unspent fetch) under out_is =
        (fetch.token, sym (stands_as b kept g is number fetch.token fetch.url) ∙ ap (is_permit_for fetch.token fetch.url) under ∙ own fetch)
    by (Running fetch) under out_is = absurd (true≢false (sym out_is))
    by Nothing under out_is = absurd (true≢false (sym out_is))

pub start_spent : (g : Gate) (number : ℕ) (token url : List ℕ) (m : ℕ) → outstanding.stands (history g) number token url ≡ false → Starts g number token url m (Err (record { url = url; cause = Spent })) g
start_spent g number token url m none = (refl, by _ (outstanding.stands (history g) number token url) none)
  where
    by : (P : Type 0) (b : Bool) → b ≡ false → MatchBool b P ((Spent ≡ Spent) × Stays g g)
    by P true is = absurd (true≢false is)
    by P false is = (refl, refl)

pub start_denied : (g new : Gate) (number : ℕ) (token url : List ℕ) (m : ℕ) (cause : Cause) → outstanding.stands (history g) number token url ≡ true →
    Decides (history g) token url (moment_at g m) (Err cause) → Adds g (StartDenied (moment_at g m) number cause) new → Starts g number token url m (Err (record { url = url; cause = cause })) new
start_denied g new number token url m cause out decided adds = (refl, by _ (outstanding.stands (history g) number token url) out)
  where
    by : (Q : Type 0) (b : Bool) → b ≡ true → MatchBool b (Decides (history g) token url (moment_at g m) (Err cause) × Adds g (StartDenied (moment_at g m) number cause) new) Q
    by Q true is = (decided, adds)
    by Q false is = absurd (true≢false (sym is))

pub asks_by : (g : Gate) (token url : List ℕ) (m moment : ℕ) → moment ≡ moment_at g m → HasRoom g 3 → IsAllowed g token url m → (r : Result ℕ AskRefusal) (new : Gate) →
    Grants g token url moment r new → Asks g token url m r new
asks_by g token url m moment is room allowed (Ok number) new grants =
    (room, allowed, grants.0, grants.1, subst (λ (t : ℕ). Adds g (Granted t number (record { token = token; url = url })) new) is grants.2)
asks_by g token url m moment is room allowed (Err ask.PermitsFull) new grants = (room, allowed, grants.0, grants.1, grants.2)
asks_by g token url m moment is room allowed (Err ask.NoMemory) new grants = (room, grants)
asks_by g token url m moment is room allowed (Err ask.Busy) new grants = (room, allowed, grants.0, grants.1)
asks_by g token url m moment is room allowed (Err ask.LogFull) new grants = absurd grants
asks_by g token url m moment is room allowed (Err (ask.Denied d)) new grants = absurd grants

pub full : {a b : ℕ} → (a ≤ b → ⊥) → b < a
full {a} {b} not = elim (cases_lt b a) [ inl less ↦ less | inr fits ↦ absurd (not fits) ]
