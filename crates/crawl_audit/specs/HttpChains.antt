-- The chains that name only `http` pages and sites, by their entries and bases.
-- RFC 9309, section 2.3: a robots.txt holds for a scheme and an authority.
use Rattle.std.specs.Prelude.{◌≡◌, Bool, false, All, List}
use Rattle.path_normal.specs.PageText.{is_https}
use Rattle.permit_book.specs.declared.granted_permit.GrantedPermit.{GrantedPermit}
use Rattle.authority_cache.specs.declared.standing_answer.StandingAnswer.{StandingAnswer}
use Rattle.authority_cache.specs.declared.turn.Turn.{Turn}
use Rattle.gate_history.specs.declared.entry.Entry.{Entry}
use Rattle.gate_history.specs.declared.entry.Entry.TheVariants.{Begun, Arrived, Granted, AskDenied}
use Rattle.gate_history.specs.Base.{Base}
use Rattle.history_text.specs.Texts.{Text}

-- the entry names a site or a page of `https`
abbrev pub is_https_entry : Entry → Bool
is_https_entry (Begun moment authority turn) = is_https authority
is_https_entry (Arrived life moment authority turn says) = is_https authority
is_https_entry (Granted moment number fetch) = is_https fetch.url
is_https_entry (AskDenied moment fetch cause) = is_https fetch.url
is_https_entry _ = false

-- the entry names no `https`
abbrev pub IsHttpEntry : Entry → Type 0
IsHttpEntry e = is_https_entry e ≡ false

-- an answer's site is of `http`
abbrev pub IsHttpAnswer : StandingAnswer → Type 0
IsHttpAnswer s = is_https s.authority ≡ false

abbrev pub IsHttpTurn : Turn → Type 0
IsHttpTurn t = is_https t.authority ≡ false

abbrev pub IsHttpPermit : GrantedPermit → Type 0
IsHttpPermit p = is_https p.url ≡ false

-- what a base left open names only `http`
pub record IsHttpBase (b : Base) : Type 0 where
  pub standing : All IsHttpAnswer b.standing
  pub in_flight : All IsHttpTurn b.in_flight
  pub unspent : All IsHttpPermit b.unspent
  pub running : All IsHttpPermit b.running

-- the text names only `http`
pub record IsHttpText (t : Text) : Type 0 where
  pub base : IsHttpBase t.base
  pub entries : All IsHttpEntry t.entries

-- each text of the chain names only `http`
pub record IsHttpChain (first : Text) (later : List Text) : Type 0 where
  pub first_text : IsHttpText first
  pub later_texts : All IsHttpText later
