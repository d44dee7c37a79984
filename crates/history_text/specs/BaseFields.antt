-- A base's fields: numbers below 2 to the 64, and authorities, bodies, tokens and URLs that read as
-- themselves.
-- RFC 9309, sections 2.2.1 and 2.5.
use Rattle.std.specs.Prelude.{All}
use Rattle.path_normal.specs.Authority.{IsAuthority}
use Rattle.permit_book.specs.declared.granted_permit.GrantedPermit.{GrantedPermit}
use Rattle.permit_book.specs.Outstanding.{fetch_of}
use Rattle.authority_cache.specs.declared.standing_answer.StandingAnswer.{StandingAnswer}
use Rattle.authority_cache.specs.declared.turn.Turn.{Turn}
use Rattle.gate_history.specs.declared.base.SlotGrant.{SlotGrant}
use Rattle.gate_history.specs.Base.{Base}
use Rattle.history_text.specs.Entries.{IsFetch, IsNumber, IsSaid}

-- an answer
pub record IsAnswerRow (s : StandingAnswer) : Type 0 where
  pub authority : IsAuthority s.authority
  pub turn : IsNumber s.turn
  pub begun : IsNumber s.begun
  pub life : IsNumber s.life
  pub says : IsSaid s.says

-- a turn in flight
pub record IsTurnRow (t : Turn) : Type 0 where
  pub authority : IsAuthority t.authority
  pub turn : IsNumber t.turn
  pub begun : IsNumber t.begun

-- a slot and its largest generation
pub record IsGrantRow (g : SlotGrant) : Type 0 where
  pub slot : IsNumber g.slot
  pub generation : IsNumber g.generation

-- a permit that is out
pub record IsPermitRow (p : GrantedPermit) : Type 0 where
  pub number : IsNumber p.number
  pub fetch : IsFetch (fetch_of p)

-- the numbers of a base
pub record HasNumbers (b : Base) : Type 0 where
  pub entries : IsNumber b.entries
  pub started : IsNumber b.started
  pub begins : IsNumber b.begins
  pub moment : IsNumber b.moment

-- the fields of a base
pub record HasBaseFields (b : Base) : Type 0 where
  pub standing : All IsAnswerRow b.standing
  pub in_flight : All IsTurnRow b.in_flight
  pub grants : All IsGrantRow b.grants
  pub unspent : All IsPermitRow b.unspent
  pub running : All IsPermitRow b.running
  pub numbers : HasNumbers b
