-- When a connection goes on after a response.
-- RFC 9112, sections 6.3, 9.3 and 9.6.
use Rattle.std.specs.Prelude.{◌≡◌, ℕ, IsTrue, false, List, [], Option, Result, Ok, Err, ⊤}
use Rattle.std.specs.Io.KnownBytes.{Consumes}
use Rattle.http_wire.specs.Heads.{head_fields}
use Rattle.http_wire.specs.Options.{persists}
use Rattle.http_wire.specs.Response.{GivesReply, Reply, reply_of}
use Rattle.http_wire.specs.declared.body.Body.{Body}
use Rattle.http_wire.specs.declared.ending.ConnectionEnding.{ConnectionEnding}
use Rattle.http_wire.specs.declared.ending.ConnectionEnding.TheVariants.{Close, KeepAlive}
use Rattle.http_wire.specs.declared.fault.WireFault.{WireFault}
use Rattle.http_wire.specs.declared.framing.Framing.{Framing}
use Rattle.http_wire.specs.declared.framing.Framing.TheVariants.{Counted, Chunked, ToEnd}
use Rattle.http_wire.specs.declared.head.FinalHead.{FinalHead}
use Rattle.http_wire.specs.declared.response.HttpReply.{HttpReply}

-- the body ends by a number of octets or by its chunks
abbrev pub IsDelimited : Framing → Type 0
IsDelimited (Counted size) = ⊤
IsDelimited Chunked = ⊤
IsDelimited ToEnd = ⊥

-- exactly the response's octets were taken, its body ended by itself and is whole, and its head lets the connection
-- go on
pub record GoesOn (left left' : Option (List ℕ)) (limit : ℕ) (reply : Reply) : Type 0 where
  pub octets : List ℕ
  pub taken : Consumes left left' octets
  pub gives : GivesReply octets limit reply []
  pub delimited : IsDelimited gives.framing
  pub whole : reply.cut ≡ false
  pub persists : IsTrue (persists gives.head.minor (head_fields gives.head))

-- a connection is kept alive only after such a response
abbrev pub EndsAs : Option (List ℕ) → Option (List ℕ) → ℕ → Result HttpReply WireFault → ConnectionEnding → Type 0
EndsAs left left' limit result Close = ⊤
EndsAs left left' limit (Ok reply) KeepAlive = GoesOn left left' limit (reply_of reply)
EndsAs left left' limit (Err fault) KeepAlive = ⊥

-- the head lets the connection go on, and the body is whole, ended by itself and alone
pub record MayGoOn (head : FinalHead) (body : Body) : Type 0 where
  pub delimited : IsDelimited head.framing
  pub whole : body.cut ≡ false
  pub alone : IsTrue body.alone
  pub persists : IsTrue head.persists
