-- Where the fetches of a robots.txt may lead: over redirects, each from where the one before it led.
-- RFC 9309, section 2.3.1.2.
use Rattle.std.specs.Prelude.{◌≡◌, ◌∷◌, [], ℕ, List, Result, Ok, Err}
use Rattle.path_normal.specs.declared.schemes.Schemes.{Schemes}
use Rattle.path_normal.specs.PageText.{robots_url_of}
use Rattle.http_wire.specs.declared.fault.WireFault.{WireFault}
use Rattle.http_wire.specs.declared.fault.WireFault.TheVariants as faults
use Rattle.http_wire.specs.declared.response.HttpReply.{HttpReply}
use Rattle.robots_fetch.specs.declared.reply.RobotsReply.{RobotsReply}
use Rattle.robots_fetch.specs.declared.reply.RobotsReply.TheVariants.{Status, CodingFault, NetworkFault}
use Rattle.robots_fetch.specs.Walk.{LeadsAmong}

-- a fetch's result, as a walk reads it
abbrev pub robots_reply_of : Result HttpReply WireFault → RobotsReply
robots_reply_of (Ok reply) = Status reply.status reply.location reply.body reply.max_age
robots_reply_of (Err faults.Coding) = CodingFault
robots_reply_of (Err fault) = NetworkFault

-- redirects lead from one URL to the other, each given for the URL that the one before led to, for pages of these
-- schemes
abbrev pub AreLed : Schemes → (List ℕ → Result HttpReply WireFault → Type 0) → List ℕ
    → List (Result HttpReply WireFault) → List ℕ → Type 0
AreLed schemes gives url [] end = url ≡ end
AreLed schemes gives url (given ∷ later) end =
    gives url given × ((next : List ℕ)
    × (LeadsAmong schemes url (robots_reply_of given) next × AreLed schemes gives next later end))

-- fetches led from the authority's robots.txt to this URL
abbrev pub IsOnWalk : Schemes → (List ℕ → Result HttpReply WireFault → Type 0) → List ℕ → List ℕ → Type 0
IsOnWalk schemes gives authority url =
    (way : List (Result HttpReply WireFault)) × AreLed schemes gives (robots_url_of authority) way url
