-- What sites in memory give for a URL.
-- Used by `ScriptedSites`.
use Rattle.std.specs.Prelude.{◌≡◌, ℕ, List, [], ◌∷◌, Option, None, Some, Result, Err, MatchOption, bytes_eq, if◌then◌else◌}
use Rattle.http_wire.specs.declared.fault.WireFault.{WireFault}
use Rattle.http_wire.specs.declared.fault.WireFault.TheVariants.{Device}
use Rattle.http_wire.specs.declared.response.HttpReply.{HttpReply}
use Rattle.http_wire.specs.Response.{Tells}
use Rattle.scripted_sites.specs.declared.sites.ScriptedPage.{ScriptedPage}

-- the response of the first page with the URL
abbrev pub scripted_response : List ScriptedPage → List ℕ → Option (List ℕ)
scripted_response [] url = None
scripted_response (page ∷ pages) url =
    if bytes_eq page.url.now url then Some page.response.now else scripted_response pages url

-- the result is that response within a limit, or the fault of an unknown host
abbrev pub IsScripted : List ScriptedPage → List ℕ → ℕ → Result HttpReply WireFault → Type 0
IsScripted pages url limit result =
    MatchOption (scripted_response pages url) (result ≡ Err Device) (λ response. Tells (Some response) limit result)

-- `IsScripted` with the arguments of a fetcher's predicate
abbrev pub GivesScripted : List ScriptedPage → ℕ → List ℕ → Result HttpReply WireFault → Type 0
GivesScripted pages limit url result = IsScripted pages url limit result
