-- No page so far has the URL, so the pages behind them decide.
use Rattle.std.proofs.Common.{◌≡◌, drop}
use Rattle.scripted_sites.specs.Scripted.{scripted_response}
use Rattle.scripted_sites.proofs.sites.ScriptedSites.response.Given as goal

abbrev pub invariant-loop-page : goal.invariant-loop-page
invariant-loop-page l = scripted_response l.self.pages.now l.url ≡ scripted_response (drop l.page-index l.self.pages.now) l.url
