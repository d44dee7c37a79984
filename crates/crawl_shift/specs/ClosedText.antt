-- The line for a closed site, as docs/FORMATS.md has it.
-- Used by `closed_sites`.
use Rattle.std.specs.Prelude.{ℕ, List, ◌++◌, codes, string_bytes}
use Rattle.crawl_shift.specs.Causes.{closing_text}
use Rattle.crawl_shift.specs.declared.closed_sites.ClosedSite.{ClosedSite}

-- the site, and what closed it, in the table's words
abbrev pub closed_site_text : ClosedSite → List ℕ
closed_site_text site = string_bytes site.authority ++ (codes " is closed: " ++ (closing_text site.by ++ codes "\n"))
