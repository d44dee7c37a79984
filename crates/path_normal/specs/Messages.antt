-- What each fault says.
-- Cited by the `Display` of the faults, and by the lines that tell of URLs.
use Rattle.std.specs.Prelude.{ℕ, List, codes}
use Rattle.path_normal.specs.declared.fault.AuthorityFault.{AuthorityFault}
use Rattle.path_normal.specs.declared.fault.AuthorityFault.TheVariants as authorities
use Rattle.path_normal.specs.declared.fault.UrlFault.{UrlFault}
use Rattle.path_normal.specs.declared.fault.UrlFault.TheVariants as urls
use Rattle.path_normal.specs.declared.fault.Unread.{Unread}
use Rattle.path_normal.specs.declared.fault.Unread.TheVariants as unread

-- why a text is no page's URL
abbrev pub url_fault_text : UrlFault → List ℕ
url_fault_text urls.TooLong = codes "the URL is too long"
url_fault_text urls.BadUrl = codes "the text is no URL"
url_fault_text urls.NotHttp = codes "the URL's scheme is not http"
url_fault_text urls.HasUser = codes "the URL has a user name or a password"
url_fault_text urls.NoMemory = codes "no memory for the URL"

-- the words for it in replies and reports
abbrev pub url_fault_words : UrlFault → List ℕ
url_fault_words urls.TooLong = codes "url long"
url_fault_words urls.BadUrl = codes "url bad"
url_fault_words urls.NotHttp = codes "url scheme"
url_fault_words urls.HasUser = codes "url user"
url_fault_words urls.NoMemory = codes "url memory"

-- why a text was not read as a page's URL
abbrev pub unread_text : Unread → List ℕ
unread_text (unread.Fault fault) = url_fault_text fault
unread_text unread.Overflow = codes "the URL parser overflowed"
unread_text unread.NoMemory = codes "no memory for the URL"

-- why a text is no authority
abbrev pub authority_fault_text : AuthorityFault → List ℕ
authority_fault_text authorities.BadAuthority = codes "the text is no authority"
authority_fault_text authorities.NoMemory = codes "no memory for the authority"
