-- Whom a site may write to about a crawl. RFC 9110, sections 5.6.5 and 10.1.5.
-- Cited by `contact` and `words`; docs/crawlgate.1.md has the option.
use Rattle.std.specs.Prelude.{◌≡◌, ◌≢◌, ◌≤◌, ℕ, List, length, All, Some, None, codes, string_bytes}
use Rattle.clap.specs.Words.{first_value}
use Rattle.clap.specs.declared.parser.matches.Found.{Found}
use Rattle.program_arguments.specs.declared.subcommand.Contact.{Contact}
use Rattle.program_arguments.specs.declared.subcommand.Contact.TheVariants as contacts

-- the most octets of a contact
abbrev pub contact_limit : ℕ
contact_limit = 256

-- a space or a visible ASCII character, but no parenthesis or backslash, which mean something in a comment
abbrev pub IsContactOctet : ℕ → Type 0
IsContactOctet octet = (32 ≤ octet) × (octet ≤ 126) × (octet ≢ 40) × (octet ≢ 41) × (octet ≢ 92)

-- one to the limit of such octets
abbrev pub IsContactText : List ℕ → Type 0
IsContactText text = (1 ≤ length text) × (length text ≤ contact_limit) × All IsContactOctet text

-- no contact, or a valid text
abbrev pub IsAllowedContact : Contact → Type 0
IsAllowedContact contacts.Untold = Unit {0}
IsAllowedContact (contacts.Text text) = IsContactText (string_bytes text)

-- the contact is the matched text, if any
abbrev pub IsContactOf : Found → Contact → Type 0
IsContactOf words contacts.Untold = first_value words (codes "contact") ≡ None
IsContactOf words (contacts.Text text) = first_value words (codes "contact") ≡ Some (string_bytes text)

-- the option's text is no valid contact
abbrev pub NamesNoContact : Found → Type 0
NamesNoContact words = (text : List ℕ) × ((first_value words (codes "contact") ≡ Some text) × ¬ (IsContactText text))
