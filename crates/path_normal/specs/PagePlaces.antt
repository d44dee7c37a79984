-- What a page keeps beside its text.
-- RFC 9309, section 2.2.2.
use Rattle.std.specs.Prelude.{ℕ, List, box_value}
use Rattle.path_normal.specs.declared.page.HostRange.{HostRange}
use Rattle.path_normal.specs.declared.page.PagePlaces.{PagePlaces}
use Rattle.path_normal.specs.declared.page.PagePlaces.TheVariants.{Kept, Rewritten}

-- where its host is
abbrev pub host_in : PagePlaces → HostRange
host_in (Kept host) = host
host_in (Rewritten host form) = host

-- the normal form of its target
abbrev pub form_in : PagePlaces → List ℕ → List ℕ
form_in (Kept host) target = target
form_in (Rewritten host form) target = (box_value form).items
