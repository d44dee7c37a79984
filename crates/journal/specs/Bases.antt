-- When a journal's files need another base, and how far they are from the last one.
-- Used by `Distance`.
use Rattle.std.specs.Prelude.{◌⊎◌, ◌<◌, ◌+◌, ◌-◌, ◌/◌, ◌^◌, ℕ, Option, None, Some, min}
use Rattle.journal.specs.declared.distance.Distance.{Distance}

-- the octets of a file past which the next one is due: 64 MiB
abbrev pub file_octets : ℕ
file_octets = 67108864

-- the entries since the last base past which another one is due
abbrev pub base_entries : ℕ
base_entries = 500000

-- the files since the last base past which another one is due
abbrev pub base_files : ℕ
base_files = 24

-- the entries since the last base at which no new ones are made
abbrev pub text_entries : ℕ
text_entries = 750000

-- the octets since the last base past which another one is due: those of a file, or an eighth of what all may have
abbrev pub most_octets : Option ℕ → ℕ
most_octets None = file_octets
most_octets (Some limit) = min (limit / 8) file_octets

-- the octets since the last base are many, and more than it has
abbrev pub HasManyOctets : Distance → Option ℕ → Type 0
HasManyOctets d limit = (most_octets limit < d.octets) × (d.base < d.octets)

-- another base is due: by entries, by files or by octets
abbrev pub IsFar : Distance → Option ℕ → Type 0
IsFar d limit = (base_entries < d.entries) ⊎ ((base_files < d.files) ⊎ HasManyOctets d limit)

-- the text since the last base has room for new entries
abbrev pub HasTextRoom : Distance → Type 0
HasTextRoom d = d.entries < text_entries

-- so many octets more
abbrev pub octets_added : Distance → ℕ → Distance
octets_added d octets = record {
  entries = d.entries;
  files = d.files;
  octets = min (d.octets + octets) (2 ^ 64 - 1);
  base = d.base;
}

-- so many entries more
abbrev pub entries_added : Distance → ℕ → Distance
entries_added d entries = record {
  entries = min (d.entries + entries) (2 ^ 64 - 1);
  files = d.files;
  octets = d.octets;
  base = d.base;
}

-- a file more
abbrev pub file_added : Distance → Distance
file_added d = record { entries = d.entries; files = min (d.files + 1) (2 ^ 64 - 1); octets = d.octets; base = d.base }

-- the distance from a base that was put where the distance from the one before was this
abbrev pub distance_from : Distance → Distance → ℕ → Distance
distance_from now there base = record {
  entries = now.entries - there.entries;
  files = now.files - there.files;
  octets = now.octets - there.octets;
  base = base;
}
