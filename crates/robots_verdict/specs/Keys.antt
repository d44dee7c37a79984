-- The keys that sort plain places, with the first octets of their patterns as a number.
-- Cited by `Key`.
use Rattle.std.specs.Prelude.{◌≡◌, ℕ, ◌+◌, ◌*◌, ◌^◌, ◌≤◌, not, List, [], Contains, length, min, nat_lt, if◌then◌else◌}
use Rattle.std.specs.List.Sorted.{IsSortedBy}
use Rattle.path_pattern.specs.Texts.{AreOctets, spelled_number}
use Rattle.std.specs.declared.cmp.Ordering.{Ordering}
use Rattle.std.specs.declared.cmp.Ordering.TheVariants.{Equal}
use Rattle.std.specs.Ordering.{is_gt, is_lt, nat_cmp, ordering_then}
use Rattle.std.specs.Cmp.Lexicographic.{slice_cmp}
use Rattle.robots_verdict.specs.declared.keys.Key.{Key}
use Rattle.robots_verdict.specs.Placed.{Placed}
use Rattle.robots_verdict.specs.Rows.{row_at}

-- both halves as a number
abbrev pub number : Key → ℕ
number key = key.front * 2 ^ 64 + key.next

-- the key of a place: its group, the first sixteen octets of its pattern as a number, and its length up to 17
pub record IsKeyOf (rows : List Placed) (key : Key) : Type 0 where
  pub group : key.group ≡ (row_at rows key.place).group
  pub spelled : number key ≡ spelled_number 16 0 (row_at rows key.place).form
  pub cut : key.cut ≡ min 17 (length (row_at rows key.place).form)
  pub octets : AreOctets (row_at rows key.place).form

-- the pattern if it has more than sixteen octets, else nothing
abbrev pub if_long : List Placed → Key → List ℕ
if_long rows key = if nat_lt 16 key.cut then (row_at rows key.place).form else []

-- the order of keys with equal numbers: by length up to 17, and by pattern if longer
abbrev pub compare_alike : List Placed → Key → Key → Ordering
compare_alike rows one other =
    ordering_then (nat_cmp one.cut other.cut) (slice_cmp nat_cmp (if_long rows one) (if_long rows other))

-- the order of a group's keys: by pattern
abbrev pub compare_patterns : List Placed → Key → Key → Ordering
compare_patterns rows one other = ordering_then (nat_cmp (number one) (number other)) (compare_alike rows one other)

-- keys in order: by group, then by pattern
abbrev pub compare_keys : List Placed → Key → Key → Ordering
compare_keys rows one other = ordering_then (nat_cmp one.group other.group) (compare_patterns rows one other)

-- no key is before the one in front of it
abbrev pub AreSorted : List Placed → List Key → Type 0
AreSorted rows keys = IsSortedBy (λ one other. is_lt (compare_keys rows one other)) keys

-- each key is behind the one in front of it
abbrev pub AreApart : List Placed → List Key → Type 0
AreApart rows keys = IsSortedBy (λ one other. not (is_gt (compare_keys rows one other))) keys

-- among the keys is one with the same group and pattern whose place is as strong
pub record IsKept (rows : List Placed) (keys : List Key) (key : Key) : Type 0 where
  pub by : Key
  pub stands : Contains keys by
  pub alike : compare_keys rows by key ≡ Equal
  pub above : by.place ≤ key.place

-- these are some of the keys, in order, and for each of those one with its group and pattern
pub record AreKept (rows : List Placed) (keys kept : List Key) : Type 0 where
  pub few : length kept ≤ length keys
  pub are : (key : Key) → Contains kept key → Contains keys key
  pub each : (key : Key) → Contains keys key → IsKept rows kept key
  pub apart : AreApart rows kept
