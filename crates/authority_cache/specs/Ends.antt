-- When answers end: ends kept so that a sweep need not walk over all sites, what each step does to
-- them, and that they cover the answers.
-- RFC 9309, section 2.4.
use Rattle.std.specs.Prelude.{◌≡◌, ◌≢◌, ℕ, ◌+◌, ◌-◌, ◌^◌, ◌<◌, ◌≤◌, ◌==◌, Bool, true, false, ◌&&◌, ◌||◌, min, List, map, length, Some, None, IfSome, if◌then◌else◌, slice_get, string_bytes, swap_remove}
use Rattle.std.specs.BinaryHeap.{IsHeap, heap_capacity, heap_items}
use Rattle.std.specs.declared.cmp.Ordering.{Ordering}
use Rattle.std.specs.declared.cmp.Reverse.{Reverse}
use Rattle.std.specs.declared.string.String.{String}
use Rattle.std.specs.List.{list_any}
use Rattle.std.specs.Map.{lookup}
use Rattle.std.specs.Ordering.{nat_cmp, ordering_then}
use Rattle.std.specs.Str.{bytes_eq}
use Rattle.indexmap.specs.IndexMap.{set_value_at}
use Rattle.authority_cache.specs.declared.ends.Ends.TheInside.{Inside}
use Rattle.authority_cache.specs.declared.site.Site.{Site}
use Rattle.authority_cache.specs.Sites.{Answered, Known, State, count_of, has_past, is_flying, nothing_known, past_count, said_site, site_of, swept}

-- an end: the last moment in force, in seconds, and the site's index
abbrev pub End : Type 0
End = ℕ × ℕ

-- the ends, and how many fit in memory
pub record KeptEnds : Type 0 where
  pub ends : List End
  pub room : ℕ

-- the ends in a heap
abbrev pub kept_of : Inside → KeptEnds
kept_of e = record { ends = map (λ r. r.0) (heap_items e.heap); room = heap_capacity e.heap }

-- the heap's order, reversed: it gives its greatest first, the first end
abbrev pub earlier : Reverse End → Reverse End → Ordering
earlier x y = ordering_then (nat_cmp y.0.0 x.0.0) (nat_cmp y.0.1 x.0.1)

-- the heap is in order
abbrev pub IsOrdered : Inside → Type 0
IsOrdered e = IsHeap earlier (heap_items e.heap)

-- two ends are equal
abbrev pub is_end : End → End → Bool
is_end e f = e.0 == f.0 && e.1 == f.1

-- the end is kept
abbrev pub has_end : KeptEnds → End → Bool
has_end kept e = list_any (is_end e) kept.ends

-- the end and all earlier ones are kept
pub record Adds (old : KeptEnds) (new_end : End) (new : KeptEnds) : Type 0 where
  pub ends : (e : End) → has_end new e ≡ (is_end e new_end || has_end old e)
  pub many : length new.ends ≡ length old.ends + 1
  pub room : old.room ≤ new.room

-- at most one end more is kept
pub record AddsOneAtMost (old new : KeptEnds) : Type 0 where
  pub many : length new.ends ≤ length old.ends + 1
  pub room : old.room ≤ new.room

-- this site's end was taken, its answer being out of force at this moment
pub record Takes (moment : ℕ) (old : KeptEnds) (site : ℕ) (new : KeptEnds) : Type 0 where
  pub last : ℕ
  pub before : last < moment
  pub ends : (e : End) → has_end old e ≡ (is_end e (last, site) || has_end new e)
  pub many : length old.ends ≡ length new.ends + 1
  pub room : new.room ≡ old.room

-- no end is before this moment
abbrev pub NoneBefore : ℕ → KeptEnds → Type 0
NoneBefore moment kept = (e : End) → has_end kept e ≡ true → moment ≤ e.0

-- the last moment that the answer is in force, at most 2^64 - 1
abbrev pub last_moment : Answered → ℕ
last_moment s = min (s.begun + s.life) (2 ^ 64 - 1)

-- the end of an answer is kept for the site of this index
abbrev pub CoversAt : KeptEnds → ℕ → State → Type 0
CoversAt kept site state = IfSome state.standing (λ s. has_end kept (last_moment s, site) ≡ true)

-- there is memory for the ends of all turns in flight
abbrev pub HasRoomForEnds : KeptEnds → ℕ → Type 0
HasRoomForEnds kept turns = length kept.ends + turns ≤ kept.room

module _ {Y : Type 0} where
  -- the end of each answer is kept
  abbrev pub Covers : KeptEnds → List (String Y × Site) → Type 0
  Covers kept entries = (i : ℕ) (e : String Y × Site) → slice_get entries i ≡ Some e → CoversAt kept i (said_site e.1)

  -- each end is kept, except perhaps at this index
  abbrev pub CoversBut : ℕ → KeptEnds → List (String Y × Site) → Type 0
  CoversBut site kept entries =
      (i : ℕ) (e : String Y × Site) → i ≢ site → slice_get entries i ≡ Some e → CoversAt kept i (said_site e.1)

  -- the end at this index is kept unless past
  abbrev pub CoversYoung : ℕ → ℕ → KeptEnds → List (String Y × Site) → Type 0
  CoversYoung moment site kept entries = (e : String Y × Site) → slice_get entries site ≡ Some e →
      has_past moment (said_site e.1) ≡ false → CoversAt kept site (said_site e.1)

  -- each other end is kept, and the one at this index unless past
  pub record CoversPast (moment site : ℕ) (kept : KeptEnds) (entries : List (String Y × Site)) : Type 0 where
    pub others : CoversBut site kept entries
    pub young : CoversYoung moment site kept entries

  -- whether the answer at this index is older than its lifetime
  abbrev pub SaysPastAt : ℕ → List (String Y × Site) → ℕ → Bool → Type 0
  SaysPastAt moment entries site says =
      (e : String Y × Site) → slice_get entries site ≡ Some e → says ≡ has_past moment (said_site e.1)

  -- the end of the answer at this index and all earlier ones are kept
  pub record KeepsEnd (entries : List (String Y × Site)) (site : ℕ) (old new : KeptEnds) : Type 0 where
    pub here : (e : String Y × Site) → slice_get entries site ≡ Some e → CoversAt new site (said_site e.1)
    pub others : (e : End) → has_end old e ≡ true → has_end new e ≡ true
    pub many : length new.ends ≤ length old.ends + 1
    pub room : old.room ≤ new.room

  -- the entry at this index has another value, of that name
  abbrev pub Writes : List (String Y × Site) → ℕ → List ℕ → State → List (String Y × Site) → Type 0
  Writes old site name state new =
      (w : Site) × (said_site w ≡ state) × (new ≡ set_value_at old site w) × (w.name ≡ name)

  -- the answer at this index is gone; whether a turn is in flight there
  abbrev pub DropsAnswer : List (String Y × Site) → ℕ → Bool → List (String Y × Site) → Type 0
  DropsAnswer old site is_fetching new = (e : String Y × Site) → slice_get old site ≡ Some e →
      (is_fetching ≡ is_flying (said_site e.1))
      × Writes old site e.1.name (record { standing = None; in_flight = (said_site e.1).in_flight }) new

  -- the entry of this index is gone, the last takes its place
  abbrev pub Removes : List (String Y × Site) → ℕ → List (String Y × Site) → Type 0
  Removes old site new = (e : String Y × Site) → slice_get old site ≡ Some e →
      (new ≡ swap_remove old site e)
      × ((a : List ℕ) → lookup (λ k. bytes_eq a (string_bytes k)) new
      ≡ (if bytes_eq (string_bytes e.0) a then None else lookup (λ k. bytes_eq a (string_bytes k)) old))

-- this many expired answers were dropped: a whole sweep now leaves what it would have left before
pub record SweepsPart (old : Known) (moment count : ℕ) (new : Known) : Type 0 where
  pub limit : new.limit ≡ old.limit
  pub sites : (authority : List ℕ) → swept moment (site_of new authority) ≡ swept moment (site_of old authority)
  pub dropped : count + past_count moment new ≡ past_count moment old
  pub counts : (test : State → Bool) → test nothing_known ≡ false →
      count_of (λ state. test (swept moment state)) new ≡ count_of (λ state. test (swept moment state)) old
