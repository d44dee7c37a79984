-- What contracts see of a line of jobs and its seats.
use Rattle.std.specs.Prelude.{◌≡◌, ℕ, ◌+◌, ◌<◌, ◌≤◌, Bool, true, false, List, [], ◌∷◌, length, map, replicate, slice_index, slice_index_or}
use Rattle.std.specs.List.{list_all, list_any}
use Rattle.atomic_table.specs.Seated.{TableId}
use Rattle.job_line.specs.declared.line.Drawn.{Drawn}
use Rattle.job_line.specs.Sums.{begin_of, jobs_in, weigh_all, weigh_below, weigh_firsts}

-- a seat: its line, each site's jobs, its parts, the ends found, and what it drew
pub record SeatView : Type 0 where
  pub line : TableId
  pub counts : List ℕ
  pub parts : ℕ
  pub ended : List Bool
  pub drawn : List ℕ

-- the jobs of the seat's line
abbrev pub jobs_of : SeatView → ℕ
jobs_of seat = jobs_in seat.counts

-- the index is one of the site's, after those of earlier sites
pub record IsIndexOf (counts : List ℕ) (site : ℕ) (index : ℕ) : Type 0 where
  pub from : begin_of counts site ≤ index
  pub to : index < begin_of counts site + slice_index counts site

-- all parts of the seats: 16 for all seats of the line
abbrev pub parts_of : List SeatView → ℕ
parts_of [] = 0
parts_of (seat ∷ seats) = seat.parts + parts_of seats

-- the lists of the seats, in order
abbrev pub lists_of : List SeatView → List (List ℕ)
lists_of seats = map (λ seat. seat.drawn) seats

-- the seat found the site's end
abbrev pub ended_at : ℕ → SeatView → Bool
ended_at site seat = slice_index_or seat.ended site false

-- the seat found the end of each site
abbrev pub has_ended : SeatView → Bool
has_ended seat = list_all (λ ended. ended) seat.ended

-- some seat found the site's end
abbrev pub end_found : ℕ → List SeatView → Bool
end_found site seats = list_any (ended_at site) seats

-- the lists together have each number below this once
abbrev pub AreAllOnce : ℕ → List SeatView → Type 0
AreAllOnce jobs seats = (weight : ℕ → ℕ) → weigh_all weight (lists_of seats) ≡ weigh_below weight jobs

-- the lists together have each drawn index once: of each site the first ones, up to its jobs, and all if a seat found
-- its end. If each site's end was found, by some seat or by one, they have each job once
pub record Covers (counts : List ℕ) (seats : List SeatView) : Type 0 where
  pub firsts : List ℕ
  pub within : (site : ℕ) → slice_index firsts site ≤ slice_index counts site
  pub each : (weight : ℕ → ℕ) → weigh_all weight (lists_of seats) ≡ weigh_firsts weight counts firsts
  pub all : (site : ℕ) → end_found site seats ≡ true → slice_index firsts site ≡ slice_index counts site
  pub all_sites : ((site : ℕ) → site < length counts → end_found site seats ≡ true) → AreAllOnce (jobs_in counts) seats
  pub one_ended : list_any has_ended seats ≡ true → AreAllOnce (jobs_in counts) seats

-- a new seat of this line, without draws
pub record IsNew (line : TableId) (counts : List ℕ) (seat : SeatView) : Type 0 where
  pub its_line : seat.line ≡ line
  pub its_counts : seat.counts ≡ counts
  pub some_part : 0 < seat.parts
  pub goes : seat.ended ≡ replicate (length counts) false
  pub nothing : seat.drawn ≡ []

-- the lists that were gathered
abbrev pub drawn_lists : Drawn → List (List ℕ)
drawn_lists drawn = map (λ list. list.items) drawn.lists.items

-- a new seat with one part of another's
abbrev pub dealt_seat : SeatView → SeatView
dealt_seat seat = record { line = seat.line; counts = seat.counts; parts = 1; ended = seat.ended; drawn = [] }

-- the first seat, with all parts
abbrev pub first_seat : TableId → List ℕ → SeatView
first_seat line counts =
    record { line = line; counts = counts; parts = 16; ended = replicate (length counts) false; drawn = [] }
