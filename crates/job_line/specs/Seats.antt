-- The invariants of lines and seats: a seat knows its holder's draws.
-- The invariants of `JobLine` and `JobSeat`.
use Rattle.std.specs.Prelude.{◌≡◌, ℕ, ◌<◌, ◌≤◌, true, false, All, List, [], length, slice_index_or, vec_capacity}
use Rattle.std.specs.List.{list_any}
use Rattle.job_line.specs.declared.rule.Hand.{Hand}
use Rattle.job_line.specs.declared.seat.JobSeat.TheInside.{Inside}
use Rattle.job_line.specs.declared.line.JobLine.TheInside.{Inside as InsideLine}
use Rattle.atomic_table.specs.Seated.{TableId}
use Rattle.job_line.specs.Limits.{max_jobs, max_workers}
use Rattle.atomic_table.specs.Table.{Me}
use Rattle.job_line.specs.Sums.{begins_from, jobs_in, weigh, weigh_all}
use Rattle.job_line.specs.Rule.{ends_at}
use Rattle.job_line.specs.Covers.{SeatView, end_found, has_ended, lists_of, parts_of}

-- what callers see of a seat
abbrev pub seat_view : Inside → SeatView
seat_view s = record {
  line = s.seat.table_id;
  counts = s.counts.items;
  parts = s.seat.me.0.parts;
  ended =
      s.ended.items;
  drawn = s.drawn.items;
}

-- the seat knows what its holder does, and has room for every job
pub record IsSeated (s : Inside) : Type 0 where
  pub counts : s.seat.me.0.counts ≡ s.counts.items
  pub limit : jobs_in s.counts.items ≤ max_jobs
  pub words : length s.counts.items ≤ s.seat.table_id.words
  pub begins : s.begins.items ≡ begins_from 0 s.counts.items
  pub sites : length s.ended.items ≡ length s.counts.items
  pub goes : (site : ℕ) → slice_index_or s.ended.items site false ≡ false → ends_at site s.seat.me.0 ≡ 0
  pub ends : (site : ℕ) → slice_index_or s.ended.items site false ≡ true → 0 < ends_at site s.seat.me.0
  pub drawn : s.seat.me.0.drawn ≡ s.drawn.items
  pub some : 0 < s.seat.me.0.parts
  pub bare : s.seat.me.1 ≡ []
  pub room : jobs_in s.counts.items ≤ vec_capacity s.drawn

-- the identity of a line, as callers see it
abbrev pub line_id : InsideLine → TableId
line_id line = line.table.shared.table_id

-- a line has a word, and empty room for the lists of all seats
pub record IsLine (line : InsideLine) : Type 0 where
  pub some_word : 0 < line.table.shared.table_id.words
  pub empty : line.lists.items ≡ []
  pub room : max_workers ≤ vec_capacity line.lists

-- the hand of a seat that took over these seats' draws
pub record HasTaken (line id : TableId) (me : Me (Unit {0}) Hand) (taken : List SeatView) : Type 0 where
  pub its_line : id ≡ line
  pub bare : me.1 ≡ []
  pub some : 0 < me.0.parts
  pub parts : me.0.parts ≡ parts_of taken
  pub ends : (site : ℕ) → end_found site taken ≡ true → 0 < ends_at site me.0
  pub one_ended : (counts : List ℕ) → All (λ seat. seat.counts ≡ counts) taken → list_any has_ended taken ≡ true
      → (site : ℕ) → site < length counts → 0 < ends_at site me.0
  pub drawn : (weight : ℕ → ℕ) → weigh weight me.0.drawn ≡ weigh_all weight (lists_of taken)
  pub counts : (counts : List ℕ) → All (λ seat. seat.counts ≡ counts) taken → me.0.counts ≡ counts
