-- The rule for the shared words, one for each site, and their kinds of step. A word counts the draws at its site.
-- All lists together have each site's first indexes once: as many as the smaller of its word and its jobs. A word is
-- at most the site's jobs plus the times its end was found; and if a seat has found the end, at least the jobs.
use Rattle.std.specs.Prelude.{◌≡◌, ℕ, ◌+◌, ◌-◌, ◌<◌, ◌≤◌, nat_eq, nat_lt, All, List, [], ◌∷◌, ◌++◌, length, slice_index, if◌then◌else◌}
use Rattle.atomic_table.specs.Table.{State, Step, Me}
use Rattle.job_line.specs.declared.rule.Hand.{Hand}
use Rattle.job_line.specs.Limits.{max_jobs, max_workers}
use Rattle.job_line.specs.Sums.{begin_of, jobs_in, weigh, weigh_below, weigh_firsts}

-- the sum over all hands
abbrev pub total : (Hand → ℕ) → List Hand → ℕ
total f [] = 0
total f (hand ∷ hands) = f hand + total f hands

-- 1 for the same site, else 0
abbrev pub is_site : ℕ → ℕ → ℕ
is_site site other = if nat_eq site other then 1 else 0

-- how often a hand found the site's end
abbrev pub ends_at : ℕ → Hand → ℕ
ends_at site hand = weigh (is_site site) hand.ends

-- what a hand knows is true: counts of jobs, and ends found
pub record Fits (counts words : List ℕ) (hand : Hand) : Type 0 where
  pub same : 0 < hand.parts → hand.counts ≡ counts
  pub ends : (site : ℕ) → 0 < ends_at site hand → slice_index counts site ≤ slice_index words site
  pub few : (site : ℕ) → ends_at site hand ≤ hand.parts
  pub idle : hand.parts ≡ 0 → hand.drawn ≡ []

-- the smaller of two numbers
abbrev pub smaller : ℕ → ℕ → ℕ
smaller n m = if nat_lt n m then n else m

-- for each site its word, but at most its jobs
abbrev pub at_most : List ℕ → List ℕ → List ℕ
at_most [] words = []
at_most (count ∷ counts) [] = 0 ∷ at_most counts []
at_most (count ∷ counts) (word ∷ words) = smaller word count ∷ at_most counts words

-- the rule, for counts of jobs, words and all hands
pub record Holds (counts : List ℕ) (s : State (Unit {0}) Hand) : Type 0 where
  pub limit : jobs_in counts ≤ max_jobs
  pub words : length counts ≤ length s.words
  pub parts : total (λ hand. hand.parts) s.views ≡ max_workers
  pub drawn : (weight : ℕ → ℕ)
      → total (λ hand. weigh weight hand.drawn) s.views ≡ weigh_firsts weight counts (at_most counts s.words)
  pub over : (site : ℕ) → slice_index s.words site ≤ slice_index counts site + total (ends_at site) s.views
  pub each : All (Fits counts s.words) s.views

-- a new line: the first seat has all parts
abbrev pub first_hand : List ℕ → Hand
first_hand counts = record { counts = counts; parts = 16; ends = []; drawn = [] }

-- a split: the new seat gets one part, and empty lists
abbrev pub hand_left : Hand → Hand
hand_left hand = record hand { parts = hand.parts - 1 }

-- the new seat
abbrev pub hand_dealt : Hand → Hand
hand_dealt hand = record { counts = hand.counts; parts = 1; ends = []; drawn = [] }

-- the hand after a draw that read this word
abbrev pub hand_after : Hand → ℕ → ℕ → Hand
hand_after hand site found =
    if nat_lt found (slice_index hand.counts site) then record hand {
      drawn =
          hand.drawn ++ (begin_of hand.counts site + found) ∷ [];
    }
    else record hand { ends = site ∷ hand.ends }

-- a draw: the list gains the word's index, or the site's end was found
abbrev pub Draws : Step (Unit {0}) → Me (Unit {0}) Hand → ℕ → Me (Unit {0}) Hand → Type 0
Draws s old found new =
    (new.0 ≡ hand_after old.0 s.word found) × (new.1 ≡ old.1) × (length new.0.drawn ≤ jobs_in old.0.counts)

-- a join: one seat takes over the other's lists and parts
abbrev pub hand_of_both : Hand → Hand → Hand
hand_of_both one other = record {
  counts = one.counts;
  parts = one.parts + other.parts;
  ends = one.ends ++ other.ends;
  drawn = one.drawn ++ other.drawn;
}

-- the joined seat is spent
abbrev pub spent_hand : Hand
spent_hand = record { counts = []; parts = 0; ends = []; drawn = [] }

-- the draws are each site's first indexes, each once; all, if its end was found
pub record IsAll (hand : Hand) : Type 0 where
  pub firsts : List ℕ
  pub within : (site : ℕ) → slice_index firsts site ≤ slice_index hand.counts site
  pub each : (weight : ℕ → ℕ) → weigh weight hand.drawn ≡ weigh_firsts weight hand.counts firsts
  pub all : (site : ℕ) → 0 < ends_at site hand → slice_index firsts site ≡ slice_index hand.counts site
  pub all_sites : ((site : ℕ) → site < length hand.counts → 0 < ends_at site hand)
      → (weight : ℕ → ℕ) → weigh weight hand.drawn ≡ weigh_below weight (jobs_in hand.counts)

-- a seat with all parts learns that its list has all draws
abbrev pub Learns : Step (Unit {0}) → Me (Unit {0}) Hand → ℕ → Me (Unit {0}) Hand → Type 0
Learns s old found new = (new ≡ old) × (old.0.parts ≡ max_workers → IsAll old.0)
