-- The folder of a gate's journal, when it is synced, and how many octets it may have, by the options.
-- Cited by `journal` and `words`; docs/crawlgate.1.md has the options.
use Rattle.std.specs.Prelude.{◌≡◌, ◌≢◌, List, ℕ, ◌^◌, ◌-◌, Option, Some, None, codes, string_bytes}
use Rattle.clap.specs.Words.{first_value}
use Rattle.clap.specs.declared.parser.matches.Found.{Found}
use Rattle.journal.specs.declared.policy.SyncPolicy.{SyncPolicy}
use Rattle.journal.specs.declared.policy.SyncPolicy.TheVariants as syncs
use Rattle.program_arguments.specs.Numbers.{IsBoundOf, IsBoundWithin}
use Rattle.program_arguments.specs.declared.subcommand.JournalOptions.{JournalOptions}

-- the word for each sync policy
abbrev pub sync_word : SyncPolicy → List ℕ
sync_word syncs.Always = codes "always"
sync_word syncs.Second = codes "second"
sync_word syncs.Never = codes "never"

-- the policy of the word, if any
abbrev pub IsSyncBy : Option (List ℕ) → SyncPolicy → Type 0
IsSyncBy None sync = sync ≡ syncs.Always
IsSyncBy (Some word) sync = word ≡ sync_word sync

-- the journal is synced by the option, always without it
abbrev pub IsSyncOf : Found → SyncPolicy → Type 0
IsSyncOf words sync = IsSyncBy (first_value words (codes "journal-sync")) sync

-- the word names no policy
abbrev pub IsNoSync : List ℕ → Type 0
IsNoSync word = (word ≢ sync_word syncs.Always) × (word ≢ sync_word syncs.Second) × (word ≢ sync_word syncs.Never)

-- the option's word names no policy
abbrev pub NamesNoSync : Found → Type 0
NamesNoSync words = (word : List ℕ) × ((first_value words (codes "journal-sync") ≡ Some word) × IsNoSync word)

-- the octets that a journal's files may have together, if they are bounded: more than the longest entry takes, and no
-- more than a file may have
abbrev pub IsRoom : Option ℕ → Type 0
IsRoom room = IsBoundWithin (2 ^ 23) (2 ^ 63 - 1) room

-- the journal is in the matched folder
pub record IsKeptBy (words : Found) (journal : JournalOptions) : Type 0 where
  pub folder : first_value words (codes "journal") ≡ Some (string_bytes journal.folder)
  pub sync : IsSyncOf words journal.sync
  pub room : IsBoundOf words (codes "journal-room") journal.room

-- the journal is as matched, if any was
abbrev pub IsJournalOf : Found → Option JournalOptions → Type 0
IsJournalOf words None = first_value words (codes "journal") ≡ None
IsJournalOf words (Some journal) = IsKeptBy words journal
