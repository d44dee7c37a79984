-- Lemmas on lists of replies.
-- Used by the answers of the laws.
pub mod Replies
pub mod Taken
pub mod Deciding
pub mod CallerLemmas
