-- Lemmas that the answers cite.
pub mod SumLemmas
pub mod SiteLemmas
pub mod Steps
pub mod Plays
pub mod SeatLemmas
pub mod CallerLemmas
