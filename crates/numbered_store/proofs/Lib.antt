pub mod CallerLemmas
pub mod Keeping
