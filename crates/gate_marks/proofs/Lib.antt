pub mod CallerLemmas
pub mod Condensing
pub mod Merging
pub mod Ranging
