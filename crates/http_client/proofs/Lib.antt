-- The lemmas of this crate's proofs.
mod BlockTexts
mod Ends
mod Exchanges
mod PageServers
mod Servers
