-- Lemmas of the queues of places, and of what goes between a conversation and its client.
pub mod Exchanging
pub mod Marking
