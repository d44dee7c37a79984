-- The limits of HTTP clients. The other contracts are those of conversations in turns and of connections of HTTP.
pub mod Limits
