-- What contracts say of a loop.
pub mod Limits
pub mod Marks
pub mod Exchanges
pub mod Turns
