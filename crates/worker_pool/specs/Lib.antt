-- What contracts say of a pool.
pub mod Pools
