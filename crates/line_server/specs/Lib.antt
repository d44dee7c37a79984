-- What contracts say of a server.
pub mod Faults
pub mod HttpMetrics
pub mod Sweeping
pub mod Servers
