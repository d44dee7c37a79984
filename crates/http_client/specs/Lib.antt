-- Definitions for one fetch of a page, its server and route, and its time limits.
pub mod Agent
pub mod Blocks
pub mod Clients
pub mod Cut
pub mod Exchange
pub mod Reach
pub mod HostPort
pub mod Kept
pub mod Requests
pub mod TimeLimits
pub mod TlsHeader
