-- Definitions for the contracts of the HTTP front.
pub mod Fields
pub mod Forwarding
pub mod Credentials
pub mod Hosts
pub mod Targets
pub mod Asking
pub mod ProxyStatus
pub mod Causes
pub mod OwnAnswers
pub mod Passing
pub mod Telling
pub mod Answering
