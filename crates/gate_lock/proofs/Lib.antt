pub mod Asking
pub mod Beginning
pub mod Denying
pub mod Marking
pub mod Replying
