pub mod Visiting
pub mod Tabling
pub mod Entering
pub mod Digits
