-- Definitions for the contracts of page URLs, their parts and normal forms.
-- URL Standard, section 4; RFC 3986, sections 2 and 3; RFC 9309, section 2.2.2.
pub mod Limits
pub mod Messages
pub mod Octets
pub mod Normal
pub mod Capacity
pub mod PageText
pub mod PagePlaces
pub mod Schemes
pub mod PageUrl
pub mod PlainUrl
pub mod Authority
pub mod Laws
