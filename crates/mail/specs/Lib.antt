-- What the promises of this crate cite.
pub mod Faults
pub mod Messages
pub mod Trays
pub mod Queue
pub mod Urgent
pub mod Laid
pub mod TwoInOneOut
pub mod Laws
