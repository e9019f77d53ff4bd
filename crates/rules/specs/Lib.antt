-- The rules of play, in the order of reading.
pub mod Arithmetic
pub mod Game
pub mod Names
pub mod Order
pub mod Single
pub mod Checks
pub mod Trace
pub mod Deed
pub mod Faults
pub mod Beat
pub mod Calls
pub mod Runs
pub mod Law
pub mod Theorems
pub mod Cases
pub mod Example
