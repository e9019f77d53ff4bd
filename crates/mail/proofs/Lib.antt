-- Lemmas of this crate's proofs.
pub mod LaidTrays
pub mod Laying
pub mod Lengths
pub mod Outcomes
