mod Listing
pub mod Fronts
pub mod Steps
pub mod Expressions
mod Effects
mod Sections
mod Whole
mod Standing
mod Settled
mod Turns
pub mod Arms
mod Fills
mod Limits
mod Operands
mod Transitions
mod Growing
mod OneKind
mod Starting
mod OnePiece
mod Indexing
mod Loading
pub mod Held
pub mod Legible
