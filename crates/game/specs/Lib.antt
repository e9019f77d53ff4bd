pub mod Games
pub mod Settling
pub mod Judged
