-- The definitions of simulations and their text.
pub mod SimulationTexts
pub mod Pieces
pub mod Orders
pub mod Rooms
pub mod Simulations
pub mod CycleCounts
pub mod Scripts
pub mod RunTexts
pub mod EveryOrder
