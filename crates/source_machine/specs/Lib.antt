-- The words of source machines.
pub mod Machines
pub mod Fitting
pub mod Unset
pub mod Additions
pub mod Runs
pub mod Grounding
pub mod Dependencies
pub mod Refusals
pub mod LowestNets
pub mod Evaluating
pub mod Laws
pub mod Examples
