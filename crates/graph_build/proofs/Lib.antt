-- Lemmas by subject.
pub mod BuildOrders
pub mod CubeSteps
pub mod EquationSteps
pub mod EquationValues
pub mod GraphRuns
pub mod GrowthLemmas
pub mod LiteralValues
pub mod NetLiterals
pub mod Results
pub mod SizeLemmas
pub mod SmallGraphs
pub mod SmallOrders
