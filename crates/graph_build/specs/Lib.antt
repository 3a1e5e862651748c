-- The words of building: orders, literals of nets and equations, sizes, what is built, and its runs.
pub mod Built
pub mod Equations
pub mod Examples
pub mod Laws
pub mod Literals
pub mod Orders
pub mod Runs
pub mod Sizes
