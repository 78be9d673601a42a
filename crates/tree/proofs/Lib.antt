pub mod Pairs
pub mod Residual
pub mod Ranges
pub mod TagTable
