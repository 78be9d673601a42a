pub mod Reading
pub mod Premise
pub mod Named
