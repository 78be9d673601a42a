-- What the contracts of private functions cite: what is written at a position. Nothing here is needed to read a public contract.
pub mod Writes
