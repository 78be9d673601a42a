-- What the contracts of private functions cite: positions and marks. Nothing here is needed to read a public contract.
pub mod Heads
