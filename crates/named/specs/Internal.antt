-- What the contracts of private functions cite. Nothing here is needed to read a public contract.
pub mod Scope
pub mod Reads
