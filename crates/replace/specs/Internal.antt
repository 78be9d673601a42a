-- What the contracts of private functions cite. Nothing here is needed to read a public contract.
pub mod Pieces
pub mod Partial
pub mod Splice
pub mod Job
