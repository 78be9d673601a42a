-- What the contracts of private functions cite. Nothing here is needed to read a public contract.
pub mod Writes
pub mod Parts
pub mod Scans
pub mod Marks
pub mod Reduce
pub mod Noted
