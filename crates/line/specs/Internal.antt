-- What the contracts of private functions cite: positions. Nothing here is needed to read a public contract.
pub mod Places
