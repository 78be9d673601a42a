-- What the contracts of this crate cite. Nothing here is needed to read the contract of a rule.
pub mod Round
