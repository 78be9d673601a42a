pub mod Code
pub mod Internal
