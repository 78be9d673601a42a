pub mod Places
pub mod Internal
