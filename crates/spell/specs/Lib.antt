pub mod Put
pub mod Spell
pub mod Internal
