pub mod ViewLaws
pub mod SidesLaws
pub mod PlacesLaws
pub mod WroteLaws
pub mod PartsLaws
pub mod StepLaws
pub mod PartsOk
pub mod KeptLaws
