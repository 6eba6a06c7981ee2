pub mod OneResult
pub mod SameSets
pub mod SeenTexts
pub mod OneError
