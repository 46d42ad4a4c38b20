pub mod CursorLaws
pub mod laws
