pub mod Laws
pub mod ScopeLaws
pub mod SeekLaws
