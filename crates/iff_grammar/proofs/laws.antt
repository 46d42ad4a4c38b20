pub mod Complete
pub mod Files
pub mod Headers
pub mod Names
pub mod Props
pub mod Sound
pub mod Read
pub mod Words
