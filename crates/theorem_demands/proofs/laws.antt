pub mod Numbers
pub mod Structure
pub mod Pictures
pub mod FileCalls
pub mod PictureCalls
pub mod Refusals
