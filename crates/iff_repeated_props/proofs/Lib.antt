pub mod ScanLaws
pub mod RepeatLaws
