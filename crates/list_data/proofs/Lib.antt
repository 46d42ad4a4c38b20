pub mod DataLaws
