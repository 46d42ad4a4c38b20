pub mod PaletteLaws
