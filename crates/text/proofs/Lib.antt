mod DigitLaws
pub mod LineLaws
pub mod NumberLaws
