pub mod SoundFiles
pub mod GivenValues
pub mod ReadOff
pub mod Conflicting
pub mod RulesKept
