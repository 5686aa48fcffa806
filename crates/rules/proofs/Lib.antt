pub mod Tabling
pub mod RuleLaws
pub mod Finishing
