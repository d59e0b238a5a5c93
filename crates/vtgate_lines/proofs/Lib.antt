pub mod Short
pub mod Covers
pub mod PlanRefusals
pub mod Named
pub mod Blanks
pub mod LineFronts
