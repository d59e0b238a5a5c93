pub mod Asking
pub mod PlanWords
