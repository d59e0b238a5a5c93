pub mod Courses
pub mod Others
pub mod Founds
pub mod Refits
pub mod Taken
pub mod Names
