pub mod Lists
pub mod Opens
