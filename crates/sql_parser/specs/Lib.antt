pub mod Qualifiers
pub mod Grammar
pub mod inner
