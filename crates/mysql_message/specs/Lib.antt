pub mod Messages
pub mod TextValues
