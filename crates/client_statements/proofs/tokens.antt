pub mod Fronts
pub mod FrontsAgain
pub mod Lexes
pub mod Loop
pub mod Remarks
pub mod Texts
