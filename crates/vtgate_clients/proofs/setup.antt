pub mod Fits
pub mod Digests
pub mod Numbers
pub mod TenWords
