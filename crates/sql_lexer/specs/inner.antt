pub mod Results
pub mod Scanning
