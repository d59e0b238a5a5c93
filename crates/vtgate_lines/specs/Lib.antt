pub mod Partitions
pub mod Lines
pub mod AdminLines
pub mod Printed
pub mod Plans
