pub mod NextEntries
