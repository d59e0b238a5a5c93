pub mod Workflows
