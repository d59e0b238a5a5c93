pub mod TypedSteps
