pub mod Gains
pub mod Filter
pub mod Step
pub mod State
pub mod Inside
pub mod Run
pub mod Calls
pub mod Cases
