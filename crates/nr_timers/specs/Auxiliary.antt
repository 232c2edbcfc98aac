-- Auxiliary definitions. Each file here adds helpers to the file of the same name.
pub mod Change
pub mod Index
pub mod PathToRoot
pub mod Step
pub mod TimersOf
