-- Auxiliary definitions. Each file here adds helpers to the file of the same name.
pub mod Answer
pub mod Arguments
pub mod Faults
pub mod Reading
pub mod Recording
pub mod Spelling
pub mod Steps
pub mod Version
