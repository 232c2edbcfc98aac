-- Auxiliary definitions. Each file here adds helpers to the file of the same name.
pub mod Changes
pub mod Run
pub mod Serving
pub mod Shared
pub mod Suspects
pub mod Transcript
