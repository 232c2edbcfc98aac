-- Auxiliary definitions. Each file here adds helpers to the file of the same name.
pub mod Debugger
pub mod Listing
pub mod Value
pub mod Word
