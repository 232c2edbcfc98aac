-- Auxiliary definitions. Each file here adds helpers to the file of the same name.
pub mod Change
pub mod Code
pub mod Desc
pub mod Op
