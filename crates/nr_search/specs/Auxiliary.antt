-- Auxiliary definitions. Each file here adds helpers to the file of the same name.
pub mod Nearest
