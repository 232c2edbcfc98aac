-- Auxiliary definitions. Each file here adds helpers to the file of the same name.
pub mod Descriptor
pub mod Kind
pub mod Limits
pub mod Refusing
pub mod Reversible
pub mod Run
pub mod Step
pub mod Worlds
