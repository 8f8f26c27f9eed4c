pub mod Operands
pub mod Verbs
pub mod Commands
pub mod Stages
pub mod Items
pub mod Readers
pub mod Faults
