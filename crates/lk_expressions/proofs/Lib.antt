mod ConstantLaws
mod Evaluations
mod OperandTests
pub mod Unnamed
