pub mod Shapes
pub mod Over
pub mod Stood
pub mod Operands
pub mod Rules
pub mod Variables
pub mod Trees
pub mod WorkedExpressions
