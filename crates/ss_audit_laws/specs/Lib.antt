pub mod Shape
pub mod Checks
pub mod Valid
pub mod Printed
