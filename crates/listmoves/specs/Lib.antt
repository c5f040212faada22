-- What this program prints.
pub mod Printed
