-- What the lister prints, and that it is the leaves.
pub mod Printed
pub mod Text
pub mod Leaves
