-- Sides and their streams, what they show, the pruning rules, their literal order, the normal form, and the flat clipping machine.
pub mod Sides
pub mod Meaning
pub mod Items
pub mod Normal
pub mod Rules
pub mod Order
pub mod Machine
pub mod FlatClipping
pub mod Registers
pub mod Grammar
pub mod code
