-- The theorems about pruning and the machine.
pub mod Sides
pub mod Normal
pub mod Rules
pub mod Order
pub mod Sequences
pub mod Meaning
pub mod Survivors
pub mod Refining
pub mod Machine
pub mod FlatClipping
pub mod Registers
pub mod Pruner
pub mod Counters
pub mod Effects
pub mod Weights
pub mod Grammar
pub mod Bounded
mod Examples
