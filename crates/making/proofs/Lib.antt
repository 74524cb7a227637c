-- Laws of the numbers of a making.
pub mod Laws
pub mod Made
pub mod Rooms
pub mod Follows
pub mod Grammar
pub mod Standing
pub mod Turn
pub mod Lent
pub mod Meaning
pub mod Whole
pub mod Shorter
