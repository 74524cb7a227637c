-- What a making writes.
pub mod code
