-- The room that a split asks for; when it is accepted; what is planned then; what is written then.
pub mod Rooms
pub mod Accepted
pub mod Plans
pub mod Made
