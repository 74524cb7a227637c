-- The number that the code holds tells what the list of open groups does.
pub mod Stack
