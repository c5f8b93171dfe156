pub mod MoveAnswers
pub mod Moves
pub mod Vios
