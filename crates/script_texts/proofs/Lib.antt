pub mod HexText
pub mod NamesText
pub mod PieceSteps
pub mod Ranges
pub mod Written
