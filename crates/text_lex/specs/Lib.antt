pub mod Tests
pub mod Among
pub mod Scan
pub mod Piece
pub mod Number
pub mod Words
