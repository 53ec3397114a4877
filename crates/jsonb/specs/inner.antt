-- What a user need not believe: readings as they are computed, and what the code keeps while it reads. The files beside
-- this folder say what the answers are.
pub mod Views
pub mod Values
pub mod Keys
pub mod Groups
pub mod Frames
pub mod Reads
pub mod Canonical
pub mod Widths
pub mod Pieces
