-- What a user need not believe: the reading as it is computed. `proofs/` shows that it says what the files beside this
-- folder say.
pub mod Narrow
pub mod Reading
pub mod Trees
pub mod SeatReading
