-- What a user need not believe: what the code keeps of the places that it has seen.
pub mod Newest
