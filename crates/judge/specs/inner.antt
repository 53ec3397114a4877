-- What a user need not believe: what the code reads of the words of a command line, and what it keeps of keywords. The files beside this folder say what a run is.
pub mod KeptKeywords
pub mod Requests
