-- What the program says of its argument and of its input. Assumes nothing.
pub mod Words
pub mod Input
