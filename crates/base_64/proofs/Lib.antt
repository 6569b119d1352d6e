-- Facts about the files of specs/, under the same names, and tests that compute. Assumes nothing.
pub mod Tests
pub mod Lists
pub mod Alphabet
pub mod Values
pub mod Groups
