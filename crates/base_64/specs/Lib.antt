-- Base 64 of RFC 4648, section 4. Assumes nothing.
pub mod Lists
pub mod Alphabet
pub mod Values
pub mod Groups
