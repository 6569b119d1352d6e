-- What the contracts of this crate cite beside the grammars. Assumes nothing.
pub mod Arrays
