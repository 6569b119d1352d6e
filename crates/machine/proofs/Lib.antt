-- What the machine accepts, in terms of the grammars' relations. Assumes nothing.
pub mod ByteKinds
pub mod Machine
pub mod Bytes
pub mod Parts
pub mod Runs
pub mod Bodies
pub mod LineEnds
pub mod Rows
pub mod Lax
pub mod Standard
pub mod Strict
pub mod Labels
pub mod Boundaries
pub mod Messages
pub mod Acceptance
pub mod Starts
pub mod Bundles
