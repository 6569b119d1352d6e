-- What it means that a scan has advanced, and the phases in which runs are passed at once. None of this has to be believed.
-- Assumes nothing.
pub mod Advances
pub mod Phases
