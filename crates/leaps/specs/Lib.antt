-- Where the machine is led by what may be passed at once. None of this has to be believed. Assumes nothing.
pub mod Phases
