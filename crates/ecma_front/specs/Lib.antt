-- What is promised: read these in order, with Layouts of run_print behind Programs, and Lines of print_pages_spec before Names.
pub mod Programs
pub mod Faults
pub mod Formats
pub mod ReadAgain
pub mod Names
pub mod Run
pub mod Exits
pub mod Command
-- The law of refusals.
pub mod Alike
-- What the steps of a run may answer. No public clause cites these.
pub mod Input
pub mod Steps
