pub mod Canonical
-- Where tokens come from: what every source of tokens keeps, and how it goes on.
pub mod Contexts
pub mod Faults
pub mod Settings
pub mod Machine
pub mod Ahead
pub mod Lending
pub mod Looks
