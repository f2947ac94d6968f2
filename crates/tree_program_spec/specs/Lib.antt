-- Written by tools/tree/program.py from tools/tree/tree.table. Don't edit this file.
pub mod Program
pub mod Equal
pub mod Same
pub mod Laws
pub mod EqualLaws
pub mod Names
