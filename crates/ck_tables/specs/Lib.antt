-- What is promised: what the numbers of tables stand for
pub mod ProgramRows
pub mod Program
pub mod Numbers
pub mod Laws
pub mod Targets
pub mod NameList
-- From memory to plain values
pub mod Tables
pub mod Rows
pub mod Readings
pub mod Entries
pub mod ExprTable
pub mod SubobjectTable
pub mod InitTable
pub mod StmtTable
pub mod ExprFacts
