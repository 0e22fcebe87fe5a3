-- What the report of answered rows is, and why the rows of records have none.
pub mod Reports
pub mod Rows
