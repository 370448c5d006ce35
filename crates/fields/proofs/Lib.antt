-- What stands at the fields of a table.
mod Fields
