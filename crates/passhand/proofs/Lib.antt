-- The laws of a cycle's next record.
mod Giving
