mod Rows
mod Meanings
mod Joining
mod CommandLemmas
