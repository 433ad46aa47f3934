pub mod Published
pub mod Showing
pub mod PublishedTasks
pub mod PublishedEach
