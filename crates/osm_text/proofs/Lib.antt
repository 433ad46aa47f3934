pub mod DayLemmas
mod JsonLemmas
pub mod TextLemmas
