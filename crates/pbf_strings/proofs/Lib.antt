pub mod TextsLemmas
mod SameTexts
pub mod UsedTexts
pub mod WrittenTable
