pub mod StripLemmas
