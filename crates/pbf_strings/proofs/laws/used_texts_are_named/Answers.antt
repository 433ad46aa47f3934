use Rattle.pbf_strings.proofs.UsedTexts.{text_at_index, index_below, has_used}
use Rattle.pbf_strings.proofs.laws.used_texts_are_named.Goals as goal

pub returns : goal.returns
returns c = record { used = has_used; below = index_below; named = text_at_index }
