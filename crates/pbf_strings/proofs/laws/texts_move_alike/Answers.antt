use Rattle.pbf_strings.proofs.TextsLemmas.{texts_at}
use Rattle.pbf_strings.proofs.laws.texts_move_alike.Goals as goal

pub returns : goal.returns
returns c = texts_at
