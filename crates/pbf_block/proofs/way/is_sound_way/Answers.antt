use Rattle.std.proofs.Common.{◌≡◌, sym, ◌∙◌, rules}
use Rattle.std.specs.Prelude.{None}
use Rattle.pbf_wire.proofs.SoundLemmas.{no_least}
use Rattle.pbf_block.proofs.way.is_sound_way.Goals as goal

pub returns : goal.returns
returns c = λ clean.
    let form : c.judge_way_wire.result ≡ None = search rules in
    let structure : c.judge_way_structure.result ≡ None = search rules in
    let values : c.judge_way_values.result ≡ None = search rules in
    record {
      form = no_least _ (sym c.judge_way_wire.ensures ∙ form);
      structure = no_least _ (sym c.judge_way_structure.ensures ∙ structure);
      values = no_least _ (sym c.judge_way_values.ensures ∙ values);
    }
