use Rattle.std.proofs.Common.{Err, sym, subst}
use Rattle.json.specs.Value.{value_view}
use Rattle.osm_config.specs.Configs.{ConfigSpec, config_of_text}
use Rattle.osm_config.specs.Faults.{OrFault}
use Rattle.osm_config.specs.Readings.{Reads}
use Rattle.osm_config.proofs.ConfigLemmas.{means_value, named_reads}
use Rattle.osm_config.proofs.reading.read_config.Goals as goal

pub returns-in-Ok : goal.returns-in-Ok
returns-in-Ok c =
    let same = means_value c.args.text.now c.without_mark.result.now (value_view c.in-Ok.value) c.without_mark.ensures c.in-Ok.ensures.ok in
    named_reads (config_of_text c.args.text.now) c.in-Err-config_in.stop c.config_error.result c.config_error.ensures
    (subst (λ (t : OrFault ConfigSpec). Reads t (Err c.in-Err-config_in.stop)) (sym same) c.in-Err-config_in.ensures)
