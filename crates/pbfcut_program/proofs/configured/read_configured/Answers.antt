use Rattle.std.proofs.Common.{map, ap}
use Rattle.std.proofs.lemmas.Result.{IfErr-weaker, IfOk-weaker}
use Rattle.osm_config.specs.Readings.{extract_member_of}
use Rattle.pbfcut_program.proofs.ConfiguredLemmas.{config_later, config_read}
use Rattle.pbfcut_program.proofs.configured.read_configured.Goals as goal

pub returns-clause-ok : goal.returns-clause-ok
returns-clause-ok g c =
    let d = c.in_ok-extracts.ensures.ok in
    IfOk-weaker c.read_each.result _ _ (λ outs e. config_read c.args.path.now _ _ _ _ d.0 _ c.as_slice.result.now e.0 _ d.1 d.2
    (ap (map extract_member_of) c.as_slice.ensures.value) e.1 e.2) c.read_each.ensures.ok

pub returns-clause-err : goal.returns-clause-err
returns-clause-err g c =
    let d = c.in_ok-extracts.ensures.ok in
    IfErr-weaker c.read_each.result _ _ (λ how f. config_later c.args.path.now _ _ _ _ d.0 _ how f.0 d.1 d.2 f.1 f.2) c.read_each.ensures.err
