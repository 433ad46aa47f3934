use Rattle.std.proofs.Common.{◌-◌, map, ap, ◌∙◌, arith}
use Rattle.pbf_wire.specs.Cursors.{numbers_left}
use Rattle.osm_entity.specs.Sources.{low_32}
use Rattle.pbf_dense.specs.Runs.{after_runs}
use Rattle.pbf_dense.proofs.MovingLemmas.{one_run, bare_runs, low_zeros}
use Rattle.pbf_dense.proofs.dense.skip_runs.Goals as goal

pub runs-preserved : goal.runs-preserved
runs-preserved c =
    let before = map low_32 (numbers_left c.runs.rest) in
    let after = map low_32 (numbers_left c.pass_zeros-bare.new.self) in
    let e = c.pass_zeros-bare.ensures in
    bare_runs c.runs.left c.pass_zeros-bare.result before after e.few (ap (map low_32) e.passed ∙ low_zeros c.pass_zeros-bare.result (numbers_left c.pass_zeros-bare.new.self)) ∙ c.runs.invariant

pub runs-preserved-then-bare-eq0 : goal.runs-preserved-then-bare-eq0
runs-preserved-then-bare-eq0 c =
    let n = c.pass_zeros-bare.result in
    let before = map low_32 (numbers_left c.runs.rest) in
    let after = map low_32 (numbers_left c.pass_zeros-bare.new.self) in
    let e = c.pass_zeros-bare.ensures in
    ap (after_runs (c.runs.left - n - 1)) c.skip_run.ensures
    ∙ one_run (c.runs.left - n) after (omega (arith, c.if-bare-eq0.true, c.runs-test.true))
    ∙ bare_runs c.runs.left n before after e.few (ap (map low_32) e.passed ∙ low_zeros n (numbers_left c.pass_zeros-bare.new.self)) ∙ c.runs.invariant
