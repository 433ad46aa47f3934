use Rattle.std.proofs.Common.{◌≡◌, ◌++◌, inl, inr, map, refl, rules, subst, sym}
use Rattle.std.proofs.lemmas.Result.{IfErr-weaker, err_from_is_err_and, on_ok_weaker}
use Rattle.pbfcut.specs.EachReceipts.{each_strategy}
use Rattle.pbfcut.specs.Receipts.{judge_by}
use Rattle.pbfcut_program.specs.Configured.{MeansConfig}
use Rattle.pbfcut_program.specs.ConfiguredCuts.{output_area_of}
use Rattle.pbfcut_program.specs.Manner.{manner_of}
use Rattle.pbfcut_program.specs.SeveralWrites.{AllGiveRaw, CutsRawEach, RunsExtractEach, WritesOuts, areas_of, folder_of, judging_each}
use Rattle.pbfcut_program.proofs.ConfiguredLemmas.{config_calm, some_configured}
use Rattle.pbfcut_program.proofs.EventLemmas.{quiet_of}
use Rattle.pbfcut_program.proofs.FailLemmas.{failed_after, opening_fails, sound_fails}
use Rattle.pbfcut_program.proofs.Logging.{and_then}
use Rattle.pbfcut_program.proofs.SayingLemmas.{opening_little, said_in, silent_of}
use Rattle.pbfcut_program.proofs.SettlingLemmas.{calm_done, still_of}
use Rattle.pbfcut_program.proofs.SeveralSettling.{configured_each, still_each}
use Rattle.pbfcut_program.proofs.SeveralTelling.{extracts_all}
use Rattle.pbfcut_program.proofs.several_writing.run_extract_each.Goals as goal

pub returns-in_err-outs-clause-err : goal.returns-in_err-outs-clause-err
returns-in_err-outs-clause-err g c =
    let p = err_from_is_err_and c.from_residual.result c.from_residual.ensures.1 in
    let f = c.in_err-outs.ensures.err in
    let how = c.in_err-outs.field-0.0 in
    rw (p.1, p.2) (f.0, f.1, opening_fails (manner_of c.args.engine) (judging_each (each_strategy c.args.run.strategy) c.args.run.files f.0) how f.0 f.2, inl (quiet_of f.0 f.2.0), inl (opening_little c.args.engine.digests how f.0 f.2))

pub returns-in_err-outs-clause-files : goal.returns-in_err-outs-clause-files
returns-in_err-outs-clause-files g c =
    let f = c.in_err-outs.ensures.err in
    still_each c.args.engine.program c.args.run.files _ _ (calm_done _ _ f.0 f.1 f.2.0)

pub cut_out_each-requires : goal.cut_out_each-requires
cut_out_each-requires g c =
    let sliced : c.as_slice.result.now ≡ c.in_ok-outs.outs.items = search rules in
    let means = subst (λ os. MeansConfig c.args.run.files.config.now (folder_of c.args.run.files) c.in_ok-outs.ensures.ok.0 (map output_area_of os)) (sym sliced) c.in_ok-outs.ensures.ok.2 in
    some_configured c.args.run.files.config.now (folder_of c.args.run.files) c.as_slice.result.now c.in_ok-outs.ensures.ok.0 means

pub returns-clause-ok : goal.returns-clause-ok
returns-clause-ok g c =
    let sliced : c.as_slice.result.now ≡ c.in_ok-outs.outs.items = search rules in
    let means = subst (λ os. MeansConfig c.args.run.files.config.now (folder_of c.args.run.files) c.in_ok-outs.ensures.ok.0 (map output_area_of os)) (sym sliced) c.in_ok-outs.ensures.ok.2 in
    let log = g.H.Host.log in
    let d = c.in_ok-outs.ensures.ok in
    on_ok_weaker c.cut_out_each.result (λ w. (d.0 ++ w.0, and_then (log c.args.host.now) (log c.read_configured.new.host) (log c.cut_out_each.new.host) d.0 w.0 d.1 w.1, record { outs = map output_area_of c.as_slice.result.now; before = d.0; after = w.0; happened = refl; means = means; writes = w.2 })) c.cut_out_each.ensures.ok

pub returns-clause-err : goal.returns-clause-err
returns-clause-err g c =
    let sliced : c.as_slice.result.now ≡ c.in_ok-outs.outs.items = search rules in
    let means = subst (λ os. MeansConfig c.args.run.files.config.now (folder_of c.args.run.files) c.in_ok-outs.ensures.ok.0 (map output_area_of os)) (sym sliced) c.in_ok-outs.ensures.ok.2 in
    let log = g.H.Host.log in
    let m = manner_of c.args.engine in
    let s = each_strategy c.args.run.strategy in
    let files = c.args.run.files in
    let d = c.in_ok-outs.ensures.ok in
    let outs = map output_area_of c.as_slice.result.now in
    let calm = config_calm files.config.now (folder_of files) d.0 outs means in
    IfErr-weaker c.cut_out_each.result _ _ (λ how f. (
      d.0 ++ f.0,
      and_then (log c.args.host.now) (log c.read_configured.new.host) (log c.cut_out_each.new.host) d.0 f.0 d.1 f.1,
      failed_after m (judging_each s files (d.0 ++ f.0)) how d.0 f.0 (quiet_of d.0 calm) (sound_fails m (judge_by s) (AllGiveRaw s (areas_of outs)) (CutsRawEach s files (d.0 ++ f.0)) how f.0 (λ file all. all outs d.0 f.0 refl means) f.2),
      inr (record { outs = outs; before = d.0; after = f.0; happened = refl; means = means; left = f.3 }),
      said_in m.digests (WritesOuts m s files outs) (RunsExtractEach m s files) d.0 how f.0 (silent_of d.0 calm) (extracts_all m s files outs d.0 means) f.4,
    )) c.cut_out_each.ensures.err

pub returns-clause-files : goal.returns-clause-files
returns-clause-files g c =
    let sliced : c.as_slice.result.now ≡ c.in_ok-outs.outs.items = search rules in
    let means = subst (λ os. MeansConfig c.args.run.files.config.now (folder_of c.args.run.files) c.in_ok-outs.ensures.ok.0 (map output_area_of os)) (sym sliced) c.in_ok-outs.ensures.ok.2 in
    let d = c.in_ok-outs.ensures.ok in
    let files = c.args.run.files in
    let outs = map output_area_of c.as_slice.result.now in
    configured_each c.args.engine.program files outs d.0 _ _ _ d.1 (still_of d.0 (config_calm files.config.now (folder_of files) d.0 outs means)) means c.cut_out_each.ensures.files
