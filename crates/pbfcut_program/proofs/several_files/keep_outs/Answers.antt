use Rattle.std.proofs.Common.{inl}
use Rattle.pbfcut_program.proofs.SeveralFileLemmas.{keeps_named}
use Rattle.pbfcut_program.proofs.several_files.keep_outs.Goals as goal

pub returns-in-Ok : goal.returns-in-Ok
returns-in-Ok g c =
    let log = g.H.Host.log in
    keeps_named g.H.Out.Drain c.args.placing.program c.args.placing.overwrite c.name_each.result c.args.parts.now c.args.outputs.items (log c.args.host.now) (log c.finish_each.new.host) (log c.name_each.new.host) c.in-Ok.ensures c.name_each.ensures

pub returns-in-Err : goal.returns-in-Err
returns-in-Err g c = (g.H.Host.log c.finish_each.new.host, inl (c.in-Err.ensures, c.forget_each.ensures))
