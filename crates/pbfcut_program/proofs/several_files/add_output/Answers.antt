use Rattle.std.proofs.Common.{◌∙◌, arith}
use Rattle.pbfcut.proofs.SeveralLemmas.{pushed}
use Rattle.pbfcut_program.proofs.several_files.add_output.Goals as goal

pub unwrap-requires : goal.unwrap-requires
unwrap-requires g c = c.push.ensures.succeeds (omega (arith, c.requires, c.args.outputs.ok.0))

pub returns-clause-items : goal.returns-clause-items
returns-clause-items g c = c.push.ensures.items ∙ pushed c.push.result _ _ (c.push.ensures.succeeds (omega (arith, c.requires, c.args.outputs.ok.0)))
