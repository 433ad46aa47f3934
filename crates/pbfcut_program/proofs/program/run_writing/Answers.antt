use Rattle.pbfcut_program.proofs.program.run_writing.Goals as goal

pub returns-clause-ok : goal.returns-clause-ok
returns-clause-ok g c =
    let d = c.in_ok-write.ensures.ok in
    (d.0, d.1, (_, d.2))
