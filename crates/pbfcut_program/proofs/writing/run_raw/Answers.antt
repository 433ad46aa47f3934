use Rattle.pbfcut_program.proofs.writing.run_raw.Goals as goal

pub returns-clause-works : goal.returns-clause-works
returns-clause-works g c = c.do_job-result.ensures.works

pub returns-clause-front : goal.returns-clause-front
returns-clause-front g c = c.do_job-result.ensures.front

pub returns-clause-whole : goal.returns-clause-whole
returns-clause-whole g c = c.do_job-result.ensures.whole
