use Rattle.std.proofs.Common.{[], ◌∷◌, ◌++◌, ◌∙◌, arith, length-append}
use Rattle.std.proofs.lemmas.Result.{err_from_is_err_and}
use Rattle.pbf_frame.proofs.VerdictLemmas.{gone_more}
use Rattle.pbf_pass.proofs.ReadingLemmas.{has_passed_none, has_passed_more, has_passed_all, has_passed_refused}
use Rattle.pbf_pass.proofs.StepLemmas.{took_one, met_end, stopped_step, refused_step}
use Rattle.pbf_pass.proofs.VisitLemmas.{visited_more, stops_visit}
use Rattle.pbf_pass.proofs.visit.visit_rest.Goals as goal

pub frames-init : goal.frames-init
frames-init g c = grind (arith, has_passed_none g.F.Feed c.args.reader.now, c.requires.reading, c.requires.ready)

pub frames-preserved : goal.frames-preserved
frames-preserved g c =
    let so_far = c.frames.invariant in
    let frames = so_far.done.0 in
    let t = took_one g.F.Feed _ _ _ _ _ _ c.if-branch.true so_far.reading c.in_ok-step.ensures.steps.step in
    record {
      done = (
        frames ++ t.frame ∷ [],
        gone_more _ _ _ frames t.frame so_far.done.1 t.is,
        visited_more g.V.Visit.took frames t.frame _ _ _ so_far.done.2 t.taken,
        has_passed_more g.F.Feed _ _ _ frames t.frame so_far.done.3 t.gave,
        omega (arith, so_far.done.4, length-append frames (t.frame ∷ [])),
      );
      few = omega (arith, so_far.few, t.rises);
      limited = c.step.ensures.steps.limited;
      reading = t.reading;
      ready = c.in_ok-step.ensures.visitor.ready;
      counts = omega (arith, so_far.counts, t.keeps.counts);
      lender = t.keeps.lender ∙ so_far.lender;
      visitor = c.step.ensures.visitor.lender ∙ so_far.visitor;
    }

pub returns-in_err-step-clause-stops : goal.returns-in_err-step-clause-stops
returns-in_err-step-clause-stops g c =
    let p = err_from_is_err_and c.from_residual.result c.from_residual.ensures.1 in
    let so_far = c.frames.invariant in
    rw (p.1, p.2) (stops_visit g.F.Feed _ _ g.V.Visit.took g.V.Visit.failed _ so_far.done.0 _ _ _ _ _ so_far.done.1 so_far.counts so_far.done.2 (stopped_step g.F.Feed _ _ _ _ _ _ so_far.reading c.in_err-step.ensures.steps.step))

pub returns-in_err-step-clause-refused : goal.returns-in_err-step-clause-refused
returns-in_err-step-clause-refused g c = grind (arith, err_from_is_err_and c.from_residual.result c.from_residual.ensures.1, c.frames.invariant, has_passed_refused g.F.Feed g.V.Visit.took g.V.Visit.failed, refused_step g.F.Feed)

pub returns-clause-visited : goal.returns-clause-visited
returns-clause-visited g c = grind (arith, c.frames.invariant, c.frames.invariant.done.0, met_end g.F.Feed, has_passed_all g.F.Feed, c.frames.invariant.lender, c.frames.invariant.done.4)
