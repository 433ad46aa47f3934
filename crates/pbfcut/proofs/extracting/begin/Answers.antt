use Rattle.std.proofs.Common.{rules, subst, sym, ap, ◌∙◌}
use Rattle.pbf_pass.specs.declared.receipt.Halt.{Halt}
use Rattle.pbfcut.specs.Choosing.{RefusesOrder}
use Rattle.osm_box.specs.declared.bounding_box.BoundingBox.{BoundingBox}
use Rattle.pbf_header.specs.Header.{header_of}
use Rattle.pbf_header.specs.WrittenHeader.{EdgesTyped, edges_of, header_out_for_box}
use Rattle.std.proofs.lemmas.Result.{err_from_is_err_and}
use Rattle.pbf_pass.specs.HeaderLimit.{header_limit, held_header, judged_writable}
use Rattle.pbf_pass.specs.Pass.{with_seen_in}
use Rattle.pbf_pass.specs.Stops.{FaultOf, Only, unchanged}
use Rattle.pbf_pass.proofs.LimitLemmas.{limit_refused}
use Rattle.pbf_pass.specs.Refused.{stop_of}
use Rattle.pbfcut.proofs.ChangedLemmas.{never_changed}
use Rattle.pbfcut.proofs.ExtractingLemmas.{begins, edges_typed, refuses_order}
use Rattle.pbfcut.proofs.LaterLemmas.{stops_earlier}
use Rattle.pbf_pass.proofs.GivenLemmas.{tells_file, takes_told}
use Rattle.pbf_pass.proofs.HaltingLemmas.{halts_writing, limit_caused, limit_halts}
use Rattle.pbfcut.proofs.extracting.begin.Goals as goal

pub returns-in_err-judged-clause-halts : goal.returns-in_err-judged-clause-halts
returns-in_err-judged-clause-halts g c =
    let p = err_from_is_err_and c.from_residual.result c.from_residual.ensures.1 in
    rw (p.1, p.2) (record { refused = halts_writing g.F.Feed _ _ _ _ c.in_err-judged.ensures.ends.refused; stops = search rules; changed = never_changed _ _ _ _ (stop_of c.in_err-judged.field-0.0) c.in_err-judged.ensures.ends.stops })

pub returns-in_err-writable_header-clause-halts : goal.returns-in_err-writable_header-clause-halts
returns-in_err-writable_header-clause-halts g c =
    let p = err_from_is_err_and c.from_residual-in_err-writable_header.result c.from_residual-in_err-writable_header.ensures.1 in
    let one = c.in_ok-judged.ensures.judged in
    rw (p.1, p.2) (record {
      refused = limit_halts g.F.Feed _ _ _ (with_seen_in g.A.Area.area g.P.NodeTaker.step) _ _ c.in_ok-judged.judged _ c.in_ok-judged.ensures.judged c.in_err-writable_header.ensures.refused;
      stops = stops_earlier (Only (header_limit (held_header c.in_ok-judged.judged.pass))) (FaultOf (judged_writable (g.F.Feed.remaining c.args.feed.now))) ⊥ _ ⊥ unchanged unchanged _
          (λ e limit. limit_refused (with_seen_in g.A.Area.area g.P.NodeTaker.step) _ _ _ _ e (takes_told (with_seen_in g.A.Area.area g.P.NodeTaker.step) _ one.file _ _ _ (tells_file g.F.Feed _ _ _ _ one) one.holding.1) limit) (λ r. absurd r) (λ pass h. absurd h) (limit_caused c.in_ok-judged.judged _ c.in_err-writable_header.ensures.refused);
      changed = never_changed (Only (header_limit (held_header c.in_ok-judged.judged.pass))) ⊥ ⊥ _ _ (limit_caused c.in_ok-judged.judged _ c.in_err-writable_header.ensures.refused);
    })

pub returns-clause-begun : goal.returns-clause-begun
returns-clause-begun g c =
    let one = c.in_ok-judged.ensures.judged in
    let bounds = c.bounds-bounds.result in
    record {
      file = one.file;
      supplied = one.supplied;
      digest_is = one.digest_is;
      holding = (
        begins g.A.Area.area g.P.NodeTaker.step one.file c.in_ok-judged.judged.pass _ _ _ _ one.holding.1 c.in_ok-writable_header.ensures.header c.in_ok-writable_header.ensures.within (c.in_ok-header.ensures ∙ ap (λ (area : BoundingBox). header_out_for_box area (header_of c.in_ok-writable_header.field-0.now)) c.bounds-bounds.ensures.value) (search rules) (subst (λ (area : BoundingBox). EdgesTyped (edges_of area)) c.bounds-bounds.ensures.value (edges_typed bounds (search rules) (search rules) (search rules) (search rules))),
        subst (λ (h : Halt). RefusesOrder c.in_ok-judged.judged.digest h one.file) (sym c.unsorted.ensures) (refuses_order (with_seen_in g.A.Area.area g.P.NodeTaker.step) _ _ one.file c.in_ok-judged.judged _ one.holding.1 one.holding.0 c.in_ok-writable_header.ensures.header),
      );
    }
