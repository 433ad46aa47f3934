use Rattle.std.proofs.Common.{inl, rules, subst, sym, ap, ◌∙◌}
use Rattle.std.specs.List.{AllZip}
use Rattle.std.proofs.lemmas.Result.{err_from_is_err_and}
use Rattle.pbf_header.specs.Header.{header_of}
use Rattle.pbf_pass.specs.Each.{each_gathered}
use Rattle.pbf_pass.specs.HeaderLimit.{header_limit, held_header, judged_writable}
use Rattle.pbf_pass.specs.Judged.{judged_file}
use Rattle.pbf_pass.specs.Pass.{with_seen_in}
use Rattle.pbf_pass.specs.Refused.{stop_of}
use Rattle.pbf_pass.specs.Stops.{FaultOf, Only, unchanged}
use Rattle.pbf_pass.proofs.GivenLemmas.{tells_file, takes_told}
use Rattle.pbf_pass.proofs.HaltingLemmas.{halts_writing, limit_caused, limit_halts}
use Rattle.pbf_pass.proofs.LimitLemmas.{limit_refused}
use Rattle.pbfcut.specs.ChoosingEach.{EndsTaking, IsFreshTaking}
use Rattle.pbfcut.proofs.ChangedLemmas.{never_changed}
use Rattle.pbfcut.proofs.ChoosingEachLemmas.{all_begin, sound_file, stops_judging}
use Rattle.pbfcut.proofs.LaterLemmas.{stops_earlier}
use Rattle.pbfcut.proofs.choosing_each.begin_each.Goals as goal

pub returns-in_err-judged-clause-halts : goal.returns-in_err-judged-clause-halts
returns-in_err-judged-clause-halts g c =
    let p = err_from_is_err_and c.from_residual-in_err-judged.result c.from_residual-in_err-judged.ensures.1 in
    rw (p.1, p.2) (record { refused = halts_writing g.F.Feed _ _ _ _ c.in_err-judged.ensures.ends.refused; stops = stops_judging (judged_file (g.F.Feed.remaining c.args.feed.now)) _ _ _ (λ failed. inl failed) c.in_err-judged.ensures.ends.stops; changed = never_changed _ _ _ _ (stop_of c.in_err-judged.field-0.0) c.in_err-judged.ensures.ends.stops })

pub returns-in_err-header-clause-halts : goal.returns-in_err-header-clause-halts
returns-in_err-header-clause-halts g c =
    let p = err_from_is_err_and c.from_residual-in_err-header.result c.from_residual-in_err-header.ensures.1 in
    let one = c.in_ok-judged.ensures.judged in
    let gathers = each_gathered (with_seen_in g.A.Area.area g.P.NodeTaker.step) in
    rw (p.1, p.2) (record {
      refused = limit_halts g.F.Feed _ _ _ gathers _ _ c.in_ok-judged.judged _ c.in_ok-judged.ensures.judged c.in_err-header.ensures.refused;
      stops = stops_earlier (Only (header_limit (held_header c.in_ok-judged.judged.pass))) (FaultOf (judged_writable (g.F.Feed.remaining c.args.feed.now))) ⊥ _ ⊥ unchanged unchanged _
          (λ e limit. limit_refused gathers _ _ _ _ e (takes_told gathers _ one.file _ _ _ (tells_file g.F.Feed _ _ _ _ one) one.holding.1) limit) (λ r. absurd r) (λ pass h. absurd h) (limit_caused c.in_ok-judged.judged _ c.in_err-header.ensures.refused);
      changed = never_changed (Only (header_limit (held_header c.in_ok-judged.judged.pass))) ⊥ ⊥ _ _ (limit_caused c.in_ok-judged.judged _ c.in_err-header.ensures.refused);
    })

pub returns-clause-begun : goal.returns-clause-begun
returns-clause-begun g c =
    let one = c.in_ok-judged.ensures.judged in
    let P = g.P.NodeTaker in
    let area = g.A.Area.area in
    let outputs = c.args.outputs.now in
    let befores = c.in_ok-each.each in
    let nows = c.judge.new.gathering in
    let fresh = subst (λ l. AllZip (IsFreshTaking P.start P.step P.has_ways P.ended) outputs l) (sym c.in_ok-each.ensures) c.in_ok-takings.ensures in
    let ends = subst (λ l. AllZip (EndsTaking area P.has_ways P.ended (header_of c.in_ok-header.header.now)) l c.in_ok-phases.phases.items) c.into_members.ensures c.in_ok-phases.ensures in
    record {
      file = one.file;
      supplied = one.supplied;
      digest_is = one.digest_is;
      holding = (
        sound_file _ one.file befores nows c.in_ok-judged.judged.pass one.holding.1 c.in_ok-header.ensures.within,
        all_begin area P.start P.step P.has_ways P.ended one.file c.in_ok-judged.judged.pass (header_of c.in_ok-header.header.now) c.in_ok-header.ensures.header c.in_ok-header.ensures.within c.in_ok-header.ensures.short outputs befores nows c.in_ok-phases.phases.items fresh one.holding.1 ends,
      );
    }
