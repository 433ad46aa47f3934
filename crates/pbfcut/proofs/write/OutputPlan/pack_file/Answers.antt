use Rattle.std.proofs.Common.{◌≤◌, [], Some, rules, arith, sym, ap, refl, ◌∙◌}
use Rattle.std.specs.List.{filter}
use Rattle.std.proofs.lemmas.Result.{err_from_is_err_and}
use Rattle.pbf_header.specs.Header.{header_of}
use Rattle.osm_pack.specs.Cuts.{written_file}
use Rattle.pbf_pass.specs.Unjudged.{StopsUnjudged}
use Rattle.pbf_pass.specs.Stops.{ReadFailed, WriteFailed}
use Rattle.pbf_pass.specs.Counting.{stored_entities}
use Rattle.pbf_pass.specs.Given.{Took}
use Rattle.pbf_pass.specs.Judged.{fully_known, judged_file}
use Rattle.pbf_pass.proofs.GivenLemmas.{gave_file_less, tells_file}
use Rattle.pbfcut.specs.Pick.{picks_of, take_of}
use Rattle.pbfcut.specs.Write.{Packed, PacksFront}
use Rattle.pbfcut.proofs.PickingLemmas.{none_packed, behind_header, header_alone, whole_file, ended, end_front}
use Rattle.pbfcut.proofs.WritingLemmas.{frames_all, last_front, front_told, has_written, front_written, stops_written, faulty_written, faulty_never, counts_written, stops_last}
use Rattle.pbfcut.proofs.write.OutputPlan.pack_file.Goals as goal

pub returns-in_err-put_header : goal.returns-in_err-put_header
returns-in_err-put_header g c =
    let p = err_from_is_err_and c.from_residual.result c.from_residual.ensures.1 in
    rw (p.1, p.2) (record {
      packed = tt;
      beginning = λ frames is. header_alone (header_of c.args.self.header.now) _ _ (filter (take_of c.args.self.chosen) (stored_entities frames)) (c.in_err-put_header.ensures.front c.requires.fresh.packing);
      faulty = faulty_never g.F.Feed _ _ _ _ _ (c.in_err-put_header.ensures.uses.stops c.requires.fresh.packing);
      stops = search rules;
      keeps = search rules;
      out = search rules;
    })

pub returns-in_err-input : goal.returns-in_err-input
returns-in_err-input g c =
    let p = err_from_is_err_and c.from_residual-in_err-input.result c.from_residual-in_err-input.ensures.1 in
    let none = none_packed g.D.Drain c.put_header.new.self (c.in_ok-put_header.ensures.pending [] c.requires.fresh.none) in
    rw (p.1, p.2) (record {
      packed = tt;
      beginning =
          let front = front_written g.D.Drain (λ v. v.packer.now) (λ v. v.entities.counts) (λ v. picks_of v.entities.picker) (λ v. v.entities.number) _ (λ old new f one. (one.0, ap picks_of one.1, one.2)) _ (take_of c.args.self.chosen) (ap picks_of c.new-entities.ensures.picker ∙ c.of_taken-picker.ensures) _ _ _ c.pass_over-outcome.new.visitor _ (λ mid f s failing. failing) c.in_err-input.ensures.stops none (c.new-entities.ensures.counts ∙ c.none.ensures) in
          let said : PacksFront (take_of c.args.self.chosen) (header_of c.args.self.header.now) (judged_file (g.F.Feed.remaining c.args.feed.now)) (g.D.Drain.taken c.args.packer.now.drain) (g.D.Drain.taken c.pass_over-outcome.new.visitor.packer.now.drain) = λ frames is. behind_header (header_of c.args.self.header.now) (g.D.Drain.taken c.args.packer.now.drain) _ (g.D.Drain.taken c.pass_over-outcome.new.visitor.packer.now.drain) (filter (take_of c.args.self.chosen) (stored_entities frames)) (c.in_ok-put_header.ensures.written c.requires.fresh.packing).told (front frames is) in
          search (rules, said);
      faulty = faulty_written g.D.Drain (λ v. v.packer.now) (λ v. v.entities.counts) (λ v. picks_of v.entities.picker) (λ v. v.entities.number) _ (λ old new f one. (one.0, ap picks_of one.1, one.2)) _ (take_of c.args.self.chosen) (ap picks_of c.new-entities.ensures.picker ∙ c.of_taken-picker.ensures) g.F.Feed _ _ _ c.pass_over-outcome.new.visitor _ (λ mid f s failing. failing) none (c.new-entities.ensures.counts ∙ c.none.ensures) c.in_err-input.ensures.given;
      stops =
          let said = stops_written g.D.Drain (λ v. v.packer.now) (λ v. v.entities.counts) (λ v. picks_of v.entities.picker) (λ v. v.entities.number) _ (λ old new f one. (one.0, ap picks_of one.1, one.2)) _ (take_of c.args.self.chosen) (ap picks_of c.new-entities.ensures.picker ∙ c.of_taken-picker.ensures) _ _ _ c.pass_over-outcome.new.visitor _ (λ mid f s failing. failing) c.in_err-input.ensures.stops none (c.new-entities.ensures.counts ∙ c.none.ensures) (g.D.Drain.failures c.args.packer.now.drain) c.put_header.ensures.uses.keeps.counts in
          search (rules, said);
      keeps = search rules;
      out =
          let more = counts_written g.D.Drain (λ v. v.packer.now) (λ v. v.entities.counts) (λ v. picks_of v.entities.picker) (λ v. v.entities.number) _ (λ old new f one. (one.0, ap picks_of one.1, one.2)) _ (take_of c.args.self.chosen) (ap picks_of c.new-entities.ensures.picker ∙ c.of_taken-picker.ensures) _ _ _ c.pass_over-outcome.new.visitor _ (λ mid f s failing. failing) c.in_err-input.ensures.stops none (c.new-entities.ensures.counts ∙ c.none.ensures) in
          let counts : g.D.Drain.failures c.args.packer.now.drain ≤ g.D.Drain.failures c.pass_over-outcome.new.visitor.packer.now.drain = omega (arith, c.put_header.ensures.uses.keeps.counts, more) in
          search (rules, counts);
    })

pub returns-in_err-finish : goal.returns-in_err-finish
returns-in_err-finish g c =
    let p = err_from_is_err_and c.from_residual-in_err-finish.result c.from_residual-in_err-finish.ensures.1 in
    let none = none_packed g.D.Drain c.put_header.new.self (c.in_ok-put_header.ensures.pending [] c.requires.fresh.none) in
    let given = c.in_ok-input.ensures.visited in
    let all = given.holding.1 in
    let w = has_written g.D.Drain (λ v. v.packer.now) (λ v. v.entities.counts) (λ v. picks_of v.entities.picker) (λ v. v.entities.number) _ (λ old new f one. (one.0, ap picks_of one.1, one.2)) _ (take_of c.args.self.chosen) (ap picks_of c.new-entities.ensures.picker ∙ c.of_taken-picker.ensures) all.frames c.pass_over-outcome.new.visitor all.visited none (c.new-entities.ensures.counts ∙ c.none.ensures) in
    let pick = take_of c.args.self.chosen in
    let h = header_of c.args.self.header.now in
    rw (p.1, p.2) (record {
      packed = tt;
      beginning =
          let end = end_front g.D.Drain _ w.frames.es c.pass_over-outcome.new.visitor.packer.now c.finish.new.self w.frames.packed (c.in_err-finish.ensures.front c.in_ok-input.ensures.visitor.ready.1) in
          let said = front_told pick h (g.F.Feed.remaining c.args.feed.now) given.file (g.D.Drain.taken c.args.packer.now.drain) (g.D.Drain.taken c.finish.new.self.drain) (tells_file g.F.Feed _ _ _ _ given)
          (λ frames is. behind_header h _ _ _ (filter pick (stored_entities frames)) (c.in_ok-put_header.ensures.written c.requires.fresh.packing).told (last_front g.D.Drain pick _ all.frames frames _ _ _ w.frames end (sym (ap fully_known all.says) ∙ is))) in
          search (rules, said);
      faulty = faulty_never g.F.Feed _ _ _ _ _ (c.in_err-finish.ensures.uses.stops c.in_ok-input.ensures.visitor.ready.1);
      stops =
          let counts : g.D.Drain.failures c.args.packer.now.drain ≤ g.D.Drain.failures c.pass_over-outcome.new.visitor.packer.now.drain = omega (arith, c.put_header.ensures.uses.keeps.counts, w.drain_counts) in
          let read = ReadFailed g.F.Feed c.args.feed.now c.pass_over-outcome.new.feed in
          let said : StopsUnjudged c.args.self.pass.number (judged_file (g.F.Feed.remaining c.args.feed.now)) read (WriteFailed g.D.Drain c.args.packer.now.drain c.finish.new.self.drain) c.in_err-finish.field-0.0 = stops_last c.args.self.pass.number _ _ _ (judged_file (g.F.Feed.remaining c.args.feed.now)) read _ counts (c.in_err-finish.ensures.uses.stops c.in_ok-input.ensures.visitor.ready.1) in
          search (rules, said);
      keeps = search rules;
      out =
          let counts : g.D.Drain.failures c.args.packer.now.drain ≤ g.D.Drain.failures c.finish.new.self.drain = omega (arith, c.put_header.ensures.uses.keeps.counts, w.drain_counts, c.finish.ensures.uses.keeps.counts) in
          search (rules, counts);
    })

pub returns : goal.returns
returns g c =
    let none = none_packed g.D.Drain c.put_header.new.self (c.in_ok-put_header.ensures.pending [] c.requires.fresh.none) in
    let pick = take_of c.args.self.chosen in
    let h = header_of c.args.self.header.now in
    let all = c.in_ok-input.ensures.visited.holding.1 in
    let w = has_written g.D.Drain (λ v. v.packer.now) (λ v. v.entities.counts) (λ v. picks_of v.entities.picker) (λ v. v.entities.number) _ (λ old new f one. (one.0, ap picks_of one.1, one.2)) _ (take_of c.args.self.chosen) (ap picks_of c.new-entities.ensures.picker ∙ c.of_taken-picker.ensures) all.frames c.pass_over-outcome.new.visitor all.visited none (c.new-entities.ensures.counts ∙ c.none.ensures) in
    record {
      packed =
          let counts = c.pass_over-outcome.new.visitor.entities.counts in
          let said = gave_file_less g.F.Feed _ _ _ _ (λ file. Took g.D.Drain c.args.packer.now.drain c.finish.new.self.drain (Packed pick h counts (judged_file (Some file))))
          (λ file p.
          let all = p.1 in
          let w = has_written g.D.Drain (λ v. v.packer.now) (λ v. v.entities.counts) (λ v. picks_of v.entities.picker) (λ v. v.entities.number) _ (λ old new f one. (one.0, ap picks_of one.1, one.2)) _ (take_of c.args.self.chosen) (ap picks_of c.new-entities.ensures.picker ∙ c.of_taken-picker.ensures) all.frames c.pass_over-outcome.new.visitor all.visited none (c.new-entities.ensures.counts ∙ c.none.ensures) in
          let es = w.frames.es in
          record {
            written = written_file h es;
            added = whole_file g.D.Drain h _ _ _ es (c.in_ok-put_header.ensures.written c.requires.fresh.packing) (ended g.D.Drain _ es c.pass_over-outcome.new.visitor.packer.now c.finish.new.self w.frames.packed c.in_ok-finish.ensures.written);
            holding = λ frames is. frames_all g.D.Drain pick _ h all.frames counts counts _ w.frames refl frames (sym (ap fully_known all.says) ∙ is);
          }) c.in_ok-input.ensures.visited in
          search (rules, said);
      beginning = tt;
      faulty = tt;
      stops = tt;
      keeps = search rules;
      out =
          let counts : g.D.Drain.failures c.args.packer.now.drain ≤ g.D.Drain.failures c.finish.new.self.drain = omega (arith, c.put_header.ensures.uses.keeps.counts, w.drain_counts, c.finish.ensures.uses.keeps.counts) in
          search (rules, counts);
    }
