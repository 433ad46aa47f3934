use Rattle.std.proofs.Common.{◌++◌, drop, length, refl, sym, subst, take}
use Rattle.std.specs.List.{AllByRecursion, AllZip}
use Rattle.pbf_pass.specs.Each.{EachTook, OneFailed}
use Rattle.pbf_pass.specs.Payload.{lent_by}
use Rattle.pbfcut.specs.Several.{CanPackEach, OneStopped, WriterFails, WriterFailsAtPayload, WriterTakes, WriterTakesPayload}
use Rattle.pbfcut.proofs.SeveralLemmas.{all_back, zip_length}
use Rattle.pbfcut.proofs.WantedWriters.{each_ready, each_shown, if_err_more, on_ok_more, one_length, one_shown}
use Rattle.pbfcut.proofs.writing_each.EachWriterVisit.visit.Goals as goal

pub returns-clause-took : goal.returns-clause-took
returns-clause-took g c =
    let self = c.args.self.now in
    let olds = self.writers.items in
    let news = c.pack_frame_each.new.writers in
    let took = subst (λ l. AllZip (WriterTakesPayload g.D.Drain (lent_by c.args.frame.now)) l news) c.deref_mut.ensures.value in
    on_ok_more c.pack_frame_each.result _ _ (λ did f shows.
    let back = all_back self.writers.len olds news self.writers.ok.0 (zip_length (WriterTakesPayload g.D.Drain (lent_by c.args.frame.now)) olds news (took did)) in
    (subst (λ l. EachTook (WriterTakes g.D.Drain) olds f l) (sym back) (each_shown g.D.Drain c.args.frame.now f shows olds news (took did)), refl)) c.pack_frame_each.ensures.packed

pub returns-clause-failed : goal.returns-clause-failed
returns-clause-failed g c =
    let self = c.args.self.now in
    let olds = self.writers.items in
    let news = c.pack_frame_each.new.writers in
    let p = lent_by c.args.frame.now in
    if_err_more c.pack_frame_each.result _ _ (λ stop did f shows.
    let one = subst (λ l. OneStopped (WriterTakesPayload g.D.Drain p) (WriterFailsAtPayload g.D.Drain p stop) l news) c.deref_mut.ensures.value did in
    let back = all_back self.writers.len olds news self.writers.ok.0 (one_length (WriterTakesPayload g.D.Drain p) (WriterFailsAtPayload g.D.Drain p stop) olds news one) in
    subst (λ l. OneFailed (WriterTakes g.D.Drain) (WriterFails g.D.Drain) olds f l stop) (sym back) (one_shown g.D.Drain c.args.frame.now f shows stop olds news one)) c.pack_frame_each.ensures.stopped

pub returns-clause-ready : goal.returns-clause-ready
returns-clause-ready g c =
    let self = c.args.self.now in
    let olds = self.writers.items in
    let news = c.pack_frame_each.new.writers in
    let p = lent_by c.args.frame.now in
    on_ok_more c.pack_frame_each.result _ _ (λ did.
    let took = subst (λ l. AllZip (WriterTakesPayload g.D.Drain p) l news) c.deref_mut.ensures.value did in
    let back = all_back self.writers.len olds news self.writers.ok.0 (zip_length (WriterTakesPayload g.D.Drain p) olds news took) in
    subst (λ l. CanPackEach self.strips l) (sym back) (each_ready g.D.Drain p self.strips olds news took c.requires)) c.pack_frame_each.ensures.packed
