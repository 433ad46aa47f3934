use Rattle.std.proofs.Common.{◌≡◌, Ok, false, rules, subst, sym}
use Rattle.std.specs.Prelude.{IfErr, OnOk}
use Rattle.std.specs.List.{AllByRecursion, AllZip}
use Rattle.pbf_pass.specs.Payload.{lent_by}
use Rattle.pbfcut.specs.Several.{IsReadyWriter, OneStopped, WriterFailsAtPayload, WriterTakesPayload}
use Rattle.pbfcut.proofs.writing_each.pack_frame_each.Goals as goal

pub pack_payload_each-requires : goal.pack_payload_each-requires
pack_payload_each-requires g c =
    let same : c.pack_by_strips.new.writers ≡ c.args.writers.now = c.pack_by_strips.ensures.left (search rules) in
    subst (λ l. AllByRecursion IsReadyWriter l) (sym same) c.requires.each

pub returns-clause-packed : goal.returns-clause-packed
returns-clause-packed g c =
    let same : c.pack_by_strips.new.writers ≡ c.args.writers.now = c.pack_by_strips.ensures.left (search rules) in
    subst (λ l. OnOk c.pack_payload_each.result (AllZip (WriterTakesPayload g.D.Drain (lent_by c.args.frame.now)) l c.pack_payload_each.new.writers)) same c.pack_payload_each.ensures.took

pub returns-clause-stopped : goal.returns-clause-stopped
returns-clause-stopped g c =
    let same : c.pack_by_strips.new.writers ≡ c.args.writers.now = c.pack_by_strips.ensures.left (search rules) in
    subst (λ l. IfErr c.pack_payload_each.result (λ stop. OneStopped (WriterTakesPayload g.D.Drain (lent_by c.args.frame.now)) (WriterFailsAtPayload g.D.Drain (lent_by c.args.frame.now) stop) l c.pack_payload_each.new.writers)) same c.pack_payload_each.ensures.stopped
