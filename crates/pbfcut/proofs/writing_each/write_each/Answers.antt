use Rattle.std.proofs.Common.{◌≡◌, ap, arith, refl, subst, sym}
use Rattle.std.specs.List.{AllByRecursion}
use Rattle.pbfcut.specs.Calls.{fed}
use Rattle.pbfcut.specs.Several.{IsWriterOf, KeepsWriter}
use Rattle.pbfcut.proofs.WantedWriters.{found_named}
use Rattle.pbfcut.proofs.OutputLemmas.{all_fresh, concluded, none_written}
use Rattle.pbfcut.proofs.SeveralLemmas.{three_length, zip_length}
use Rattle.pbfcut.proofs.writing_each.write_each.Goals as goal

pub returns-in_default : goal.returns-in_default
returns-in_default g c = none_written (fed g.F.Feed c.args.feed.now c.args.feed.now) g.D.Drain c.args.pass c.args.choices.now c.args.outputs.items c.requires.same refl _ refl

pub returns-in_default-strips_if_several : goal.returns-in_default-strips_if_several
returns-in_default-strips_if_several g c = none_written (fed g.F.Feed c.args.feed.now c.args.feed.now) g.D.Drain c.args.pass c.args.choices.now c.args.outputs.items c.requires.same refl _ refl

pub pack_each-writers-requires-clause-named : goal.pack_each-writers-requires-clause-named
pack_each-writers-requires-clause-named g c = found_named c.args.pass.number c.in-Ok.strips c.args.choices.now c.args.outputs.items c.load-writers.result.items c.in-Ok.ensures c.load-writers.ensures

pub pack_each-writers-requires-clause-fresh : goal.pack_each-writers-requires-clause-fresh
pack_each-writers-requires-clause-fresh g c = all_fresh c.args.pass.number c.args.choices.now c.args.outputs.items c.load-writers.result.items c.requires.short c.load-writers.ensures

pub unload-requires-clause-room : goal.unload-requires-clause-room
unload-requires-clause-room g c = omega (arith, c.in-Ok-Ok.ensures'.capacity, c.len-2.ensures, c.args.outputs.ok.0, three_length (IsWriterOf c.args.pass.number) _ _ _ c.load-writers.ensures, zip_length (KeepsWriter g.D.Drain) _ _ c.pack_each-writers.ensures.outs)

pub returns : goal.returns
returns g c = concluded (fed g.F.Feed c.args.feed.now c.pack_each-writers.new.feed) g.D.Drain c.args.pass c.args.choices.now c.args.outputs.items c.load-writers.result.items c.pack_each-writers.result.0.items c.unload.result.items c.load-writers.ensures c.unload.ensures c.pack_each-writers.result.1 c.conclude.result c.pack_each-writers.ensures c.conclude.ensures.same c.conclude.ensures.other
