use Rattle.std.proofs.Common.{inr, refl, rules, arith}
use Rattle.std.proofs.lemmas.Bool.Decides.{nat_tests}
use Rattle.pbf_unpack.proofs.CauseLemmas.{is_cut}
use Rattle.pbf_unpack.proofs.FrameHeld.{cut_is_none}
use Rattle.pbf_unpack.proofs.FinishLemmas.{gave_all}
use Rattle.pbf_unpack.proofs.drain.PackedDrain.finish.Goals as goal

pub returns-then-is_empty-clause-gave : goal.returns-then-is_empty-clause-gave
returns-then-is_empty-clause-gave g c = gave_all c.args.self.now c.args.self.now refl (λ log raw has. has) (c.if-is_empty.ensures.empty refl) (search rules)

pub returns-clause-gave : goal.returns-clause-gave
returns-clause-gave g c = grind (arith, gave_all)

pub returns-then-not-is_complete-clause-stopped : goal.returns-then-not-is_complete-clause-stopped
returns-then-not-is_complete-clause-stopped g c =
    inr (is_cut c.args.self.now (cut_is_none c.args.self.now.frame (λ none. grind (arith, nat_tests, none)) (search rules)))
