use Rattle.std.proofs.Common.{◌+◌, ◌++◌, length, subst, length-append, arith, rules}
use Rattle.pbf_unpack.specs.DrainStates.{HasWhole}
use Rattle.pbf_unpack.specs.declared.below.DrainState.{DrainState}
use Rattle.pbf_unpack.proofs.PackingLemmas.{has_failed, sent_whole, sent_part}
use Rattle.pbf_unpack.proofs.below.Below.send.Goals as goal

pub invariant_of-self : goal.invariant_of-self
invariant_of-self g c =
    let self = c.args.self.now in
    let stands = c.requires.means in
    record {
      in_range = self.in_range;
      whole = sent_part (g.D.Drain.taken self.drain) (g.D.Drain.taken c.write_both.new.drain) self.place stands.0 (c.args.front.now ++ c.args.blob.now) (λ taken is. subst (λ (x : DrainState). HasWhole x self.place taken) c.requires.taking (self.whole taken is)) stands.1.means c.write_both.ensures.front;
      failed = λ _. has_failed (g.D.Drain.failures self.drain) (g.D.Drain.failures c.write_both.new.drain) (search rules);
    }

pub invariant_of-self-2 : goal.invariant_of-self-2
invariant_of-self-2 g c =
    let self = c.args.self.now in
    let stands = c.requires.means in
    let frame = c.args.front.now ++ c.args.blob.now in
    let end = self.place + (length c.args.front.now + length c.args.blob.now) in
    record {
      in_range = omega (arith, stands.1.fits, length-append c.args.front.now c.args.blob.now);
      whole = sent_whole (g.D.Drain.taken self.drain) (g.D.Drain.taken c.write_both.new.drain) self.place stands.0 frame (λ taken is. subst (λ (x : DrainState). HasWhole x self.place taken) c.requires.taking (self.whole taken is)) stands.1.means stands.2 end (omega (arith, length-append c.args.front.now c.args.blob.now)) c.in_ok-write_both.ensures.ok.told;
      failed = λ taking. absurd (cc);
    }
