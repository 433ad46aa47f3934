use Rattle.std.proofs.Common.{◌+◌, ◌++◌, [], List, ℕ, length, sym, ap, ◌∙◌, subst, length-append, rules}
use Rattle.std.proofs.lemmas.List.{append-nil}
use Rattle.pbf_unpack.specs.declared.below.DrainState.{DrainState}
use Rattle.pbf_unpack.specs.DrainStates.{HasWhole, Stands}
use Rattle.pbf_unpack.specs.Packing.{frame_held}
use Rattle.pbf_unpack.specs.RawFrames.{IsOneFrame}
use Rattle.pbf_unpack.proofs.FrameHeld.{complete_is_none}
use Rattle.pbf_unpack.proofs.PackingLemmas.{raw_sent, raw_stuck, packed_more}
use Rattle.pbf_unpack.proofs.drain.PackedDrain.send.Goals as goal

pub returns-in_err-send-clause-taken : goal.returns-in_err-send-clause-taken
returns-in_err-send-clause-taken g c =
    let below = c.args.self.now.below in
    let stuck = c.in_err-send.ensures.failed in
    rw (stuck.place_same) (raw_stuck (g.D.Drain.taken below.drain) (g.D.Drain.taken c.send.new.self.drain) below.place [] (c.parts.result.0.now ++ c.parts.result.1.now) (λ taken is. subst (λ (x : DrainState). HasWhole x below.place taken) c.requires.taking (below.whole taken is)) (frame_held c.args.self.now.frame) stuck.front)

pub returns-clause-taken : goal.returns-clause-taken
returns-clause-taken g c =
    let below = c.args.self.now.below in
    let raw = frame_held c.args.self.now.frame in
    let frame = c.parts.result.0.now ++ c.parts.result.1.now in
    let stands : Stands below.place raw frame = rw (c.parts.ensures) (search (rules, c.in-Ok-Some.field-0-is, c.in-Ok-Some.ensures)) in
    let one : IsOneFrame raw = rw (c.in-Ok-Some.field-0-is) at c.in-Ok-Some.ensures.one in
    raw_sent (g.D.Drain.taken below.drain) (g.D.Drain.taken c.send.new.self.drain) below.place raw frame (λ taken is. subst (λ (x : DrainState). HasWhole x below.place taken) c.requires.taking (below.whole taken is)) one stands.means c.send.new.self.place (frame_held c.clear.new.self) c.in_ok-send.ensures.place c.clear.ensures.held c.in_ok-send.ensures.took.told

pub returns-clause-logged : goal.returns-clause-logged
returns-clause-logged g c log all has =
    let below = c.args.self.now.below in
    let raw = frame_held c.args.self.now.frame in
    let frame = c.parts.result.0.now ++ c.parts.result.1.now in
    let stands : Stands below.place raw frame = rw (c.parts.ensures) (search (rules, c.in-Ok-Some.field-0-is, c.in-Ok-Some.ensures)) in
    record {
      packed = has.packed ++ frame;
      took = c.in_ok-send.ensures.took.logged log has.packed has.took;
      counted = length-append has.packed frame ∙ ap (λ (n : ℕ). n + length frame) has.counted ∙ sym c.in_ok-send.ensures.place;
      done = has.done ++ raw;
      means = packed_more below.place has.done raw has.packed frame has.counted has.means stands.means;
      split = has.split ∙ sym (append-nil (has.done ++ raw)) ∙ ap (λ (l : List ℕ). (has.done ++ raw) ++ l) (sym c.clear.ensures.held);
    }

pub stop_as-requires-clause-unfit : goal.stop_as-requires-clause-unfit
stop_as-requires-clause-unfit g c same =
    complete_is_none c.args.self.now.frame c.args.self.now.below.place c.requires.complete (c.in-Ok-None.ensures.past c.in-Ok-None.field-0-is)
