use Rattle.std.proofs.Common.{List, ℕ, ◌++◌, ap, arith, rules, subst, ◌∙◌}
use Rattle.pbf_unpack.specs.declared.whole.Found.{Found}
use Rattle.pbf_unpack.specs.Supplying.{CarriesStored}
use Rattle.pbf_unpack.specs.Whole.{Means, Stores}
use Rattle.pbf_unpack.specs.Unpacked.{Unpacked, then_unpacked, unpacked_from}
use Rattle.pbf_unpack.proofs.StoredLemmas.{carried_on, stored_on}
use Rattle.pbf_unpack.proofs.SupplyLemmas.{frame_some}
use Rattle.pbf_unpack.proofs.feed.UnpackedFeed.next_frame.Goals as goal

pub returns-in_ok-outcome-in-Whole-clause-ready : goal.returns-in_ok-outcome-in-Whole-clause-ready
returns-in_ok-outcome-in-Whole-clause-ready g c = grind (arith, frame_some c.in-Whole.frame.kind c.in-Whole.frame.blob_at)

pub returns-in_ok-outcome-in-Whole-clause-goes_on : goal.returns-in_ok-outcome-in-Whole-clause-goes_on
returns-in_ok-outcome-in-Whole-clause-goes_on g c =
    let old = c.args.self.now in
    let now = c.come_from.new.self in
    let read = c.read_whole.new.buffers.front.items ++ c.read_whole.new.buffers.packed.items in
    let one = subst (λ (x : Found). Stores old.place read c.read_whole.new.buffers.packed.items x) c.in-Whole.is c.in_ok-found.ensures.stores in
    let means = subst (λ (x : Found). Means old.place read c.read_whole.new.buffers.packed.items (g.F.Feed.remaining c.read_whole.new.feed) x) c.in-Whole.is c.in_ok-found.ensures.means in
    let on : (packed : List ℕ) → CarriesStored 0 old.state old.place packed old.stored → CarriesStored 0 now.state now.place (packed ++ read) now.stored = λ packed carried rest follows.
    rw (c.come_from.ensures.same.state, c.come_from.ensures.same.place, c.come_from.ensures.stored, c.in_ok-outcome-in-Whole.ensures.stored, c.requires.reading) (stored_on packed read rest old.stored _ old.place c.in-Whole.frame.end ((rw c.requires.reading at carried) (read ++ rest) tt) (one rest)) in
    record {
      remaining_same = search rules;
      supplied_same = λ log bytes has. record {
        packed = has.packed ++ read;
        passed = search (rules, has);
        carries = λ rest follows.
            rw (c.come_from.ensures.same.state, c.come_from.ensures.same.place, c.come_from.ensures.same.fault, c.come_from.ensures.same.buffers, c.come_from.ensures.same.done, c.or-self.ensures, c.fault.ensures, c.requires.reading)
            (carried_on has.packed read rest bytes (c.unpack.new.buffers.front.items ++ c.unpack.new.buffers.raw.items) old.fault _ old.place c.in-Whole.frame.end ((rw (c.requires.reading, c.requires.spent) at has.carries) (read ++ rest) tt) (means.1 rest ∙ ap (λ (m : Unpacked). then_unpacked m (unpacked_from c.in-Whole.frame.end rest)) c.in_ok-outcome-in-Whole.ensures.means));
        stores = on has.packed has.stores;
        ended = search (rules, has);
      };
    }
