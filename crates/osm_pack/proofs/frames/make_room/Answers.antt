use Rattle.std.proofs.Common.{◌∙◌, [], List, Bool, sym, subst}
use Rattle.std.specs.Prelude.{if◌then◌else◌}
use Rattle.std.proofs.lemmas.Result.{err_from_is_err_and}
use Rattle.osm_entity.specs.Entity.{EntitySpec}
use Rattle.pbf_frame.specs.Devices.{IsFront}
use Rattle.pbf_frame.specs.Transfers.{Added}
use Rattle.pbf_frame.proofs.Beginnings.{front_whole}
use Rattle.pbf_frame.proofs.Passed.{added_none}
use Rattle.osm_pack.specs.Cuts.{block_frame}
use Rattle.osm_pack.specs.Open.{Holds}
use Rattle.osm_pack.proofs.OpenLemmas.{alone, only_none}
use Rattle.osm_pack.proofs.frames.make_room.Goals as goal

pub returns-in_ok-close_into-clause-made : goal.returns-in_ok-close_into-clause-made
returns-in_ok-close_into-clause-made g c = λ e is fits.
    let closed = c.in_ok-close_into.ensures in
    let cut = λ (es : List EntitySpec) (h : Holds c.args.block.now es). sym (c.takes.ensures es e is h) ∙ c.if-not-takes.true in
    record {
      joins = λ es h. rw (only_none _ es closed.empty h) (alone e fits);
      pending = λ es h. subst (λ (q : Bool). Holds c.close_into.new.block (if q then es else [])) (sym (cut es h)) closed.empty;
      writes = λ es h. record {
        written = subst (λ (q : Bool). Added g.D.Drain c.args.drain.now (if q then [] else block_frame es) c.close_into.new.drain) (sym (cut es h)) (closed.writes es h).written;
        front = subst (λ (q : Bool). IsFront (g.D.Drain.taken c.args.drain.now) (g.D.Drain.taken c.close_into.new.drain) (if q then [] else block_frame es)) (sym (cut es h)) (closed.writes es h).front;
      };
    }

pub returns-else-not-takes-clause-made : goal.returns-else-not-takes-clause-made
returns-else-not-takes-clause-made g c = λ e is fits.
    let joins = λ (es : List EntitySpec) (h : Holds c.args.block.now es). sym (c.takes.ensures es e is h) ∙ c.if-not-takes.false in
    let written = λ (es : List EntitySpec) (h : Holds c.args.block.now es). subst (λ (q : Bool). Added g.D.Drain c.args.drain.now (if q then [] else block_frame es) c.args.drain.now) (sym (joins es h)) (added_none g.D.Drain c.args.drain.now) in
    record {
      joins = joins;
      pending = λ es h. subst (λ (q : Bool). Holds c.args.block.now (if q then es else [])) (sym (joins es h)) h;
      writes = λ es h. record { written = written es h; front = front_whole _ _ _ (written es h).told };
    }

pub returns-in_err-close_into-clause-made : goal.returns-in_err-close_into-clause-made
returns-in_err-close_into-clause-made g c = λ e is fits.
    let p = err_from_is_err_and c.from_residual.result c.from_residual.ensures.1 in
    rw (p.1, p.2) (record {
      joins = tt;
      pending = λ es h. tt;
      writes = λ es h. record {
        written = tt;
        front = subst (λ (q : Bool). IsFront (g.D.Drain.taken c.args.drain.now) (g.D.Drain.taken c.close_into.new.drain) (if q then [] else block_frame es)) (sym (sym (c.takes.ensures es e is h) ∙ c.if-not-takes.true)) (c.close_into.ensures.writes es h).front;
      };
    })
