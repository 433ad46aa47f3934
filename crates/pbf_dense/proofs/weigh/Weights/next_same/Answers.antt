use Rattle.std.proofs.Common.{◌≡◌, ◌+◌, ◌-◌, ◌^◌, ◌++◌, ◌<◌, length, map, min, replicate, sym, ap, ◌∙◌, rules, arith, w64}
use Rattle.std.proofs.lemmas.Int.{to_z-of_z}
use mir.Val.{SFits}
use Rattle.pbf_wire.specs.Cursors.{numbers_left, sums_left}
use Rattle.osm_entity.specs.Sources.{low_32}
use Rattle.pbf_dense.specs.Info.{user_text}
use Rattle.pbf_dense.proofs.MovingLemmas.{low_zeros}
use Rattle.pbf_dense.proofs.SteadyLemmas.{bare_weight}
use Rattle.pbf_dense.proofs.weigh.Weights.next_same.Goals as goal

pub returns-clause-same : goal.returns-clause-same
returns-clause-same c =
    let old = c.args.self.now in
    let users = c.pass_same-count.new.self in
    let tags = c.pass_zeros.new.self in
    let n = c.pass_same-count.result in
    let user = c.last_value-user.result in
    let is : user ≡ old.users.total = c.last_value-user.ensures ∙ c.pass_same-count.ensures.last in
    let all : c.pass_zeros.result ≡ n = omega (arith, c.pass_zeros.ensures.few, c.if-pass_zeros-count.false) in
    let some : 0 < n = omega (arith, c.if-count-eq0.false) in
    let fits : SFits w64 user = search rules in
    let size : length c.user_text_of-text.result.now ≡ length (user_text old.table.now user) =
    ap length (c.user_text_of-text.ensures ∙ ap (user_text old.table.now) (to_z-of_z w64 user fits)) in
    record {
      user = user;
      users_are = c.pass_same-count.ensures.same ∙ ap (λ z. replicate n z ++ sums_left users) (sym is);
      runs_are = ap (map low_32) c.pass_zeros.ensures.passed ∙ low_zeros c.pass_zeros.result (numbers_left tags) ∙ ap (λ k. replicate k 0 ++ map low_32 (numbers_left tags)) all;
      weight_is = bare_weight _ n c.saturating_add.result c.saturating_mul-weight.result c.args.room some (c.saturating_add.ensures ∙ ap (λ k. min (k + 160) (2 ^ 64 - 1)) size) c.saturating_mul-weight.ensures (omega (arith, c.if-weight-room.false)) c.requires;
    }
