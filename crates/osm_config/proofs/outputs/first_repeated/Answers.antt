use Rattle.std.proofs.Common.{◌≡◌, ◌+◌, ◌∷◌, true, false, length, map, rules, arith, sym, subst}
use Rattle.std.specs.String.{string_bytes}
use Rattle.osm_config.proofs.OutputLemmas.{IsSeen, seen_none, seen_again, seen_more, was_there, was_not_there, has_key}
use Rattle.osm_config.proofs.outputs.first_repeated.Goals as goal

pub extracts-init : goal.extracts-init
extracts-init c = record { seen = rw c.new-seen.ensures.empty (seen_none (map (λ e. string_bytes e.output) c.args.extracts.now)); all = omega arith }

pub returns-then-not-branch : goal.returns-then-not-branch
returns-then-not-branch c =
    let all = map (λ e. string_bytes e.output) c.args.extracts.now in
    let more = map (λ e. string_bytes e.output) c.in-Some.more.now in
    let rest : c.extracts.rest.now ≡ c.in-Some.first.now ∷ c.in-Some.more.now = search rules in
    let named : c.as_str.result.now ≡ string_bytes c.in-Some.first.now.output = search rules in
    let here = subst (λ r. IsSeen c.extracts.seen.keys c.extracts.count (map (λ e. string_bytes e.output) r) all) rest c.extracts.invariant.seen in
    let s = subst (λ n. IsSeen c.extracts.seen.keys c.extracts.count (n ∷ more) all) (sym named) here in
    let old : c.in_ok-insert.field-0 ≡ false = search rules in
    seen_again c.extracts.seen.keys c.extracts.count c.as_str.result more all s (was_there c.in_ok-insert.field-0 (has_key c.extracts.seen.keys c.as_str.result) c.in_ok-insert.ensures.added old)

pub extracts-preserved : goal.extracts-preserved
extracts-preserved c =
    let all = map (λ e. string_bytes e.output) c.args.extracts.now in
    let more = map (λ e. string_bytes e.output) c.in-Some.more.now in
    let rest : c.extracts.rest.now ≡ c.in-Some.first.now ∷ c.in-Some.more.now = search rules in
    let named : c.as_str.result.now ≡ string_bytes c.in-Some.first.now.output = search rules in
    let here = subst (λ r. IsSeen c.extracts.seen.keys c.extracts.count (map (λ e. string_bytes e.output) r) all) rest c.extracts.invariant.seen in
    let s = subst (λ n. IsSeen c.extracts.seen.keys c.extracts.count (n ∷ more) all) (sym named) here in
    let new : c.in_ok-insert.field-0 ≡ true = search rules in
    let one : length c.extracts.rest.now ≡ length c.in-Some.more.now + 1 = search rules in
    record {
      seen = seen_more c.extracts.seen.keys c.extracts.count c.as_str.result more all s c.insert.new.self.keys (was_not_there c.in_ok-insert.field-0 (has_key c.extracts.seen.keys c.as_str.result) c.in_ok-insert.ensures.added new) c.in_ok-insert.ensures.updates.0;
      all = omega (arith, c.extracts.invariant.all, one);
    }
