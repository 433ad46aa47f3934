use Rattle.std.proofs.Common.{◌≡◌, ℤ, ◌∷◌, [], ◌++◌, ap, subst, ◌∙◌, rules, w64}
use mir.Val.{SFits}
use Rattle.std.proofs.lemmas.Int.{to_z-of_z}
use Rattle.pbf_strings.specs.TableOut.{with_text, index_in}
use Rattle.pbf_dense.specs.Info.{user_text}
use Rattle.pbf_dense.proofs.TextLemmas.{index_added}
use Rattle.pbf_dense.proofs.take_users.UserIndexes.take_next.Goals as goal

pub returns-clause-added : goal.returns-clause-added
returns-clause-added g c =
    let user = c.in-Some.user in
    let user_fits : SFits w64 user = search rules in
    let index_fits : SFits w64 c.from.result = search rules in
    let old = c.args.table.now in
    let new = c.index_of.new.table in
    let index = c.in_ok-index.index in
    let same = to_z-of_z w64 user user_fits in
    let texts = subst (λ (z : ℤ). new ≡ with_text old (user_text c.args.self.now.texts.now z)) same c.in_ok-index.ensures.given.texts in
    let indexed = subst (λ (z : ℤ). index ≡ index_in new (user_text c.args.self.now.texts.now z)) same c.in_ok-index.ensures.given.index in
    let pushed = c.in_ok-push.ensures.ok ∙ ap (λ (z : ℤ). c.args.column.now ++ z ∷ []) (to_z-of_z w64 c.from.result index_fits ∙ c.from.ensures) in
    λ used. index_added c.args.self.now.texts.now old new used _ user index c.args.column.now c.push.new.self c.in-Some.ensures.first texts indexed pushed
