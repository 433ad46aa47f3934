use Rattle.std.proofs.Common.{◌≡◌, ◌∙◌, ap, ℕ, subst, w64}
use Rattle.std.proofs.lemmas.Int.{to_z-of_z}
use Rattle.osm_ids.specs.Strips.{HasNumber, id_strip, listed_at, named_at}
use Rattle.osm_ids.proofs.strips.IdStrips.name.Goals as goal

pub returns-clause-named : goal.returns-clause-named
unfolding named_at
returns-clause-named c =
    let strips = c.list_at.new.strips.items in
    let at : c.strip_for_id-index.result ≡ id_strip c.args.self.now.runs c.args.id = c.strip_for_id-index.ensures ∙ ap (id_strip c.args.self.now.runs) (to_z-of_z w64 c.args.id c.ranges.id) in
    subst (λ (index : ℕ). HasNumber (listed_at strips index) c.args.number) at (c.in_ok-list_at.ensures.listed c.in_ok-grow.ensures.there)

pub returns-clause-still : goal.returns-clause-still
unfolding named_at
returns-clause-still c = λ id number there. c.in_ok-list_at.ensures.still (id_strip c.args.self.now.runs id) number (c.in_ok-grow.ensures.still (id_strip c.args.self.now.runs id) number there)
