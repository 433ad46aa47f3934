use Rattle.std.proofs.Common.{◌≡◌, [], ◌∷◌, ap, inl, inr, refl, rules}
use Rattle.std.proofs.lemmas.Bool.{not-false}
use Rattle.osm_text.specs.Digests.{digest_line}
use Rattle.pbfcut_program.specs.Events.{told}
use Rattle.pbfcut_program.proofs.printing.tell_refusal.Goals as goal

pub returns-in-Ok : goal.returns-in-Ok
returns-in-Ok g c =
    let e = c.in-Ok.ensures in
    let digest = c.in-Some.refusal.input in
    let same : c.deref.result.now ≡ digest_line digest e.0 = search rules in
    record { events = told c.deref.result.now ∷ []; log = c.tell.ensures; tells = inr (digest, e.0, not-false c.args.engine.digests c.if-not-engine.false, ap (λ t. told t ∷ []) same); shows = inl refl }
