use Rattle.std.proofs.Common.{◌≡◌, ◌∙◌, Some, None, [], ap, length, refl, rules, w64}
use Rattle.std.specs.List.{slice_get}
use Rattle.std.proofs.lemmas.Int.{to_z-of_z}
use Rattle.std.proofs.lemmas.Option.{slice_get_past, slice_get_read}
use Rattle.osm_ids.specs.Strips.{id_strip, named_at}
use Rattle.osm_ids.proofs.StripLemmas.{marks_nobody, marks_some, named_in, no_numbers, none_named}
use Rattle.osm_ids.proofs.strips.IdStrips.mark.Goals as goal
use Rattle.osm_ids.proofs.strips.IdStrips.mark.Goals.{In_default, Then-is_empty}

-- no strip is there
past : (c : In_default) → named_at c.args.self.now c.args.id ≡ []
past c =
    let at : c.strip_for_id.result ≡ id_strip c.args.self.now.runs c.args.id = c.strip_for_id.ensures ∙ ap (id_strip c.args.self.now.runs) (to_z-of_z w64 c.args.id c.ranges.id) in
    let none : slice_get c.deref.result.now c.strip_for_id.result ≡ None = slice_get_past c.deref.result.now c.strip_for_id.result (search rules) in
    none_named c.args.self.now c.args.id (search (rules, none, at))

-- one is there without a number
empty : (c : Then-is_empty) → named_at c.args.self.now c.args.id ≡ []
empty c =
    let at : c.strip_for_id.result ≡ id_strip c.args.self.now.runs c.args.id = c.strip_for_id.ensures ∙ ap (id_strip c.args.self.now.runs) (to_z-of_z w64 c.args.id c.ranges.id) in
    let strip = c.in-Some.strip.now in
    let some : slice_get c.deref.result.now c.strip_for_id.result ≡ Some strip = slice_get_read c.deref.result.now (length c.deref.result.now) c.strip_for_id.result strip refl (search rules) (search rules) in
    named_in c.args.self.now c.args.id strip (search (rules, some, at)) ∙ no_numbers strip.items (search rules)

pub returns-in_default : goal.returns-in_default
returns-in_default c = marks_nobody c.args.self.now c.args.id c.args.marks.now (past c)

pub returns-then-is_empty : goal.returns-then-is_empty
returns-then-is_empty c = marks_nobody c.args.self.now c.args.id c.args.marks.now (empty c)

pub returns : goal.returns
returns c =
    let at : c.strip_for_id.result ≡ id_strip c.args.self.now.runs c.args.id = c.strip_for_id.ensures ∙ ap (id_strip c.args.self.now.runs) (to_z-of_z w64 c.args.id c.ranges.id) in
    let strip = c.in-Some.strip.now in
    let some : slice_get c.deref.result.now c.strip_for_id.result ≡ Some strip = slice_get_read c.deref.result.now (length c.deref.result.now) c.strip_for_id.result strip refl (search rules) (search rules) in
    marks_some c.args.self.now c.args.id strip.items c.args.marks.now c.set_marks.new.marks (named_in c.args.self.now c.args.id strip (search (rules, some, at))) (search rules)
