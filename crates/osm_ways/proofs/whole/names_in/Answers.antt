use Rattle.std.proofs.Common.{◌≡◌, [], ◌∷◌, ◌++◌, Some, None, rules}
use Rattle.osm_box.specs.Degrees.{cut_of}
use Rattle.osm_ways.specs.Whole.{name_of}
use Rattle.osm_ways.proofs.WholeLemmas.{last_name, name_taken}
use Rattle.osm_ways.proofs.whole.names_in.Goals as goal

pub names-preserved : goal.names-preserved
names-preserved c =
    let cut : cut_of 44 c.names.rest.now ≡ Some (c.in-Some.name.now, c.in-Some.more.now) = search rules in
    let is : name_of c.in_ok-name_from.field-0 ≡ c.in-Some.name.now = search rules in
    let pushed : c.push.new.self.items ≡ c.names.names.items ++ c.in_ok-name_from.field-0 ∷ [] = search rules in
    record {
      are = rw pushed (name_taken c.names.names.items c.in_ok-name_from.field-0 c.names.rest.now c.in-Some.name.now c.in-Some.more.now _ is cut c.names.invariant.are);
      is_text = search rules;
    }

pub returns : goal.returns
returns c =
    let cut : cut_of 44 c.names.rest.now ≡ None = search rules in
    let is : name_of c.in_ok-name_from-2.field-0 ≡ c.names.rest.now = search rules in
    let pushed : c.push-2.new.self.items ≡ c.names.names.items ++ c.in_ok-name_from-2.field-0 ∷ [] = search rules in
    rw pushed (last_name c.names.names.items c.in_ok-name_from-2.field-0 c.names.rest.now _ is cut c.names.invariant.are)
