use Rattle.std.proofs.Common.{◌≡◌, ◌∙◌, ◌≤◌, rules, length, true}
use Rattle.std.specs.List.{list_all}
use Rattle.std.specs.Char.{is_ascii_digit}
use Rattle.osm_box.proofs.Numbers.{digits_below, digits_read}
use Rattle.osm_box.proofs.number.digits.Goals as goal

pub returns-clause-value : goal.returns-clause-value
returns-clause-value c =
    let some : 1 ≤ length c.args.text.now = search rules in
    let few : length c.args.text.now ≤ c.args.most = search rules in
    let all : list_all is_ascii_digit c.args.text.now ≡ true = search rules in
    c.ok.ensures.value ∙ digits_read c.args.most c.args.text.now c.parse.result c.requires some few all c.parse.ensures.value.0

pub returns-clause-below : goal.returns-clause-below
returns-clause-below c = rw (returns-clause-value c) (digits_below c.args.most c.args.text.now)
