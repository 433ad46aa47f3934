use Rattle.std.proofs.Common.{◌≡◌, ◌∷◌, rules}
use Rattle.std.proofs.lemmas.Result.{on_ok_weaker}
use Rattle.pbf_pass.proofs.EachAreaLemmas.{asked_all, asked_few, asked_from, asked_more, asked_ready, asked_there, asked_within, empty_is, nobody}
use Rattle.pbf_pass.proofs.each_area.+take_asked.Goals as goal

pub returns-in_default : goal.returns-in_default
returns-in_default g t c = nobody g.A.Area.area g.P.NodeTaker.step c.args.place c.args.first c.args.members.now c.args.numbers.now (empty_is c.args.numbers.now c.in_default.ensures.cases) c.requires.ready c.requires.asked

pub overflow_sub-number : goal.overflow_sub-number
overflow_sub-number g t c = asked_from g.A.Area.area g.P.NodeTaker.step c.args.place c.args.first c.args.members.now c.in-Some.number.now c.in-Some.later.now c.args.numbers.now (search rules) c.requires.ready c.requires.asked

pub split_at_mut-from-requires : goal.split_at_mut-from-requires
split_at_mut-from-requires g t c = asked_within g.A.Area.area g.P.NodeTaker.step c.args.place c.args.first c.args.members.now c.in-Some.number.now c.in-Some.later.now c.args.numbers.now (search rules) c.requires.ready c.requires.asked

pub returns-in_default-split_first_mut : goal.returns-in_default-split_first_mut
returns-in_default-split_first_mut g t c = absurd (asked_there g.A.Area.area g.P.NodeTaker.step c.args.place c.args.first c.args.members.now c.in-Some.number.now c.in-Some.later.now c.args.numbers.now (search rules) c.requires.ready c.requires.asked
    c.split_at_mut-from.result.1.now c.split_at_mut-from.ensures.back (empty_is c.split_at_mut-from.result.1.now c.in_default-split_first_mut.ensures.cases))

pub take_asked-requires : goal.take_asked-requires
take_asked-requires g t c κs within =
    let is : c.args.numbers.now ≡ c.in-Some.number.now ∷ c.in-Some.later.now = search rules in
    let back = c.split_at_mut-from.result.1.now in
    let there = c.split_at_mut-from.ensures.back in
    let m = c.in-Some-split_first_mut.member.now in
    let after = c.in-Some-split_first_mut.after.now in
    let found : back ≡ m ∷ after = search rules in
    let few = asked_few g.A.Area.area g.P.NodeTaker.step c.args.place c.args.first c.args.members.now c.in-Some.number.now c.in-Some.later.now c.args.numbers.now is c.requires.ready c.requires.asked back there m after found c.requires.few in
    let ready = asked_ready g.A.Area.area g.P.NodeTaker.step c.args.place c.args.first c.args.members.now c.in-Some.number.now c.in-Some.later.now c.args.numbers.now is c.requires.ready c.requires.asked back there m after found in
    let more = asked_more g.A.Area.area g.P.NodeTaker.step c.args.place c.args.first c.args.members.now c.in-Some.number.now c.in-Some.later.now c.args.numbers.now is c.requires.ready c.requires.asked back there m after found in
    search (rules, few, ready, more)

pub returns : goal.returns
returns g t c =
    let is : c.args.numbers.now ≡ c.in-Some.number.now ∷ c.in-Some.later.now = search rules in
    let back = c.split_at_mut-from.result.1.now in
    let there = c.split_at_mut-from.ensures.back in
    let m = c.in-Some-split_first_mut.member.now in
    let after = c.in-Some-split_first_mut.after.now in
    let found : back ≡ m ∷ after = search rules in
    let all = asked_all g.A.Area.area g.P.NodeTaker.step c.args.place c.args.first c.args.members.now c.in-Some.number.now c.in-Some.later.now c.args.numbers.now is c.requires.ready c.requires.asked back there m after found
    c.split_at_mut-from.result.0.now c.take_place.new.self c.take_asked.new.members c.split_at_mut-from.ensures.front (search rules) in
    on_ok_weaker c.take_asked.result all c.take_asked.ensures
