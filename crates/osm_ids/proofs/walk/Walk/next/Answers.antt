use Rattle.std.proofs.Common.{◌≡◌, ◌<◌, ◌*◌, ◌/◌, List, ℤ, length, take, drop, arith}
use Rattle.std.proofs.lemmas.Int.{to_z-of_z}
use Rattle.std.proofs.lemmas.List.{drop_all}
use Rattle.osm_ids.specs.declared.walk.Walk.TheInside.{Inside}
use Rattle.osm_ids.specs.Pages.{rising}
use Rattle.osm_ids.specs.Windows.{held}
use Rattle.osm_ids.proofs.Walking.{len_is, walked}
use Rattle.osm_ids.proofs.walk.Walk.next.Goals as goal
use Rattle.osm_ids.proofs.walk.Walk.next.Goals.{Joined-self-eq0}

pub returns-then-self-count : goal.returns-then-self-count
returns-then-self-count c = grind (arith, drop_all c.self.inside.came (rising c.self.inside.ids.now) (omega (arith, len_is c.self.inside.ids.now, c.count.ensures, c.if-self-count.true)), len_is c.self.inside.ids.now, c.count.ensures, c.if-self-count.true)

pub read-requires : goal.read-requires
read-requires c = omega (arith, len_is c.self.inside.ids.now, c.count.ensures, c.if-self-count.false)

-- the page of the next id
record IsReady (all : List ℤ) (v : Inside) : Type 0 where
  same : all ≡ drop v.came (rising v.ids.now)
  more : v.came < length (rising v.ids.now)
  here : held v.here ≡ take 128 (drop (128 * (v.came / 128)) (rising v.ids.now))

ready : (c : Joined-self-eq0) → IsReady c.args.self.now c.if-self-eq0.self-inside
ready c = grind (arith, len_is c.self.inside.ids.now, c.count.ensures, c.if-self-count.false)

pub returns : goal.returns
returns c = grind (arith, ready, walked, to_z-of_z)
