use Rattle.std.proofs.Common.{◌≡◌, ◌+◌, ◌-◌, ◌<◌, ◌≤◌, List, Bool, ℕ, length, Some, inl, inr, sym, refl, ap, ap₂, subst, ◌∙◌, rules, arith}
use Rattle.std.specs.Prelude.{filter}
use Rattle.std.specs.List.{slice_get}
use Rattle.std.proofs.lemmas.Option.{slice_get_read}
use Rattle.osm_polygon.specs.declared.edge.Axis.TheVariants.{Longitude}
use Rattle.osm_polygon.specs.declared.strips.Strip.{Strip}
use Rattle.osm_polygon.specs.Edges.{strip_number, is_in_strip}
use Rattle.osm_polygon.specs.Bands.{crosses_border, is_east, is_odd_of, is_told}
use Rattle.osm_polygon.proofs.StripLemmas.{strip_at, none_beyond}
use Rattle.osm_polygon.proofs.BandLemmas.{told, told_none, none_east, all_east, odd_at}
use Rattle.osm_polygon.proofs.bands.Band.has.Goals as goal

pub returns-then-number-self : goal.returns-then-number-self
returns-then-number-self c = λ edges is here even.
    let a = c.args.self.now in
    let asked = c.args.asked in
    let n = strip_number Longitude a.shift asked.place in
    let before : n < a.first = search rules in
    told_none asked here a.shift edges
    (none_beyond Longitude a.shift a.first (a.first + length a.cells.items) n edges is.within (inl before))
    (none_east (crosses_border asked.border) a.shift a.first (a.first + length a.cells.items) n edges is.within (omega (arith, before)))

pub returns-in_default : goal.returns-in_default
returns-in_default c = λ edges is here even.
    let a = c.args.self.now in
    let asked = c.args.asked in
    let n = strip_number Longitude a.shift asked.place in
    let i = c.strip_of-number.result - a.first in
    let past : length c.deref.result.now ≤ i = search (rules, c.in_default.ensures.lookup.0) in
    let beyond : a.first + length a.cells.items ≤ n
    = omega (arith, past, ap length c.deref.ensures.value, c.strip_of-number.ensures.value, c.if-number-self.false) in
    told_none asked here a.shift edges
    (none_beyond Longitude a.shift a.first (a.first + length a.cells.items) n edges is.within (inr beyond))
    (all_east (crosses_border asked.border) a.shift a.first (a.first + length a.cells.items) n edges is.within beyond ∙ even)

pub returns-in_default-get : goal.returns-in_default-get
returns-in_default-get c = λ edges is here even.
    let a = c.args.self.now in
    let i = c.strip_of-number.result - a.first in
    let below : i < length c.deref.result.now = c.in-Some.ensures.lookup.3.0 in
    let past : length c.deref-2.result.now ≤ i = search (rules, c.in_default-get.ensures.lookup.0) in
    absurd (omega (arith, below, past, ap length c.deref.ensures.value, ap length c.deref-2.ensures.value, is.equal))

pub returns : goal.returns
returns c = λ edges is here even.
    let a = c.args.self.now in
    let asked = c.args.asked in
    let n = strip_number Longitude a.shift asked.place in
    let i = c.strip_of-number.result - a.first in
    let cell = c.in-Some.cell.now in
    let odd = c.in-Some-get.is_odd.now in
    let item = c.in-Some.ensures.lookup.3 in
    let bit = c.in-Some-get.ensures.lookup.3 in
    let at : a.first + i ≡ n = omega (arith, c.strip_of-number.ensures.value, c.if-number-self.false) in
    let found : slice_get a.cells.items i ≡ Some cell
    = subst (λ (l : List Strip). slice_get l i ≡ Some cell) c.deref.ensures.value
    (slice_get_read c.deref.result.now (length c.deref.result.now) i cell refl item.0 (search (rules, item.1 cell))) in
    let found_odd : slice_get a.odds.items i ≡ Some odd
    = subst (λ (l : List Bool). slice_get l i ≡ Some odd) c.deref-2.ensures.value
    (slice_get_read c.deref-2.result.now (length c.deref-2.result.now) i odd refl bit.0 (search (rules, bit.1 odd))) in
    let near : c.as_slice.result.now ≡ filter (is_in_strip Longitude a.shift n) edges
    = c.as_slice.ensures.value ∙ strip_at Longitude a.shift a.first edges a.cells.items i cell is.cells found ∙ ap (λ (n : ℕ). filter (is_in_strip Longitude a.shift n) edges) at in
    let east : odd ≡ is_odd_of (is_east a.shift n (crosses_border asked.border)) edges
    = odd_at (crosses_border asked.border) a.shift a.first edges a.odds.items i odd is.odds found_odd
    ∙ ap (λ (n : ℕ). is_odd_of (is_east a.shift n (crosses_border asked.border)) edges) at in
    c.is_within.ensures ∙ ap₂ (is_told asked) east near ∙ sym (told asked here a.shift edges)
