use Rattle.std.proofs.Common.{◌≡◌, ◌≤◌, length, take}
use Rattle.osm_ways.specs.ChoiceStrips.{NamesChoice}
use Rattle.pbfcut.specs.Wanted.{AllFrom}
use Rattle.pbfcut.proofs.wanted.name_choices.Given as goal

-- the choices up to this one are named
abbrev pub invariant-choices : goal.invariant-choices
invariant-choices l = record {
  named : AllFrom (λ number choice. NamesChoice l.strips number choice.chosen) 0 (take l.number l.choices);
  ends : l.number ≤ l.number-end;
  all : l.number-end ≡ length l.choices;
}
