use Rattle.std.proofs.Common.{◌≡◌, ◌∷◌, ◌++◌, map, take}
use Rattle.std.specs.List.{flat_map}
use Rattle.pbf_header.specs.Header.{text_of}
use Rattle.osm_text.specs.Quoted.{json_string}
use Rattle.osm_text.proofs.header_json.put_more.Given as goal

-- the texts that are gone were put
abbrev pub invariant-loop-text : goal.invariant-loop-text
invariant-loop-text l = l.out.items ≡ l.fn.out.items ++ flat_map (λ next. 44 ∷ json_string next) (map text_of (take l.text-index l.texts))
