-- What `extract` writes for a file: its header with the box, and of its entities those that a choice keeps.
use Rattle.std.specs.Prelude.{◌≡◌, ℕ, List, [], map, Bool, Option, Some, None}
use Rattle.std.specs.FinSet as set
use Rattle.std.specs.List.{fold}
use Rattle.std.specs.Option.{option_map}
use Rattle.osm_area.specs.Area.{AreaSpec}
use Rattle.osm_entity.specs.Entity.{EntitySpec, TagSpec}
use Rattle.osm_ids.specs.Links.{IsLeast}
use Rattle.osm_ways.specs.Selection.{Seen, Strategy, extract, none_whole}
use Rattle.osm_ways.specs.Added.{nothing_added}
use Rattle.osm_ways.specs.Phases.{Ids, WaySets, RelationSets, KeptSets, begun_members, relation_pass, without_parents, node_pass, start_ways, start_relations}
use Rattle.osm_ways.specs.Seen.{seen_entity}
use Rattle.osm_pack.specs.Cuts.{written_file}
use Rattle.pbf_header.specs.Header.{HeaderSpec}
use Rattle.pbf_header.specs.WrittenHeader.{header_out_for_box, edges_of, EdgesTyped}
use Rattle.pbf_frame.specs.Frames.{FrameSpec}
use Rattle.pbf_frame.specs.Verdict.{Verdict, Says}
use Rattle.pbf_pass.specs.Unjudged.{GathersFile}
use Rattle.pbf_pass.specs.HeaderLimit.{header_limit}
use Rattle.pbf_pass.specs.Counting.{stored_entities}
use Rattle.pbf_pass.specs.Judged.{judged_file}
use Rattle.pbf_pass.specs.HeaderLimit.{HasShortTexts}
use Rattle.pbf_pass.specs.Pass.{with_seen, with_way, with_relation, with_added_way, file_header}

-- the stored entities that an extract keeps
abbrev pub kept_entities : Strategy → AreaSpec → List EntitySpec → List EntitySpec
kept_entities by area es = extract by (seen_entity by.whole area) es

-- the header in written form, with the box, and the entities that are kept, cut into blocks
abbrev pub extraction : Strategy → AreaSpec → Option (ℕ × HeaderSpec) → List EntitySpec → List ℕ
extraction by area None es = []
extraction by area (Some header) es = written_file (header_out_for_box area.bounds header.1) (kept_entities by area es)

-- what is to be written for a file with this verdict: nothing if it has a fault
abbrev pub extract_bytes : Strategy → AreaSpec → Verdict → List ℕ
extract_bytes by area (frames, None) = extraction by area (file_header frames) (stored_entities frames)
extract_bytes by area (frames, Some e) = []

-- ---- the passes that choose

-- what the first pass reports of a file: it has no fault and a header that can be written, its entities were taken by what is seen of them, and
-- the header is its with the area's box
pub record Begins {S : Type 0} (whole : List TagSpec → Bool) (area : AreaSpec) (step : S → Seen → S) (file : List ℕ) (before now : S) (h : HeaderSpec) : Type 0 where
  pub frames : List FrameSpec
  pub judged : Says (judged_file (Some file)) (frames, None)
  pub within : header_limit (file_header frames) ≡ None
  pub header : option_map (λ p. header_out_for_box area.bounds p.1) (file_header frames) ≡ Some h
  pub typed : EdgesTyped (edges_of area.bounds)
  pub short : HasShortTexts h
  pub taken : now ≡ fold (with_seen whole area step) before (stored_entities frames)

-- the first file has no fault, and the header is its with the box; the sets are those of its nodes and of the other's ways, if that has no
-- fault
pub record Chooses (area : AreaSpec) (first second : Option Verdict) (sets : WaySets) (h : HeaderSpec) : Type 0 where
  pub frames : List FrameSpec
  pub judged : Says first (frames, None)
  pub within : header_limit (file_header frames) ≡ None
  pub header : option_map (λ p. header_out_for_box area.bounds p.1) (file_header frames) ≡ Some h
  pub typed : EdgesTyped (edges_of area.bounds)
  pub chosen : GathersFile with_way second (start_ways (node_pass (map (seen_entity none_whole area) (stored_entities frames)))) sets

-- and the relations of a third file, with all parents
pub record ChoosesParents (area : AreaSpec) (first second third : Option Verdict) (sets : KeptSets) (h : HeaderSpec) : Type 0 where
  pub ways : WaySets
  pub chosen : Chooses area first second ways h
  pub relations : RelationSets
  pub gathered : GathersFile with_relation third (start_relations ways) relations
  pub kept : sets.ways ≡ relations.ways
  pub least : IsLeast (set.contains relations.links) relations.start sets.relation_ids
  pub added : sets.added ≡ nothing_added

-- the first file has no fault, and the header is its with the box; its relations gave what is added for those that are wanted whole, and the other's
-- ways, if that has no fault, the refs of those among them
pub record ChoosesMembers (whole : List TagSpec → Bool) (area : AreaSpec) (first second : Option Verdict) (sets : KeptSets) (h : HeaderSpec) : Type 0 where
  pub frames : List FrameSpec
  pub judged : Says first (frames, None)
  pub within : header_limit (file_header frames) ≡ None
  pub header : option_map (λ p. header_out_for_box area.bounds p.1) (file_header frames) ≡ Some h
  pub typed : EdgesTyped (edges_of area.bounds)
  pub relations : RelationSets
  pub gave : relations ≡ relation_pass (map (seen_entity whole area) (stored_entities frames))
  pub relation_ids : Ids
  pub least : IsLeast (set.contains relations.links) relations.start relation_ids
  pub gathered : GathersFile with_added_way second (begun_members relations relation_ids) sets

-- what the passes before the one that writes report of files: what was chosen, and the header that is written
pub record IsChoice (area : AreaSpec) (first second : List ℕ) (sets : KeptSets) (h : HeaderSpec) : Type 0 where
  pub ways : WaySets
  pub chosen : Chooses area (judged_file (Some first)) (judged_file (Some second)) ways h
  pub kept : sets ≡ without_parents ways
  pub short : HasShortTexts h

pub record IsChoiceWithParents (area : AreaSpec) (first second third : List ℕ) (sets : KeptSets) (h : HeaderSpec) : Type 0 where
  pub chosen : ChoosesParents area (judged_file (Some first)) (judged_file (Some second)) (judged_file (Some third)) sets h
  pub short : HasShortTexts h

pub record IsChoiceWithMembers (whole : List TagSpec → Bool) (area : AreaSpec) (first second : List ℕ) (sets : KeptSets) (h : HeaderSpec) : Type 0 where
  pub chosen : ChoosesMembers whole area (judged_file (Some first)) (judged_file (Some second)) sets h
  pub short : HasShortTexts h
