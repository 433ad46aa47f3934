-- A file's extract, from what its passes say.
use Rattle.std.proofs.Common.{arith, ◌≡◌, ℕ, ℤ, ◌<◌, ◌^◌, rules, List, [], ◌∷◌, map, Bool, true, false, Option, Some, None, subst, refl, sym, ap, ◌∙◌}
use Rattle.std.specs.FinSet as set
use Rattle.std.specs.List.{fold, filter}
use Rattle.std.specs.Option.{option_map}
use Rattle.std.proofs.lemmas.List.Elements.{filter_agree}
use Rattle.osm_area.specs.Area.{AreaSpec}
use Rattle.osm_box.specs.declared.bounding_box.BoundingBox.{BoundingBox}
use Rattle.osm_entity.specs.Ranges.{IsInt64}
use Rattle.std.specs.Int.Signed.{mag}
use Rattle.osm_entity.specs.Entity.{EntitySpec, TagSpec, node, way, relation}
use Rattle.osm_ids.specs.Links.{IsLeast}
use Rattle.osm_ways.specs.Added.{nothing_added}
use Rattle.osm_ways.specs.Phases.{Found, Ids, begun_members, member_pass, member_step, TakesAll, TakesFirst, WaySets, RelationSets, KeptSets, nothing_found, relations_from, way_step, relation_step, start_ways, start_relations, node_pass, without_parents, way_pass, relation_pass, is_chosen, is_taken}
use Rattle.osm_ways.specs.Seen.{seen_entity}
use Rattle.osm_ways.specs.Selection.{Seen, Strategy, all_parents, complete_ways, keeps, none_whole, smart}
use Rattle.osm_ways.specs.Whole.{is_wanted}
use Rattle.osm_ways.proofs.MemberLemmas.{chosen_with_members, members_keep_ways, none_to_add}
use Rattle.osm_ways.proofs.Passes.{chosen_is_kept, chosen_with_parents, ways_stay}
use Rattle.osm_ways.proofs.Taken.{taken_are_chosen}
use Rattle.osm_pack.specs.Cuts.{written_file}
use Rattle.pbf_header.specs.Header.{HeaderSpec}
use Rattle.pbf_header.specs.WrittenHeader.{header_out_for_box, edges_of, EdgesTyped}
use Rattle.pbf_frame.specs.Devices.{IsFront}
use Rattle.pbf_frame.specs.Frames.{FrameSpec}
use Rattle.pbf_frame.specs.Verdict.{Verdict, Says}
use Rattle.pbf_frame.proofs.Parting.{none_some}
use Rattle.pbf_block.specs.declared.counts.Counts.{Counts}
use Rattle.osm_ways.specs.declared.in_area.InArea.{InArea}
use Rattle.pbf_pass.specs.declared.pass.Pass.{Pass}
use Rattle.pbf_pass.specs.declared.pass.Judged.{Judged}
use Rattle.pbf_pass.specs.Refused.{halted}
use Rattle.pbf_frame.specs.declared.stop.Stop.TheVariants.{Refused}
use Rattle.pbf_wire.specs.declared.fault.Reason.TheVariants.{Unsorted}
use Rattle.pbf_wire.specs.Faults.{fault}
use Rattle.pbfcut.specs.Choosing.{RefusesOrder}
use Rattle.pbf_pass.specs.HeaderLimit.{HasShortTexts, header_limit, judged_writable, held_header}
use Rattle.pbf_pass.specs.Counting.{stored_entities}
use Rattle.pbfcut.specs.Calls.{FeedUse, GaveOrNot}
use Rattle.pbfcut.specs.Theorem.{IsExtraction}
use Rattle.pbfcut.specs.Extracting.{extraction, kept_entities, extract_bytes, Begins, Chooses, ChoosesParents, IsChoice, IsChoiceWithMembers, IsChoiceWithParents, ChoosesMembers}
use Rattle.pbfcut.specs.Kept.{verdict_on, extract_of, IsWritable}
use Rattle.pbf_pass.proofs.GivenLemmas.{gave_file_less}
use Rattle.pbfcut.proofs.KeptLaw.{same_verdict, extract_kept}
use Rattle.pbf_pass.specs.Pass.{with_seen, with_seen_in, with_way, with_relation, with_added_way, TakesFile, file_header}
use Rattle.pbfcut.specs.Repeat.{GathersRest}
use Rattle.pbf_pass.specs.Unjudged.{GathersFile}
use Rattle.pbf_pass.specs.Judged.{judged_file}
use Rattle.pbfcut.specs.Pick.{Pick, taken_by}
use Rattle.pbfcut.specs.Write.{Packed, PacksFront}
use Rattle.pbfcut.proofs.ConvertingLemmas.{known_says}
use Rattle.pbf_pass.proofs.LimitLemmas.{held_is, judged_sound}
use Rattle.pbf_pass.specs.Hashing.{IsLength, Mark}

-- ---- what was chosen

-- beside its area a phase takes what it takes by itself
beside : {A S : Type 0} (area : A → AreaSpec) (step : S → Seen → S) (of : InArea A S) (es : List EntitySpec) → (fold (with_seen_in area step) of es).phase ≡ fold (with_seen (is_wanted of.types) (area of.area) step) of.phase es
beside area step of [] = refl
beside area step of (e ∷ es) = beside area step (with_seen_in area step of e) es

pub seen_folded : {S : Type 0} (whole : List TagSpec → Bool) (area : AreaSpec) (step : S → Seen → S) (sets : S) (es : List EntitySpec) → fold (with_seen whole area step) sets es ≡ fold step sets (map (seen_entity whole area) es)
seen_folded whole area step sets [] = refl
seen_folded whole area step sets (node n ∷ es) = seen_folded whole area step (with_seen whole area step sets (node n)) es
seen_folded whole area step sets (way w ∷ es) = seen_folded whole area step (with_seen whole area step sets (way w)) es
seen_folded whole area step sets (relation r ∷ es) = seen_folded whole area step (with_seen whole area step sets (relation r)) es

ways_folded : (area : AreaSpec) (sets : WaySets) (es : List EntitySpec) → fold with_way sets es ≡ fold way_step sets (map (seen_entity none_whole area) es)
ways_folded area sets [] = refl
ways_folded area sets (node n ∷ es) = ways_folded area sets es
ways_folded area sets (way w ∷ es) = ways_folded area (with_way sets (way w)) es
ways_folded area sets (relation r ∷ es) = ways_folded area sets es

-- over one list the two passes gather what the passes of the selection do
pub sets_are : (area : AreaSpec) (es : List EntitySpec) → fold with_way (start_ways (node_pass (map (seen_entity none_whole area) es))) es ≡ way_pass (map (seen_entity none_whole area) es)
sets_are area es = ways_folded area (start_ways (node_pass (map (seen_entity none_whole area) es))) es

taken_is : (whole : List TagSpec → Bool) (area : AreaSpec) (sets : KeptSets) (e : EntitySpec) → taken_by sets e ≡ is_taken sets (seen_entity whole area e)
taken_is whole area sets e = grind arith

-- sets that were gathered from a whole list, and keep what it does
taken_as : (by : Strategy) (area : AreaSpec) (es : List EntitySpec) (sets : KeptSets) → sets.ways ≡ way_pass (map (seen_entity by.whole area) es) → is_chosen sets ≡ keeps by (map (seen_entity by.whole area) es)
    → filter (taken_by sets) es ≡ kept_entities by area es
taken_as by area es sets ways all =
    filter_agree (taken_by sets) (λ e. is_taken sets (seen_entity by.whole area e)) (taken_is by.whole area sets) es
    ∙ taken_are_chosen (seen_entity by.whole area) sets es ways
    ∙ ap (λ (k : Seen → Bool). filter (λ e. k (seen_entity by.whole area e)) es) all

-- what the sets keep is the complete-ways extract
pub taken_are : (area : AreaSpec) (es : List EntitySpec) → filter (taken_by (without_parents (way_pass (map (seen_entity none_whole area) es)))) es ≡ kept_entities complete_ways area es
taken_are area es = taken_as complete_ways area es (without_parents (way_pass (map (seen_entity none_whole area) es))) refl (chosen_is_kept (map (seen_entity none_whole area) es))

-- ---- the bytes that are to be written

-- the header of a file that has one
header_from : (area : AreaSpec) (o : Option (ℕ × HeaderSpec)) (h : HeaderSpec) → option_map (λ p. header_out_for_box area.bounds p.1) o ≡ Some h → (by : Strategy) (es : List EntitySpec) → extraction by area o es ≡ written_file h (kept_entities by area es)
header_from area o h h3 by es = grind (arith, none_some)

-- a selection that keeps what the strategy does of the frames that the passes read
pub record Selects (b : List ℕ) (by : Strategy) (area : AreaSpec) (pick : Pick) (h : HeaderSpec) : Type 0 where
  pub frames : List FrameSpec
  pub judged : judged_file (Some b) ≡ Some (frames, None)
  pub writable : judged_writable (Some b) ≡ Some (frames, None)
  pub bytes : extract_bytes by area (frames, None) ≡ written_file h (kept_entities by area (stored_entities frames))
  pub picked : filter pick (stored_entities frames) ≡ kept_entities by area (stored_entities frames)
  pub typed : EdgesTyped (edges_of area.bounds)

-- of what was chosen in two passes of the same file
module _ (area : AreaSpec) (b : List ℕ) (first second : Option Verdict) (sets : WaySets) (h : HeaderSpec) (is : first ≡ judged_file (Some b)) (too : second ≡ judged_file (Some b)) (c : Chooses area first second sets h) where
  its_frames : judged_file (Some b) ≡ Some (c.frames, None)
  its_frames = known_says b (c.frames, None) (subst (λ (k : Option Verdict). Says k (c.frames, None)) is c.judged)

  its_ways : sets ≡ way_pass (map (seen_entity none_whole area) (stored_entities c.frames))
  its_ways = c.chosen c.frames (too ∙ its_frames) ∙ sets_are area (stored_entities c.frames)

  selects : (by : Strategy) (pick : Pick) → filter pick (stored_entities c.frames) ≡ kept_entities by area (stored_entities c.frames) → Selects b by area pick h
  selects by pick picked = record {
    frames = c.frames;
    judged = its_frames;
    writable = judged_sound b c.frames its_frames c.within;
    bytes = header_from area (file_header c.frames) h c.header by (stored_entities c.frames);
    picked = picked;
    typed = c.typed;
  }

  -- the passes for nodes and for ways choose the complete-ways extract
  pub selects_ways : Selects b complete_ways area (taken_by (without_parents sets)) h
  selects_ways = selects complete_ways (taken_by (without_parents sets)) (ap (λ (s : WaySets). filter (taken_by (without_parents s)) (stored_entities c.frames)) its_ways ∙ taken_are area (stored_entities c.frames))

-- ---- the box

int64 : (z : ℤ) → mag z < 2 ^ 63 → IsInt64 z
int64 z small = search rules

-- the edges of a box of the code
pub edges_typed : (area : BoundingBox) → mag area.left < 2 ^ 63 → mag area.bottom < 2 ^ 63 → mag area.right < 2 ^ 63 → mag area.top < 2 ^ 63 → EdgesTyped (edges_of area)
edges_typed area left bottom right top = record { left = int64 area.left left; right = int64 area.right right; top = int64 area.top top; bottom = int64 area.bottom bottom }

-- ---- a whole call

module _ (by : Strategy) (area : AreaSpec) (b : List ℕ) (pick : Pick) (h : HeaderSpec) (s : Selects b by area pick h) where
  verdict : verdict_on b ≡ (s.frames, None)
  verdict = same_verdict b s.frames s.writable

  answer : written_file h (filter pick (stored_entities s.frames)) ≡ extract_of by area b
  answer = ap (λ (l : List EntitySpec). written_file h l) s.picked ∙ (sym s.bytes ∙ ap (λ (v : Verdict). extract_bytes by area v) (sym verdict))

  pub extracted : (counts : Counts) (known : Option Verdict) (written : List ℕ) → known ≡ judged_file (Some b) → Packed pick h counts known written → IsExtraction by area b counts written
  extracted counts known written is went = grind (arith, went s.frames (is ∙ s.judged), answer, extract_kept by area s.typed b (ap (λ (v : Verdict). v.1) verdict))

  pub extracts_front : (known : Option Verdict) (old new : Option (List ℕ)) → known ≡ judged_file (Some b) → PacksFront pick h known old new → IsFront old new (extract_of by area b)
  extracts_front known old new is front = subst (λ (l : List ℕ). IsFront old new l) answer (front s.frames (is ∙ s.judged))

-- ---- the passes that choose

-- what the first pass reports, from what it took
pub begins : {A S : Type 0} (area : A → AreaSpec) (step : S → Seen → S) (b : List ℕ) (pass : Pass) (header h : HeaderSpec) (before now : InArea A S) → TakesFile (with_seen_in area step) (judged_file (Some b)) before now pass → held_header pass ≡ Some (pass.header_at, header)
    → header_limit (held_header pass) ≡ None → h ≡ header_out_for_box (area before.area).bounds header → HasShortTexts h → EdgesTyped (edges_of (area before.area).bounds) → Begins (is_wanted before.types) (area before.area) step b before.phase now.phase h
begins {A} {S} area step b pass header h before now p held within is short typed =
    let told = held_is (file_header p.frames) pass p.header in
    record {
      frames = p.frames;
      judged = p.says;
      within = ap header_limit (sym told) ∙ within;
      header = ap (λ (o : Option (ℕ × HeaderSpec)). option_map (λ p. header_out_for_box (area before.area).bounds p.1) o) (sym told ∙ held) ∙ ap (λ (g : HeaderSpec). Some g) (sym is);
      typed = typed;
      short = short;
      taken = ap (λ (of : InArea A S). of.phase) p.gathered_all ∙ beside area step before (stored_entities p.frames);
    }

-- what refuses the file for its order
pub refuses_order : {S : Type 0} (gathered : S → EntitySpec → S) (before now : S) (b : List ℕ) (told : Judged) (header : HeaderSpec) → TakesFile gathered (judged_file (Some b)) before now told.pass → IsLength told.count b → held_header told.pass ≡ Some (told.pass.header_at, header)
    → RefusesOrder told.digest (halted (Refused (fault told.pass.header_at Unsorted)) told.count told.digest) b
refuses_order gathered before now b told header p counted held = record {
  frames = p.frames;
  judged = known_says b (p.frames, None) p.says;
  header = (told.pass.header_at, header);
  has = sym (held_is (file_header p.frames) told.pass p.header) ∙ held;
  read = told.count;
  counted = counted;
  is = refl;
}

-- the first file can be written
pub chosen_sound : (area : AreaSpec) (b : List ℕ) (second : Option Verdict) (sets : WaySets) (h : HeaderSpec) → Chooses area (judged_file (Some b)) second sets h → IsWritable b
chosen_sound area b second sets h c = ap (λ (v : Verdict). v.1) (same_verdict b c.frames (judged_sound b c.frames (known_says b (c.frames, None) c.judged) c.within))

-- a selection by what was chosen
pub selects_chosen : (sets : KeptSets) (area : AreaSpec) (b first second : List ℕ) (h : HeaderSpec) → first ≡ b → second ≡ b → IsChoice area first second sets h → Selects b complete_ways area (taken_by sets) h
selects_chosen sets area b first second h is too c =
    let judged = λ (l : List ℕ). judged_file (Some l) in
    subst (λ (s : KeptSets). Selects b complete_ways area (taken_by s) h) (sym c.kept) (selects_ways area b _ _ c.ways h (ap judged is) (ap judged too) c.chosen)

-- ---- with all parents

relations_folded : (area : AreaSpec) (sets : RelationSets) (es : List EntitySpec) → fold with_relation sets es ≡ fold relation_step sets (map (seen_entity none_whole area) es)
relations_folded area sets [] = refl
relations_folded area sets (node n ∷ es) = relations_folded area sets es
relations_folded area sets (way w ∷ es) = relations_folded area sets es
relations_folded area sets (relation r ∷ es) = relations_folded area (with_relation sets (relation r)) es

-- what the sets keep is the extract with all parents
parents_are : (area : AreaSpec) (es : List EntitySpec) (sets : KeptSets) → sets.ways ≡ (relation_pass (map (seen_entity none_whole area) es)).ways → sets.added ≡ nothing_added
    → IsLeast (set.contains (relation_pass (map (seen_entity none_whole area) es)).links) (relation_pass (map (seen_entity none_whole area) es)).start sets.relation_ids → filter (taken_by sets) es ≡ kept_entities all_parents area es
parents_are area es sets ways none least =
    let seen = map (seen_entity none_whole area) es in
    taken_as all_parents area es sets (ways ∙ ways_stay seen) ((λ i. is_chosen (record { ways = ways i; relation_ids = sets.relation_ids; added = none i })) ∙ chosen_with_parents seen sets.relation_ids least)

pub selects_parents : (sets : KeptSets) (area : AreaSpec) (b : List ℕ) (first second third : Option Verdict) (h : HeaderSpec) → first ≡ judged_file (Some b) → second ≡ judged_file (Some b) → third ≡ judged_file (Some b)
    → ChoosesParents area first second third sets h → Selects b all_parents area (taken_by sets) h
selects_parents sets area b first second third h is too more p =
    let c = p.chosen in
    let es = stored_entities c.frames in
    let relations : p.relations ≡ relation_pass (map (seen_entity none_whole area) es) =
    p.gathered c.frames (more ∙ its_frames area b first second _ h is too c) ∙ (ap (λ (w : WaySets). fold with_relation (start_relations w) es) (its_ways area b first second _ h is too c) ∙ relations_folded area (start_relations (way_pass (map (seen_entity none_whole area) es))) es) in
    selects area b first second _ h is too c all_parents (taken_by sets)
    (parents_are area es sets (p.kept ∙ ap (λ (r : RelationSets). r.ways) relations) p.added (subst (λ (r : RelationSets). IsLeast (set.contains r.links) r.start sets.relation_ids) relations p.least))

-- ---- if passes may be left out

-- the nodes of a list, as the first pass of two takes them
abbrev nodes_of : AreaSpec → List EntitySpec → WaySets
nodes_of area es = start_ways (node_pass (map (seen_entity none_whole area) es))

same_frames : (b : List ℕ) (one two : List FrameSpec) → judged_file (Some b) ≡ Some (one, None) → judged_file (Some b) ≡ Some (two, None) → one ≡ two
same_frames b one two e f = grind arith

-- by the types and the area of the call
pub begun_by : {S : Type 0} {step : S → Seen → S} {b : List ℕ} {begun phase : S} {h : HeaderSpec} (wanted whole : List TagSpec → Bool) → wanted ≡ whole → (taken_in area : AreaSpec) → taken_in ≡ area → Begins wanted taken_in step b begun phase h → Begins whole area step b begun phase h
begun_by {S} {step} {b} {begun} {phase} {h} wanted whole is taken_in area same begins =
    subst (λ (a : AreaSpec). Begins whole a step b begun phase h) same (subst (λ (w : List TagSpec → Bool). Begins w taken_in step b begun phase h) is begins)

-- what the first pass took, and a second one if it hadn't all ways
module _ {S : Type 0} (start : S) (step : S → Seen → S) (has_ways : S → Bool) (ended : S → WaySets) (takes : TakesFirst start step has_ways ended) (second : FeedUse) (digest : Mark) (area : AreaSpec) (b : List ℕ) (h : HeaderSpec) (begun phase : S) (started ways : WaySets) (sets : KeptSets) where
  module _ (wanted : List TagSpec → Bool) (wants : wanted ≡ none_whole) (taken_in : AreaSpec) (same : taken_in ≡ area) (begins : Begins wanted taken_in step b begun phase h) (fresh : begun ≡ start) (starts : started ≡ ended phase) (kept : sets ≡ without_parents ways) where
    p : Begins none_whole area step b begun phase h
    p = begun_by wanted none_whole wants taken_in area same begins

    abbrev es : List EntitySpec
    es = stored_entities p.frames

    abbrev seen : List Seen
    seen = map (seen_entity none_whole area) es

    taken : phase ≡ fold step start seen
    taken = p.taken ∙ seen_folded none_whole area step begun es ∙ ap (λ (s : S). fold step s seen) fresh

    here : (frames : List FrameSpec) → judged_file (Some b) ≡ Some (frames, None) → p.frames ≡ frames
    here frames known = same_frames b p.frames frames (known_says b (p.frames, None) p.judged) known

    chosen : (c : List ℕ) → GathersFile with_way (judged_file (Some c)) (nodes_of area es) ways → IsChoice area b c sets h
    chosen c more = record { ways = ways; kept = kept; chosen = record { frames = p.frames; judged = p.judged; within = p.within; header = p.header; typed = p.typed; chosen = more }; short = p.short }

    -- it had all ways
    all_ways : true ≡ has_ways phase → ways ≡ started → GathersFile with_way (judged_file (Some b)) (nodes_of area es) ways
    all_ways all rest frames known =
        let came = takes.all seen (ap has_ways (sym taken) ∙ sym all) ∙ sym (sets_are area es) in
        rest ∙ starts ∙ ap ended taken ∙ came ∙ ap (λ (l : List FrameSpec). fold with_way (nodes_of area es) (stored_entities l)) (here frames known)

    -- it hadn't
    more_ways : false ≡ has_ways phase → (c : List ℕ) → GathersFile with_way (judged_file (Some c)) started ways → GathersFile with_way (judged_file (Some c)) (nodes_of area es) ways
    more_ways all c more frames known = more frames known ∙ ap (λ (s : WaySets). fold with_way s (stored_entities frames)) (starts ∙ ap ended taken ∙ takes.nodes seen (ap has_ways (sym taken) ∙ sym all))

    pub chooses : (spared : Bool) → spared ≡ has_ways phase → GathersRest second.ghosts with_way spared second.old second.new digest started ways → GaveOrNot second spared digest b (λ c. IsChoice area b c sets h)
    chooses true all rest = (rest.0, chosen b (all_ways all rest.1))
    chooses false all rest = gave_file_less second.ghosts second.old second.new digest (λ file. GathersFile with_way (judged_file (Some file)) started ways) _ (λ c more. chosen c (more_ways all c more)) rest

    -- of one of several areas, for which the second file was read though the first pass had all ways, or since it hadn't
    pub chooses_of : (is_done : Bool) → is_done ≡ has_ways phase → (c : List ℕ) → c ≡ b → (is_done ≡ true → ways ≡ started) → (is_done ≡ false → GathersFile with_way (judged_file (Some c)) started ways) → IsChoice area b c sets h
    chooses_of true all c same rest more = subst (λ (l : List ℕ). IsChoice area b l sets h) (sym same) (chosen b (all_ways all (rest refl)))
    chooses_of false all c same rest more = chosen c (more_ways all c (more refl))

    -- and a third one, for relations
    module _ (found_of : S → Found) (takes_all : TakesAll start step has_ways ended found_of) (third : FeedUse) (found : Found) (founds : found ≡ found_of phase) (begun_relations relations : RelationSets) (begins_with : begun_relations ≡ relations_from sets.ways found)
        (last now : KeptSets) (keeps : last.ways ≡ relations.ways) (least : IsLeast (set.contains relations.links) relations.start last.relation_ids) (none : last.added ≡ nothing_added) (handed : now ≡ last) where
      sets_ways : sets.ways ≡ ways
      sets_ways = ap (λ (s : KeptSets). s.ways) kept

      with_parents : (c e : List ℕ) → GathersFile with_way (judged_file (Some c)) (nodes_of area es) ways → GathersFile with_relation (judged_file (Some e)) (start_relations ways) relations → IsChoiceWithParents area b c e now h
      unfolding chosen
      with_parents c e more gathered = record {
        chosen = record {
          ways = ways;
          chosen = (chosen c more).chosen;
          relations = relations;
          gathered = gathered;
          kept = ap (λ (s : KeptSets). s.ways) handed ∙ keeps;
          least = subst (λ (s : KeptSets). IsLeast (set.contains relations.links) relations.start s.relation_ids) (sym handed) least;
          added = ap (λ (s : KeptSets). s.added) handed ∙ none;
        };
        short = p.short;
      }

      -- the first pass had all relations
      all_relations : true ≡ has_ways phase → ways ≡ started → relations ≡ begun_relations → GathersFile with_relation (judged_file (Some b)) (start_relations ways) relations
      all_relations all rest same frames known =
          let has : has_ways (fold step start seen) ≡ true = ap has_ways (sym taken) ∙ sym all in
          let were : ways ≡ ended (fold step start seen) = rest ∙ starts ∙ ap ended taken in
          let got : found ≡ found_of (fold step start seen) = founds ∙ ap found_of taken in
          let whole : relations ≡ relation_pass seen = same ∙ begins_with ∙ ap (λ (w : WaySets). relations_from w found) (sets_ways ∙ were) ∙ ap (λ (f : Found). relations_from (ended (fold step start seen)) f) got ∙ takes_all.all seen has in
          let pass : fold with_relation (start_relations ways) es ≡ relation_pass seen = ap (λ (w : WaySets). fold with_relation (start_relations w) es) (were ∙ takes.all seen has) ∙ relations_folded area (start_relations (way_pass seen)) es in
          whole ∙ sym pass ∙ ap (λ (l : List FrameSpec). fold with_relation (start_relations ways) (stored_entities l)) (here frames known)

      -- it had none
      more_relations : false ≡ has_ways phase → (e : List ℕ) → GathersFile with_relation (judged_file (Some e)) begun_relations relations → GathersFile with_relation (judged_file (Some e)) (start_relations ways) relations
      more_relations all e more frames known =
          let none : found ≡ nothing_found = founds ∙ ap found_of taken ∙ takes_all.nothing seen (ap has_ways (sym taken) ∙ sym all) in
          more frames known ∙ ap (λ (r : RelationSets). fold with_relation r (stored_entities frames)) (begins_with ∙ ap (λ (w : WaySets). relations_from w found) sets_ways ∙ ap (λ (f : Found). relations_from ways f) none)

      pub chooses_parents : (spared : Bool) → spared ≡ has_ways phase → GathersRest second.ghosts with_way spared second.old second.new digest started ways → GathersRest third.ghosts with_relation spared third.old third.new digest begun_relations relations
          → GaveOrNot second spared digest b (λ c. GaveOrNot third spared digest b (λ e. IsChoiceWithParents area b c e now h))
      chooses_parents true all two three = (two.0, (three.0, with_parents b b (all_ways all two.1) (all_relations all two.1 three.1)))
      chooses_parents false all two three =
          gave_file_less second.ghosts second.old second.new digest (λ file. GathersFile with_way (judged_file (Some file)) started ways) _ (λ c ways.
          gave_file_less third.ghosts third.old third.new digest (λ file. GathersFile with_relation (judged_file (Some file)) begun_relations relations) _ (λ e more. with_parents c e (more_ways all c ways) (more_relations all e more)) three) two

      -- of one of several areas
      pub chooses_parents_of : (is_done : Bool) → is_done ≡ has_ways phase → (c e : List ℕ) → c ≡ b → e ≡ b → (is_done ≡ true → ways ≡ started) → (is_done ≡ false → GathersFile with_way (judged_file (Some c)) started ways)
          → (is_done ≡ true → relations ≡ begun_relations) → (is_done ≡ false → GathersFile with_relation (judged_file (Some e)) begun_relations relations) → IsChoiceWithParents area b c e now h
      chooses_parents_of true all c e same too rest more kept_all gathers = subst (λ (l : List ℕ). IsChoiceWithParents area b c l now h) (sym too) (subst (λ (l : List ℕ). IsChoiceWithParents area b l b now h) (sym same) (with_parents b b (all_ways all (rest refl)) (all_relations all (rest refl) (kept_all refl))))
      chooses_parents_of false all c e same too rest more kept_all gathers = with_parents c e (more_ways all c (more refl)) (more_relations all e (gathers refl))

-- ---- with the members of relations that are wanted whole

members_folded : (whole : List TagSpec → Bool) (area : AreaSpec) (sets : KeptSets) (es : List EntitySpec) → fold with_added_way sets es ≡ fold member_step sets (map (seen_entity whole area) es)
members_folded whole area sets [] = refl
members_folded whole area sets (node n ∷ es) = members_folded whole area sets es
members_folded whole area sets (way w ∷ es) = members_folded whole area (with_added_way sets (way w)) es
members_folded whole area sets (relation r ∷ es) = members_folded whole area sets es

-- what the sets keep is the smart extract
members_are : (whole : List TagSpec → Bool) (area : AreaSpec) (es : List EntitySpec) (ids : Ids) → IsLeast (set.contains (relation_pass (map (seen_entity whole area) es)).links) (relation_pass (map (seen_entity whole area) es)).start ids
    → filter (taken_by (member_pass ids (map (seen_entity whole area) es))) es ≡ kept_entities (smart whole) area es
members_are whole area es ids least =
    let seen = map (seen_entity whole area) es in
    taken_as (smart whole) area es (member_pass ids seen) (members_keep_ways ids seen ∙ ways_stay seen) (chosen_with_members whole seen ids least)

pub selects_members : (whole : List TagSpec → Bool) (sets : KeptSets) (area : AreaSpec) (b : List ℕ) (first second : Option Verdict) (h : HeaderSpec) → first ≡ judged_file (Some b) → second ≡ judged_file (Some b)
    → ChoosesMembers whole area first second sets h → Selects b (smart whole) area (taken_by sets) h
selects_members whole sets area b first second h is too p =
    let es = stored_entities p.frames in
    let seen = map (seen_entity whole area) es in
    let known : judged_file (Some b) ≡ Some (p.frames, None) = known_says b (p.frames, None) (subst (λ (k : Option Verdict). Says k (p.frames, None)) is p.judged) in
    let all : sets ≡ member_pass p.relation_ids seen =
    p.gathered p.frames (too ∙ known) ∙ ap (λ (r : RelationSets). fold with_added_way (begun_members r p.relation_ids) es) p.gave ∙ members_folded whole area (begun_members (relation_pass seen) p.relation_ids) es in
    record {
      frames = p.frames;
      judged = known;
      writable = judged_sound b p.frames known p.within;
      bytes = header_from area (file_header p.frames) h p.header (smart whole) es;
      picked = ap (λ (s : KeptSets). filter (taken_by s) es) all ∙ members_are whole area es p.relation_ids (subst (λ (r : RelationSets). IsLeast (set.contains r.links) r.start p.relation_ids) p.gave p.least);
      typed = p.typed;
    }

pub members_sound : (whole : List TagSpec → Bool) (area : AreaSpec) (b : List ℕ) (second : Option Verdict) (sets : KeptSets) (h : HeaderSpec) → ChoosesMembers whole area (judged_file (Some b)) second sets h → IsWritable b
members_sound whole area b second sets h p = ap (λ (v : Verdict). v.1) (same_verdict b p.frames (judged_sound b p.frames (known_says b (p.frames, None) p.judged) p.within))

-- what the first pass took, which had all relations, and a second one if ways were added
module _ {S : Type 0} (start : S) (step : S → Seen → S) (has_ways : S → Bool) (ended : S → WaySets) (found_of : S → Found) (takes : TakesAll start step has_ways ended found_of) (second : FeedUse) (digest : Mark) (whole : List TagSpec → Bool) (area : AreaSpec) (b : List ℕ) (h : HeaderSpec) (begun phase : S) (ways : WaySets) (found : Found) (relations : RelationSets) (before sets : KeptSets) where
  module _ (wanted : List TagSpec → Bool) (wants : wanted ≡ whole) (taken_in : AreaSpec) (same : taken_in ≡ area) (begins : Begins wanted taken_in step b begun phase h) (fresh : begun ≡ start) (all : true ≡ has_ways phase) (starts : ways ≡ ended phase) (founds : found ≡ found_of phase) (gave : relations ≡ relations_from ways found)
      (least : IsLeast (set.contains relations.links) relations.start before.relation_ids) (begun_with : before ≡ begun_members relations before.relation_ids) where
    q : Begins whole area step b begun phase h
    q = begun_by wanted whole wants taken_in area same begins

    abbrev entities : List EntitySpec
    entities = stored_entities q.frames

    took : phase ≡ fold step start (map (seen_entity whole area) entities)
    took = q.taken ∙ seen_folded whole area step begun entities ∙ ap (λ (s : S). fold step s (map (seen_entity whole area) entities)) fresh

    all_relations_gave : relations ≡ relation_pass (map (seen_entity whole area) entities)
    all_relations_gave =
        gave ∙ ap (λ (w : WaySets). relations_from w found) (starts ∙ ap ended took) ∙ ap (λ (f : Found). relations_from (ended (fold step start (map (seen_entity whole area) entities))) f) (founds ∙ ap found_of took)
        ∙ takes.all (map (seen_entity whole area) entities) (ap has_ways (sym took) ∙ sym all)

    with_members : (c : List ℕ) → GathersFile with_added_way (judged_file (Some c)) before sets → IsChoiceWithMembers whole area b c sets h
    with_members c more = record {
      chosen = record {
        frames = q.frames;
        judged = q.judged;
        within = q.within;
        header = q.header;
        typed = q.typed;
        relations = relations;
        gave = all_relations_gave;
        relation_ids = before.relation_ids;
        least = least;
        gathered = subst (λ (s : KeptSets). GathersFile with_added_way (judged_file (Some c)) s sets) begun_with more;
      };
      short = q.short;
    }

    -- no way was added
    none_more : before.added.ways ≡ set.empty → sets ≡ before → GathersFile with_added_way (judged_file (Some b)) before sets
    none_more none same frames known = same ∙ sym (members_folded whole area before (stored_entities frames) ∙ none_to_add before none (map (seen_entity whole area) (stored_entities frames)))

    pub chooses_members : (spared : Bool) → (spared ≡ true → before.added.ways ≡ set.empty) → GathersRest second.ghosts with_added_way spared second.old second.new digest before sets → GaveOrNot second spared digest b (λ c. IsChoiceWithMembers whole area b c sets h)
    chooses_members true none rest = (rest.0, with_members b (none_more (none refl) rest.1))
    chooses_members false none rest = gave_file_less second.ghosts second.old second.new digest (λ file. GathersFile with_added_way (judged_file (Some file)) before sets) _ (λ c more. with_members c more) rest
