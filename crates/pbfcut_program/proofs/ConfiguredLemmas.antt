-- The extracts of a configuration that were read so far.
use Rattle.std.proofs.Common.{◌≡◌, ◌∙◌, ℕ, List, [], ◌∷◌, ◌++◌, Option, None, Some, map, length, Ok, Err, inr, refl, sym, ap, subst, append_assoc, arith}
use Rattle.std.proofs.lemmas.List.{append-nil, map-append}
use Rattle.osm_area.specs.Area.{AreaSpec}
use Rattle.osm_config.specs.declared.config.ConfiguredExtract.{ConfiguredExtract}
use Rattle.osm_config.specs.Areas.{AreaMember, in_box, in_polygons, in_file}
use Rattle.osm_config.specs.Configs.{ConfigSpec, ExtractSpec, config_of_text, if_some_and_distinct, repeated_after, unless_repeated}
use Rattle.osm_config.specs.Faults.{OrFault}
use Rattle.osm_config.specs.Paths.{extracts_of_text, folder_of_outputs, with_paths}
use Rattle.osm_config.specs.Readings.{extract_member_of}
use Rattle.osm_polygon.specs.GeoJson.{and_then as or_fault_then}
use Rattle.pbf_frame.specs.declared.stop.Stop.TheVariants as stop
use Rattle.pbfcut_cli.specs.declared.endings.Ending.{Ending}
use Rattle.pbfcut_cli.specs.declared.endings.Ending.TheVariants as ending
use Rattle.pbfcut_program.specs.declared.configured.OutputCut.{OutputCut}
use Rattle.pbfcut_program.specs.Configured.{FailsConfig, MeansConfig, MeansConfigured, MeansEach, OutputArea}
use Rattle.pbfcut_program.specs.ConfiguredCuts.{output_area_of}
use Rattle.pbfcut_program.specs.Events.{Event, text_read, then_all}
use Rattle.pbfcut_program.specs.Fails.{Calm, Each, FailsOpening}
use Rattle.pbfcut_program.proofs.EventLemmas.{each_both}
use Rattle.pbfcut_program.proofs.FailLemmas.{opening_after}
use Rattle.pbfcut_program.proofs.Logging.{and_then, then_none}

-- some extracts, and then others
each_then : (xs ys : List ExtractSpec) (es fs : List Event) (os ps : List OutputArea) → MeansEach xs es os → MeansEach ys fs ps → MeansEach (xs ++ ys) (es ++ fs) (os ++ ps)
each_then [] ys es fs [] ps m n = subst (λ l. MeansEach ys (l ++ fs) ps) (sym m) n
each_then [] ys es fs (o ∷ os) ps m n = absurd m
each_then (x ∷ xs) ys es fs [] ps m n = absurd m
each_then (x ∷ xs) ys es fs (o ∷ os) ps m n =
    (m.0, m.1 ++ fs, ap (λ l. l ++ fs) m.2 ∙ append_assoc m.0 m.1 fs, m.3, m.4, each_then xs ys m.1 fs os ps m.5 n)

-- a text is only read
pub calm_area : (a : AreaMember) (es : List Event) (area : AreaSpec) → MeansConfigured a es area → Each Calm es
calm_area (in_box box) es area m = subst (λ l. Each Calm l) (sym m.0) tt
calm_area (in_polygons polygons) es area m = subst (λ l. Each Calm l) (sym m.0) tt
calm_area (in_file path) es area m = subst (λ l. Each Calm l) (sym m.2) (tt, tt)

calm_each : (xs : List ExtractSpec) (es : List Event) (os : List OutputArea) → MeansEach xs es os → Each Calm es
calm_each [] es [] m = subst (λ l. Each Calm l) (sym m) tt
calm_each [] es (o ∷ os) m = absurd m
calm_each (x ∷ xs) es [] m = absurd m
calm_each (x ∷ xs) es (o ∷ os) m =
    subst (λ l. Each Calm l) (sym m.2) (each_both Calm m.0 m.1 (calm_area x.area m.0 o.area m.4) (calm_each xs m.1 os m.5))

-- all but those that are left were read, and this happened meanwhile
pub record HasRead (before now : Option (List Event)) (all left : List ConfiguredExtract) (outs : List OutputCut) : Type 0 where
  pub events : List Event
  pub log : now ≡ then_all before events
  pub done : List ConfiguredExtract
  pub parts : done ++ left ≡ all
  pub each : MeansEach (map extract_member_of done) events (map output_area_of outs)

pub read_none : (log : Option (List Event)) (all : List ConfiguredExtract) → HasRead log log all all []
read_none log all = record { events = []; log = then_none log; done = []; parts = refl; each = refl }

module _ (k l : Option (List Event)) (all left : List ConfiguredExtract) (outs : List OutputCut) (r : HasRead k l all left outs) where
  pub read_calm : Each Calm r.events
  read_calm = calm_each (map extract_member_of r.done) r.events (map output_area_of outs) r.each

  -- one more was read
  pub read_more : (m : Option (List Event)) (first : ConfiguredExtract) (more : List ConfiguredExtract) (out : OutputCut) (own : List Event) → left ≡ first ∷ more
      → m ≡ then_all l own → MeansEach (extract_member_of first ∷ []) own (output_area_of out ∷ []) → HasRead k m all more (outs ++ out ∷ [])
  read_more m first more out own is log one = record {
    events = r.events ++ own;
    log = and_then k l m r.events own r.log log;
    done = r.done ++ first ∷ [];
    parts = append_assoc r.done (first ∷ []) more ∙ ap (λ x. r.done ++ x) (sym is) ∙ r.parts;
    each = subst (λ os. MeansEach (map extract_member_of (r.done ++ first ∷ [])) (r.events ++ own) os) (sym (map-append output_area_of outs (out ∷ [])))
        (subst (λ xs. MeansEach xs (r.events ++ own) (map output_area_of outs ++ output_area_of out ∷ [])) (sym (map-append extract_member_of r.done (first ∷ [])))
        (each_then (map extract_member_of r.done) (extract_member_of first ∷ []) r.events own (map output_area_of outs) (output_area_of out ∷ []) r.each one));
  }

  -- it failed at the next
  pub read_failed : (m : Option (List Event)) (how : Ending) (own : List Event) → m ≡ then_all l own → FailsOpening how own
      → (events : List Event) × (m ≡ then_all k events) × FailsOpening how events
  read_failed m how own log f = (r.events ++ own, and_then k l m r.events own r.log log, opening_after how r.events own read_calm f)

  -- or there was no memory for it
  pub read_stopped : (m : Option (List Event)) (x : ExtractSpec) (o : OutputArea) (own : List Event) → m ≡ then_all l own → MeansEach (x ∷ []) own (o ∷ [])
      → (events : List Event) × (m ≡ then_all k events) × FailsOpening (ending.Stopped stop.Memory) events
  read_stopped m x o own log one = read_failed m (ending.Stopped stop.Memory) own log (calm_each (x ∷ []) own (o ∷ []) one, tt)

  -- none is left
  pub read_all : length left ≡ 0 → (events : List Event) × (l ≡ then_all k events) × MeansEach (map extract_member_of all) events (map output_area_of outs)
  read_all none = (r.events, r.log, subst (λ xs. MeansEach (map extract_member_of xs) r.events (map output_area_of outs)) (whole left none r.parts) r.each) where
    whole : (rest : List ConfiguredExtract) → length rest ≡ 0 → r.done ++ rest ≡ all → r.done ≡ all
    whole [] e p = sym (append-nil r.done) ∙ p
    whole (x ∷ rest) e p = absurd (omega (arith, e))

-- the configuration was read, and then all that it names
pub config_read : (config : List ℕ) (folder : Option (List ℕ)) (k l m : Option (List Event)) (text : List ℕ) (extracts : List ExtractSpec) (given : List ConfiguredExtract) (later : List Event) (outputs : List OutputArea)
    → l ≡ then_all k (text_read config text ∷ []) → extracts_of_text config folder text ≡ Ok extracts → map extract_member_of given ≡ extracts → m ≡ then_all l later → MeansEach (map extract_member_of given) later outputs
    → (events : List Event) × (m ≡ then_all k events) × MeansConfig config folder events outputs
config_read config folder k l m text extracts given later outputs first are same log each = (
  text_read config text ∷ later,
  and_then k l m (text_read config text ∷ []) later first log,
  record { text = text; extracts = extracts; later = later; happened = refl; are = are; each = subst (λ xs. MeansEach xs later outputs) same each },
)

-- the configuration was read, and then something failed
pub config_later : (config : List ℕ) (folder : Option (List ℕ)) (k l m : Option (List Event)) (text : List ℕ) (extracts : List ExtractSpec) (how : Ending) (later : List Event)
    → l ≡ then_all k (text_read config text ∷ []) → extracts_of_text config folder text ≡ Ok extracts → m ≡ then_all l later → FailsOpening how later
    → (events : List Event) × (m ≡ then_all k events) × FailsOpening how events × FailsConfig config folder how events
config_later config folder k l m text extracts how later first are log f = (
  text_read config text ∷ later,
  and_then k l m (text_read config text ∷ []) later first log,
  opening_after how (text_read config text ∷ []) later (tt, tt) f,
  inr (text, extracts, later, refl, are, f),
)

pub config_calm : (config : List ℕ) (folder : Option (List ℕ)) (events : List Event) (outputs : List OutputArea) → MeansConfig config folder events outputs → Each Calm events
config_calm config folder events outputs m = subst (λ l. Each Calm l) (sym m.happened) (tt, calm_each m.extracts m.later outputs m.each)

-- ---- there is an extract

no_repeated : (x : ExtractSpec) (xs : List ExtractSpec) (number : Option ℕ) → unless_repeated (x ∷ xs) number ≡ Ok [] → ⊥
no_repeated x xs None e = cc
no_repeated x xs (Some number) e = cc

no_extract : (xs : List ExtractSpec) → if_some_and_distinct xs ≡ Ok [] → ⊥
no_extract [] e = cc
no_extract (x ∷ xs) e = no_repeated x xs (repeated_after [] (map (λ e. e.output) (x ∷ xs))) e

no_extracts : (given : OrFault ConfigSpec) (xs : ConfigSpec → List ExtractSpec) → or_fault_then given (λ c. if_some_and_distinct (xs c)) ≡ Ok [] → ⊥
no_extracts (Ok c) xs e = no_extract (xs c) e
no_extracts (Err f) xs e = cc

some_extract : (config : List ℕ) (folder : Option (List ℕ)) (text : List ℕ) → extracts_of_text config folder text ≡ Ok [] → ⊥
unfolding extracts_of_text
some_extract config folder text e = no_extracts (config_of_text text) (λ c. map (with_paths config (folder_of_outputs folder c.directory)) c.extracts) e

pub some_configured : (config : List ℕ) (folder : Option (List ℕ)) (outs : List OutputCut) (events : List Event) → MeansConfig config folder events (map output_area_of outs) → outs ≡ [] → ⊥
some_configured config folder (o ∷ outs) events m none = cc
some_configured config folder [] events m none = of m.extracts m.are m.each where
  of : (xs : List ExtractSpec) → extracts_of_text config folder m.text ≡ Ok xs → MeansEach xs m.later [] → ⊥
  of [] are each = some_extract config folder m.text are
  of (x ∷ xs) are each = each
