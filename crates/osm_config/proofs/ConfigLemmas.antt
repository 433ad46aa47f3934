-- The extracts if no two have the same output, and the configuration of a text.
use Rattle.std.proofs.Common.{◌≡◌, ◌∙◌, ℕ, ◌≤◌, List, [], ◌∷◌, length, map, Some, Err, refl, sym, ap, arith}
use Rattle.std.specs.Prelude.{Option}
use Rattle.std.specs.String.{string_bytes}
use Rattle.json.specs.Json.{Json, document}
use Rattle.osm_config.specs.declared.config.ConfiguredExtract.{ConfiguredExtract}
use Rattle.osm_config.specs.Configs.{config_in, config_of_json, config_of_text, if_some_and_distinct, repeated_after, unless_repeated}
use Rattle.osm_config.specs.declared.fault.ConfigError.{ConfigError}
use Rattle.osm_config.specs.declared.fault.ConfigError.TheVariants as error
use Rattle.osm_config.specs.declared.fault.ConfigStop.{ConfigStop}
use Rattle.osm_config.specs.declared.fault.ConfigStop.TheVariants as stop
use Rattle.osm_config.specs.Faults.{OrFault}
use Rattle.osm_config.specs.Readings.{IsStopError, Reads, ReadsConfig, extract_member_of}
use Rattle.osm_polygon.specs.Texts.{without_mark}

outputs_are : (es : List ConfiguredExtract) → map (λ e. e.output) (map extract_member_of es) ≡ map (λ e. string_bytes e.output) es
outputs_are [] = refl
outputs_are (e ∷ es) = ap (λ os. string_bytes e.output ∷ os) (outputs_are es)

pub distinct_by : (es : List ConfiguredExtract) (r : Option ℕ) → r ≡ repeated_after [] (map (λ e. string_bytes e.output) es) → 1 ≤ length es → if_some_and_distinct (map extract_member_of es) ≡ unless_repeated (map extract_member_of es) r
distinct_by [] r h some = absurd (omega (arith, some))
distinct_by (e ∷ es) r h some =
    ap (λ os. unless_repeated (map extract_member_of (e ∷ es)) (repeated_after [] os)) (outputs_are (e ∷ es)) ∙ ap (unless_repeated (map extract_member_of (e ∷ es))) (sym h)

-- the text after its mark is this value
pub means_value : (text rest : List ℕ) (value : Json) → rest ≡ without_mark text → document rest ≡ Some value → config_of_text text ≡ config_in value
unfolding config_of_text
means_value text rest value e h = ap (λ t. config_of_json (document t)) (sym e) ∙ ap config_of_json h

-- the error is for what the stop was for
pub named_reads : {A : Type 0} (text : OrFault A) (s : ConfigStop) (e : ConfigError) → IsStopError s e → Reads text (Err s) → ReadsConfig text (Err e)
named_reads text (stop.Refused extract name reason) (error.Refused f) named reads = reads ∙ ap (λ g. Err g) (sym named)
named_reads text (stop.Refused extract name reason) error.Memory named reads = tt
named_reads text stop.Memory (error.Refused f) named reads = absurd named
named_reads text stop.Memory error.Memory named reads = tt
