-- What a run for several areas that ended well changes in the file system.
use Rattle.std.proofs.Common.{◌≡◌, ◌∙◌, inl, ℕ, List, [], ◌∷◌, ◌++◌, map, Bool, false, Option, Some, refl, sym, ap, subst, append_assoc}
use Rattle.std.specs.List.{AllByRecursion, AllZip, flat_map}
use Rattle.std.specs.Option.{is_some}
use Rattle.osm_area.specs.Area.{AreaSpec}
use Rattle.osm_ways.specs.Selection.{Strategy}
use Rattle.pbfcut_cli.specs.declared.programs.Program.TheVariants.{Pbfcutz}
use Rattle.pbfcut_cli.specs.declared.words.ConfigFiles.{ConfigFiles}
use Rattle.osm_config.specs.Areas.{AreaMember, in_box, in_polygons, in_file}
use Rattle.osm_config.specs.Configs.{ExtractSpec}
use Rattle.pbfcut_program.specs.Configured.{MeansConfig, MeansConfigured, MeansEach, OutputArea}
use Rattle.pbfcut_program.specs.Events.{Event, openings, read, seeded, wrote}
use Rattle.pbfcut_program.specs.Files.{AllowsAll, Disk, IsKept, IsMade, Still, after}
use Rattle.pbfcut_program.specs.Fails.{Each}
use Rattle.pbfcut_program.specs.declared.host.Screen.TheVariants.{Output}
use Rattle.pbfcut_program.specs.Lines.{prints}
use Rattle.pbfcut_program.specs.Manner.{Manner, manner, of_output}
use Rattle.pbfcut_program.specs.OnDisk.{AreOutsOn, IsConfiguredOn, IsExtractOn}
use Rattle.pbfcut_program.specs.SeveralChanges.{HandlesFiles, IsApart, IsHandled, IsKeptWhole, OneFile, Pairwise}
use Rattle.pbfcut_program.specs.SeveralFiles.{looks_each}
use Rattle.pbfcut_program.specs.SeveralGives.{GivesEach, GivesOne}
use Rattle.pbfcut_program.specs.SeveralWrites.{OneOut, RunsExtractEach, WritesOne, begun_each, each_lines, paths_of}
use Rattle.pbfcut_program.proofs.ConfiguredLemmas.{calm_area, config_calm}
use Rattle.pbfcut_program.proofs.DiskLemmas.{allows_first, allows_past}
use Rattle.pbfcut_program.proofs.EventLemmas.{each_both}
use Rattle.pbfcut_program.proofs.GivingLemmas.{openings_had, reads_still}
use Rattle.pbfcut_program.proofs.Printed.{still_prints}
use Rattle.pbfcut_program.proofs.SettlingLemmas.{still_of}
use Rattle.pbfcut_program.proofs.SeveralDisk.{kept_fresh, kept_there, others_back}
use Rattle.pbfcut_program.proofs.SeveralFileLemmas.{calm_looks_each}
use Rattle.pbfcut_program.proofs.SeveralMaking.{begun_calm}
use Rattle.pbfcut_program.proofs.SeveralParts.{parts_are_new}
use Rattle.pbfcut_program.proofs.TakingLemmas.{AllHad, all_had, holds_extract}

-- ---- the texts that were read are those that the disk has

module _ (disk : Disk) where
  configured_on : (a : AreaMember) (es : List Event) (area : AreaSpec) → MeansConfigured a es area → AllowsAll disk es → IsConfiguredOn disk a area
  configured_on (in_box box) es area m a = m.1
  configured_on (in_polygons polygons) es area m a = m.1
  configured_on (in_file path) es area m a = (m.0, m.1, (subst (λ l. AllowsAll disk l) m.2 a).0, m.3, m.4)

  each_on : (xs : List ExtractSpec) (es : List Event) (os : List OutputArea) → MeansEach xs es os → AllowsAll disk es → AllZip (IsExtractOn disk) xs os
  each_on [] es [] m a = tt
  each_on [] es (o ∷ os) m a = absurd m
  each_on (x ∷ xs) es [] m a = absurd m
  each_on (x ∷ xs) es (o ∷ os) m a =
      let allowed = subst (λ l. AllowsAll disk l) m.2 a in (
        (m.3, configured_on x.area m.0 o.area m.4 (allows_first m.0 m.1 disk allowed)),
        each_on xs m.1 os m.5 (allows_past m.0 m.1 disk (still_of m.0 (calm_area x.area m.0 o.area m.4)) allowed),
      )

  pub outs_on : (config : List ℕ) (folder : Option (List ℕ)) (es : List Event) (os : List OutputArea) → MeansConfig config folder es os → AllowsAll disk es → AreOutsOn disk config folder os
  outs_on config folder es os m a =
      let allowed = subst (λ l. AllowsAll disk l) m.happened a in
      (m.text, m.extracts, allowed.0, m.are, each_on m.extracts m.later os m.each allowed.1)

-- ---- the files

abbrev files_of : List OneOut → List OneFile
files_of ones = map (λ one. one.file) ones

module _ (f : OneFile → List Event) where
  events_of : (ones : List OneOut) → flat_map (λ one. f one.file) ones ≡ flat_map f (files_of ones)
  events_of [] = refl
  events_of (one ∷ ones) = ap (λ es. f one.file ++ es) (events_of ones)

writes_of : (ones : List OneOut) → map (λ one. wrote one.file.out) ones ≡ map (λ one. wrote one.out) (files_of ones)
writes_of [] = refl
writes_of (one ∷ ones) = ap (λ es. wrote one.file.out ∷ es) (writes_of ones)

module _ (packs digests : Bool) (s : Strategy) (overwrite : Bool) (key : ℕ) (has : List (Option (List ℕ))) (digest : List ℕ) (raw : Option (List ℕ)) where
  abbrev m : Manner
  m = manner Pbfcutz packs digests

  abbrev Written : OutputArea → OneOut → Type 0
  Written out one = WritesOne m s overwrite key has digest raw out one

  kept_whole : (out : OutputArea) (one : OneOut) → Written out one → IsKeptWhole Pbfcutz overwrite one.file
  kept_whole out one w = (w.kept, w.whole, subst (λ p. IsKept Pbfcutz overwrite p one.file.out.name one.file.ends) (sym w.path) w.named)

  handled : (outs : List OutputArea) (ones : List OneOut) → AllZip Written outs ones → AllByRecursion (IsHandled Pbfcutz overwrite) (files_of ones)
  handled [] [] w = tt
  handled (out ∷ outs) (one ∷ ones) w = ((subst (λ p. IsMade Pbfcutz false p one.file.out.name one.file.makes) (sym w.0.path) w.0.made, inl (kept_whole out one w.0)), handled outs ones w.1)
  handled [] (one ∷ ones) w = absurd w
  handled (out ∷ outs) [] w = absurd w

  paths_are : (outs : List OutputArea) (ones : List OneOut) → AllZip Written outs ones → map (λ one. one.output) (files_of ones) ≡ paths_of outs
  paths_are [] [] w = refl
  paths_are (out ∷ outs) (one ∷ ones) w = ap (λ p. p ∷ map (λ f. f.output) (files_of ones)) w.0.path ∙ ap (λ ps. out.output ∷ ps) (paths_are outs ones w.1)
  paths_are [] (one ∷ ones) w = absurd w
  paths_are (out ∷ outs) [] w = absurd w

  -- each of those that are left, after others
  given_each : (file : List ℕ) (events : List Event) (disk : Disk) → AllowsAll disk events → AllHad file has → (fronts : List OneFile) (outs : List OutputArea) (ones : List OneOut) → AllZip Written outs ones → HandlesFiles Pbfcutz overwrite (fronts ++ files_of ones) events → Pairwise IsApart (fronts ++ files_of ones)
      → AllZip (GivesOne m s overwrite file events disk) outs (files_of ones)
  given_each file events disk a had fronts [] [] w x apart = tt
  given_each file events disk a had fronts (out ∷ outs) (one ∷ ones) w x apart =
      let rest = files_of ones in
      let whole = kept_whole out one w.0 in
      let work = w.0.work in
      let more = sym (append_assoc fronts (one.file ∷ []) rest) in (
        record {
          there = ap (after events disk) (sym w.0.path) ∙ kept_there overwrite fronts one.file rest events x apart disk a whole;
          counts = one.counts;
          extract = holds_extract file m s out.area work.files one.counts (of_output m one.file.out.bytes) (all_had file _ _ has one.readings work.files work.read had) work.holds;
          fresh = λ new. ap disk (sym w.0.path) ∙ kept_fresh overwrite fronts one.file rest events x apart disk a whole new;
        },
        given_each file events disk a had (fronts ++ one.file ∷ []) outs ones w.1 (subst (λ fs. HandlesFiles Pbfcutz overwrite fs events) more x) (subst (λ fs. Pairwise IsApart fs) more apart),
      )
  given_each file events disk a had fronts [] (one ∷ ones) w x apart = absurd w
  given_each file events disk a had fronts (out ∷ outs) [] w x apart = absurd w

regroup_each : (a b c d e f g : List Event) → a ++ (b ++ (c ++ (d ++ (e ++ (f ++ g))))) ≡ (a ++ b) ++ (c ++ (d ++ (e ++ (f ++ g))))
regroup_each a b c d e f g = sym (append_assoc a b (c ++ (d ++ (e ++ (f ++ g)))))

module _ (packs digests : Bool) (s : Strategy) (files : ConfigFiles) (events : List Event) (x : RunsExtractEach (manner Pbfcutz packs digests) s files events) (disk : Disk) (a : AllowsAll disk events) (file : List ℕ) (there : disk files.input.now ≡ Some file) where
  abbrev ones : List OneOut
  ones = x.writes.ones

  abbrev begun : List Event
  begun = begun_each files (paths_of x.outs) x.writes.has x.writes.key

  abbrev reads : List Event
  reads = map (λ r. read r) x.writes.rs

  abbrev lines : List Event
  lines = prints Output (each_lines digests x.writes.digest x.writes.raw files.input.now ones)

  -- as the events of files
  events_are : events ≡ (x.before ++ begun) ++ (flat_map (λ one. one.makes) (files_of ones) ++ (reads ++ (map (λ one. wrote one.out) (files_of ones) ++ (flat_map (λ one. one.ends) (files_of ones) ++ lines))))
  events_are = x.happened ∙ ap (λ es. x.before ++ es) x.writes.happened
      ∙ regroup_each x.before begun (flat_map (λ one. one.file.makes) ones) reads (map (λ one. wrote one.file.out) ones) (flat_map (λ one. one.file.ends) ones) lines
      ∙ ap (λ es. (x.before ++ begun) ++ (es ++ (reads ++ (map (λ one. wrote one.file.out) ones ++ (flat_map (λ one. one.file.ends) ones ++ lines))))) (events_of (λ one. one.makes) ones)
      ∙ ap (λ es. (x.before ++ begun) ++ (flat_map (λ one. one.makes) (files_of ones) ++ (reads ++ (es ++ (flat_map (λ one. one.file.ends) ones ++ lines))))) (writes_of ones)
      ∙ ap (λ es. (x.before ++ begun) ++ (flat_map (λ one. one.makes) (files_of ones) ++ (reads ++ (map (λ one. wrote one.out) (files_of ones) ++ (es ++ lines))))) (events_of (λ one. one.ends) ones)

  before_still : Each Still (x.before ++ begun)
  before_still = each_both Still x.before begun (still_of x.before (config_calm _ _ x.before x.outs x.means)) (still_of begun (begun_calm files (paths_of x.outs) x.writes.has x.writes.key))

  handles : HandlesFiles Pbfcutz files.overwrite (files_of ones) events
  handles = record {
    before = x.before ++ begun;
    between = reads;
    last = lines;
    happened = events_are;
    each = handled packs digests s files.overwrite x.writes.key x.writes.has x.writes.digest x.writes.raw x.outs ones x.writes.each;
    still = (before_still, reads_still x.writes.rs, still_prints Output (each_lines digests x.writes.digest x.writes.raw files.input.now ones));
  }

  -- IN had these bytes for each opening
  had : AllHad file x.writes.has
  had =
      let looks = looks_each files.overwrite (paths_of x.outs) in
      let opened = openings files.input.now 1 x.writes.has in
      let seed : List Event = seeded (Some x.writes.key) ∷ [] in
      let rest = flat_map (λ one. one.makes) (files_of ones) ++ (reads ++ (map (λ one. wrote one.out) (files_of ones) ++ (flat_map (λ one. one.ends) (files_of ones) ++ lines))) in
      let begins = allows_first (x.before ++ begun) rest disk (subst (λ es. AllowsAll disk es) events_are a) in
      let after_config = allows_past x.before begun disk (still_of x.before (config_calm _ _ x.before x.outs x.means)) begins in
      let after_looks = allows_past looks (opened ++ seed) disk (still_of looks (calm_looks_each files.overwrite (paths_of x.outs))) after_config in
      openings_had file files.input.now 1 x.writes.has disk (allows_first opened seed disk after_looks) there

  pub gives_each : GivesEach (manner Pbfcutz packs digests) s files file events disk
  gives_each = record {
    outs = x.outs;
    first = x.before;
    later = x.after;
    happened = x.happened;
    means = x.means;
    outs_on = outs_on disk _ _ x.before x.outs x.means (allows_first x.before x.after disk (subst (λ es. AllowsAll disk es) x.happened a));
    ones = files_of ones;
    paths = paths_are packs digests s files.overwrite x.writes.key x.writes.has x.writes.digest x.writes.raw x.outs ones x.writes.each;
    each = λ apart. given_each packs digests s files.overwrite x.writes.key x.writes.has x.writes.digest x.writes.raw file events disk a had [] x.outs ones x.writes.each handles apart;
    others = λ apart path outputs left. others_back files.overwrite (files_of ones) events handles apart disk a path outputs left;
    parts = λ apart path left. (parts_are_new files.overwrite (files_of ones) events handles apart disk a path left).1;
  }
