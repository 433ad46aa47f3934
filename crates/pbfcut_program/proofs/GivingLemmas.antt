-- What a run that ended well changes in the file system.
use Rattle.std.proofs.Common.{rules, ◌≡◌, ℕ, ◌+◌, List, [], ◌∷◌, ◌++◌, map, Bool, true, false, Option, Some, None, refl, sym, subst, ap, ◌∙◌, append_assoc}
use Rattle.std.proofs.lemmas.List.{append-nil}
use Rattle.osm_area.specs.Area.{AreaSpec}
use Rattle.pbf_block.specs.declared.counts.Counts.{Counts}
use Rattle.pbfcut_cli.specs.declared.words.Files.{Files}
use Rattle.pbfcut_cli.specs.declared.words.Region.{Region}
use Rattle.pbfcut_cli.specs.declared.words.Region.TheVariants as region
use Rattle.pbfcut_cli.specs.declared.words.Strategy.{Strategy}
use Rattle.pbfcut_program.specs.Changes.{GivesConversion, GivesCopy, GivesExtract, GivesFile, KeepsFile}
use Rattle.pbfcut_program.specs.Events.{Event, Reading, read, seeded, stays, wrote, openings}
use Rattle.pbfcut_program.specs.Fails.{Each}
use Rattle.pbfcut_program.specs.Files.{AllowsAll, Disk, IsKept, IsMade, Still, after}
use Rattle.pbfcut_program.specs.Manner.{Manner}
use Rattle.pbfcut_program.specs.OnDisk.{IsAreaOn}
use Rattle.pbfcut_program.specs.Program.{MeansArea, RunsExtract, Writes, WritesCounts, advice, is_empty, is_screen, looks, screen_of, strategy_of}
use Rattle.pbfcut_program.specs.Lines.{counts_text, done_lines, prints}
use Rattle.pbfcut_program.specs.Taking.{Happened}
use Rattle.pbfcut.specs.Tasks.{Task, converting, copying, extracting}
use Rattle.pbfcut_program.specs.declared.host.Screen.{Screen}
use Rattle.pbfcut_program.proofs.DiskLemmas.{after_still, allows_first, allows_past, keeps_now, none_stays}
use Rattle.pbfcut_program.proofs.EventLemmas.{each_both}
use Rattle.pbfcut_program.proofs.TakingLemmas.{AllHad, convert_had, converts_had, copies_had, copy_had, extract_had, extracts_had}

-- ---- what changes nothing

looks_still : (is : Bool) (files : Files) → Each Still (looks is files)
looks_still true files = tt
looks_still false files = (tt, tt)

pub openings_still : (input : List ℕ) (pass : ℕ) (has : List (Option (List ℕ))) → Each Still (openings input pass has)
openings_still input pass [] = tt
openings_still input pass (h ∷ hs) = (tt, openings_still input (pass + 1) hs)

pub reads_still : (rs : List Reading) → Each Still (map (λ r. read r) rs)
reads_still [] = tt
reads_still (r ∷ rs) = (tt, reads_still rs)

prints_still : (screen : Screen) (lines : List (List ℕ)) → Each Still (prints screen lines)
prints_still screen [] = tt
prints_still screen (line ∷ lines) = (tt, prints_still screen lines)

advice_still : (counts : Counts) → Each Still (advice counts)
advice_still counts = of (is_empty counts) refl where
  of : (t : Bool) → is_empty counts ≡ t → Each Still (advice counts)
  of true e = rw e (tt, tt)
  of false e = rw e tt

area_still : (cut : Region) (events : List Event) (area : AreaSpec) → MeansArea cut events area → Each Still events
area_still (region.Box box) events area m = subst (λ (es : List Event). Each Still es) (sym m.0) tt
area_still (region.Polygon path) events area m = subst (λ (es : List Event). Each Still es) (sym m.2) (tt, tt)

-- ---- what was read, and what was opened

pub area_on : (disk : Disk) (cut : Region) (events : List Event) (area : AreaSpec) → MeansArea cut events area → AllowsAll disk events → IsAreaOn disk cut area
area_on disk (region.Box box) events area m a = m.1
area_on disk (region.Polygon path) events area m a = (m.0, m.1, (subst (λ (es : List Event). AllowsAll disk es) m.2 a).0, m.3, m.4)

pub openings_had : (file input : List ℕ) (pass : ℕ) (has : List (Option (List ℕ))) (disk : Disk) → AllowsAll disk (openings input pass has) → disk input ≡ Some file → AllHad file has
openings_had file input pass [] disk a there = tt
openings_had file input pass (h ∷ hs) disk a there = (a.0 ∙ there, openings_had file input (pass + 1) hs disk a.1 there)

-- ---- the events of a command that writes, among others

regroup : (f l o : List Event) (s : Event) (m r : List Event) (w : Event) (k p b : List Event) → f ++ (l ++ o ++ s ∷ m ++ r ++ w ∷ k ++ p) ++ b ≡ (f ++ (l ++ (o ++ s ∷ []))) ++ (m ++ (r ++ (w ∷ (k ++ (p ++ b)))))
regroup f l o s m r w k p b = search (rules, append_assoc)

module _ (m : Manner) (task : Task) (files : Files) (counts : Counts) (first events last : List Event) (x : WritesCounts m task files counts events) (still : Each Still first × Each Still last) where
  abbrev is : Bool
  is = is_screen m.program files.output.now

  abbrev lines : List (List ℕ)
  lines = counts_text counts ∷ done_lines x.known x.meaning x.digest x.raw files.input.now files.output.now

  abbrev printed : List Event
  printed = prints (screen_of is) lines

  abbrev before : List Event
  before = first ++ (looks is files ++ (openings files.input.now 1 x.has ++ seeded (Some x.key) ∷ []))

  abbrev between : List Event
  between = map (λ r. read r) x.rs

  parts_are : first ++ events ++ last ≡ before ++ (x.makes ++ (between ++ (wrote x.out ∷ (x.keeps ++ (printed ++ last)))))
  parts_are = ap (λ es. first ++ es ++ last) x.happened ∙ regroup first (looks is files) (openings files.input.now 1 x.has) (seeded (Some x.key)) x.makes between (wrote x.out) x.keeps printed last

  before_still : Each Still before
  before_still = each_both Still first _ still.0 (each_both Still (looks is files) _ (looks_still is files) (each_both Still (openings files.input.now 1 x.has) (seeded (Some x.key) ∷ []) (openings_still files.input.now 1 x.has) (tt, tt)))

  last_still : Each Still (printed ++ last)
  last_still = each_both Still printed last (prints_still (screen_of is) lines) still.1

  -- a file
  pub writes_file : is ≡ false → KeepsFile m.program files.overwrite files.output.now x.out (first ++ events ++ last)
  writes_file no_screen = record {
    keeps = x.keeps;
    file = record {
      before = before;
      makes = x.makes;
      between = between;
      last = printed ++ last;
      happened = parts_are;
      is_made = subst (λ (t : Bool). IsMade m.program t files.output.now x.out.name x.makes) no_screen x.made;
      still = (before_still, reads_still x.rs, last_still);
    };
    is_kept = x.named;
    kept = x.kept;
    whole = x.whole;
  }

  -- standard output
  pub writes_screen : is ≡ true → Each Still (first ++ events ++ last)
  writes_screen screen =
      let mine = subst (λ (t : Bool). IsMade m.program t files.output.now x.out.name x.makes) screen x.made in
      let no_keeps = subst (λ (n : Option (List ℕ)). IsKept m.program files.overwrite files.output.now n x.keeps) mine.0 x.named in
      subst (λ (es : List Event). Each Still es) (sym parts_are) (each_both Still before _ before_still (each_both Still x.makes _ (subst (λ (es : List Event). Each Still es) (sym mine.1) (tt, tt))
      (each_both Still between _ (reads_still x.rs) (mine.0, each_both Still x.keeps _ (subst (λ (es : List Event). Each Still es) (sym no_keeps) tt) last_still))))

  -- IN had these bytes for each opening
  pub writes_had : (file : List ℕ) (disk : Disk) → disk files.input.now ≡ Some file → AllowsAll disk (first ++ events ++ last) → AllHad file x.has
  writes_had file disk there a =
      let opened : List Event = openings files.input.now 1 x.has in
      let seed : List Event = seeded (Some x.key) ∷ [] in
      let rest : List Event = x.makes ++ (between ++ (wrote x.out ∷ (x.keeps ++ (printed ++ last)))) in
      let begins = allows_first before rest disk (subst (λ es. AllowsAll disk es) parts_are a) in
      let looked = allows_past first (looks is files ++ (opened ++ seed)) disk still.0 begins in
      openings_had file files.input.now 1 x.has disk (allows_first opened seed disk (allows_past (looks is files) (opened ++ seed) disk (looks_still is files) looked)) there

  -- ---- what the file system has then

  module _ (disk : Disk) (a : AllowsAll disk (first ++ events ++ last)) where
    abbrev all : List Event
    all = first ++ events ++ last

    others_left : (t : Bool) → is ≡ t → (path : List ℕ) → (is ≡ false → path ≡ files.output.now → ⊥) → (Happened (stays path) all → ⊥) → after all disk path ≡ disk path
    others_left false no_screen = λ path o. (keeps_now m.program files.overwrite files.output.now x.out all disk (writes_file no_screen) a).left.others path (o no_screen)
    others_left true screen = λ path o q. ap (λ (d : Disk). d path) (after_still all disk (writes_screen screen))

    parts_new : (t : Bool) → is ≡ t → (path : List ℕ) → Happened (stays path) all → disk path ≡ None
    parts_new false no_screen = λ path h. ((keeps_now m.program files.overwrite files.output.now x.out all disk (writes_file no_screen) a).left.parts path h).1
    parts_new true screen = λ path h. absurd (none_stays path all (writes_screen screen) h)

    pub gives_file : GivesFile m files x.out.bytes all disk
    gives_file = record {
      there = λ no_screen. (keeps_now m.program files.overwrite files.output.now x.out all disk (writes_file no_screen) a).there;
      fresh = λ no_screen. (keeps_now m.program files.overwrite files.output.now x.out all disk (writes_file no_screen) a).fresh;
      others = others_left is refl;
      parts = parts_new is refl;
    }

-- ---- a run of `extract`

module _ (m : Manner) (cut : Region) (by : Strategy) (files : Files) (events : List Event) (x : RunsExtract m cut by files events) (disk : Disk) (a : AllowsAll disk events) (file : List ℕ) (there : disk files.input.now ≡ Some file) where
  abbrev extract : Task
  extract = extracting (strategy_of by) x.area

  around : Each Still x.before × Each Still (advice x.counts)
  around = (area_still cut x.before x.area x.means, advice_still x.counts)

  allowed : AllowsAll disk (x.before ++ x.after ++ advice x.counts)
  allowed = subst (λ (es : List Event). AllowsAll disk es) x.happened a

  reads_allowed : AllowsAll disk x.before
  reads_allowed = allows_first x.before x.after disk (allows_first (x.before ++ x.after) (advice x.counts) disk allowed)

  had : AllHad file x.writes.has
  had = writes_had m extract files x.counts x.before x.after (advice x.counts) x.writes around file disk there allowed

  pub gives_extract : GivesExtract m cut by files file events disk
  gives_extract =
      let took = extract_had file m cut by files events x had in
      record {
        took = extracts_had file m cut by files events x had;
        area_on = area_on disk cut _ _ (extracts_had file m cut by files events x had).means (subst (λ es. AllowsAll disk es) (sym took.1) reads_allowed);
        gives = subst (λ (bytes : List ℕ). GivesFile m files bytes events disk) (sym took.0)
            (subst (λ (es : List Event). GivesFile m files x.writes.out.bytes es disk) (sym x.happened) (gives_file m extract files x.counts x.before x.after (advice x.counts) x.writes around disk allowed));
      }

-- ---- a run of `convert`, `pack` or `unpack`

module _ (m : Manner) (task : Task) (files : Files) (events : List Event) (x : Writes m task files events) (disk : Disk) (a : AllowsAll disk events) where
  alone : events ≡ [] ++ events ++ []
  alone = sym (append-nil events)

  abbrev allowed_alone : AllowsAll disk ([] ++ events ++ [])
  allowed_alone = subst (λ (es : List Event). AllowsAll disk es) alone a

  pub had_alone : (file : List ℕ) → disk files.input.now ≡ Some file → AllHad file x.1.has
  had_alone file there = writes_had m task files x.0 [] events [] x.1 (tt, tt) file disk there allowed_alone

  pub gives_alone : (bytes : List ℕ) → bytes ≡ x.1.out.bytes → GivesFile m files bytes events disk
  gives_alone bytes is = subst (λ (b : List ℕ). GivesFile m files b events disk) (sym is)
      (subst (λ (es : List Event). GivesFile m files x.1.out.bytes es disk) (sym alone) (gives_file m task files x.0 [] events [] x.1 (tt, tt) disk allowed_alone))

module _ (m : Manner) (files : Files) (events : List Event) (disk : Disk) (a : AllowsAll disk events) (file : List ℕ) (there : disk files.input.now ≡ Some file) where
  pub gives_conversion : Writes m converting files events → GivesConversion m files file events disk
  gives_conversion x =
      let had = had_alone m converting files events x disk a file there in
      record { took = converts_had file m files events x had; gives = gives_alone m converting files events x disk a _ (convert_had file m files events x had) }

  pub gives_copy : Writes m copying files events → GivesCopy m files file events disk
  gives_copy x =
      let had = had_alone m copying files events x disk a file there in
      record { took = copies_had file m files events x had; gives = gives_alone m copying files events x disk a _ (copy_had file m files events x had) }
