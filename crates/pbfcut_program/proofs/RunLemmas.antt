-- What a run did that ended with 0, of words that are taken as a command that writes.
use Rattle.std.proofs.Common.{arith, ◌≡◌, inl, inr, ℕ, Bool, List, true, false, Some, codes, refl, ap, subst, sym, ◌∙◌}
use Rattle.std.specs.Str.{bytes_eq}
use Rattle.std.proofs.lemmas.Bool.{false≢true}
use Rattle.std.proofs.lemmas.Slice.Eq.{bytes_eq-Decides}
use Rattle.std.specs.Option.{is_some}
use Rattle.clap.specs.Words.{Row, Text, subcommand_of}
use Rattle.pbfcut_cli.specs.Endings.{ending_status}
use Rattle.pbfcut_cli.specs.Joined.{normalized}
use Rattle.pbfcut_cli.specs.Words.{AreTaken, IsRead, ReadsAs, is_given, program_app}
use Rattle.pbfcut_cli.specs.declared.endings.Ending.{Ending}
use Rattle.pbfcut_cli.specs.declared.programs.Program.{Program}
use Rattle.pbfcut_cli.specs.declared.words.Command.{Command}
use Rattle.pbfcut_cli.specs.declared.words.Command.TheVariants.{Blobs, Info, Show, Check, Convert, Pack, Unpack, Extract, ExtractEach, Help}
use Rattle.pbfcut_cli.specs.declared.words.ConfigFiles.{ConfigFiles}
use Rattle.pbfcut_cli.specs.declared.words.Files.{Files}
use Rattle.pbfcut_cli.specs.declared.words.Region.{Region}
use Rattle.pbfcut_cli.specs.declared.words.Strategy.{Strategy}
use Rattle.pbfcut_program.proofs.Meaning.{not_asked}
use Rattle.pbfcut_program.specs.Events.{Event}
use Rattle.pbfcut_program.specs.Program.{Does, IsRun, RunsExtract, Writes, manner_in}
use Rattle.pbfcut_program.specs.Changes.{EndsWell}
use Rattle.pbfcut_program.specs.SeveralWrites.{RunsExtractEach, strategy_with}
use Rattle.pbfcut_program.specs.Files.{Disk}
use Rattle.pbfcut.specs.Tasks.{Task, converting, copying}

no_zero : (how : Ending) → 0 ≡ ending_status how → ⊥
no_zero how e = grind arith

-- two names that aren't the same
differ : (a b : List ℕ) → bytes_eq a b ≡ false → a ≡ b → ⊥
differ a b not same = true_false (sym ((bytes_eq-Decides a b).1 same) ∙ not) where
  true_false : true ≡ false → ⊥
  true_false e = cc

-- the command that these rows mean, and what it did
pub record RunsRegion (program : Program) (rows : List Row) (events : List Event) : Type 0 where
  pub cut : Region
  pub by : Strategy
  pub files : Files
  pub reads : ReadsAs (codes "extract") rows (Extract cut by files)
  pub extracts : RunsExtract (manner_in program (Extract cut by files)) cut by files events

-- the same of a configuration
pub record RunsConfigured (program : Program) (rows : List Row) (events : List Event) : Type 0 where
  pub parents : Bool
  pub files : ConfigFiles
  pub reads : ReadsAs (codes "extract") rows (ExtractEach parents files)
  pub extracts : RunsExtractEach (manner_in program (ExtractEach parents files)) (strategy_with parents) files events

-- the same of one that converts or copies
pub record RunsWriting (program : Program) (name : List ℕ) (rows : List Row) (events : List Event) (command : Files → Command) (task : Task) : Type 0 where
  pub files : Files
  pub reads : ReadsAs name rows (command files)
  pub writes : Writes (manner_in program (command files)) task files events

-- the command that they mean is one of these, and this holds of it
pub record IsOneOf {K : Type 0} (command : K → Command) (name : List ℕ) (rows : List Row) (p : Command → Type 0) : Type 0 where
  pub words : K
  pub reads : ReadsAs name rows (command words)
  pub holds : p (command words)

-- `extract` with a region
abbrev pub Cut : Type 0
Cut = Region × Strategy × Files

abbrev pub extract_of : Cut → Command
extract_of cut = Extract cut.0 cut.1 cut.2

-- with a configuration
abbrev pub Configured : Type 0
Configured = Bool × ConfigFiles

abbrev pub each_of : Configured → Command
each_of words = ExtractEach words.0 words.1

module _ (rows : List Row) (p : Command → Type 0) where
  pub extract_is : is_given (codes "config") rows ≡ false → (command : Command) → ReadsAs (codes "extract") rows command → p command → IsOneOf extract_of (codes "extract") rows p
  extract_is plain (Extract cut by files) r x = record { words = (cut, by, files); reads = r; holds = x }
  extract_is plain (ExtractEach parents files) r x = absurd (false≢true (sym plain ∙ ap (λ o. is_some o) r.2.config))
  extract_is plain (Blobs input) r x = absurd (differ (codes "extract") (codes "blobs") refl r.0)
  extract_is plain (Info input json) r x = absurd (differ (codes "extract") (codes "info") refl r.0)
  extract_is plain (Show input dates progress) r x = absurd (differ (codes "extract") (codes "show") refl r.0)
  extract_is plain (Check input progress digests) r x = absurd (differ (codes "extract") (codes "check") refl r.0)
  extract_is plain (Convert files) r x = absurd (differ (codes "extract") (codes "convert") refl r.0)
  extract_is plain (Pack files) r x = absurd (differ (codes "extract") (codes "pack") refl r.0)
  extract_is plain (Unpack files) r x = absurd (differ (codes "extract") (codes "unpack") refl r.0)
  extract_is plain (Help text) r x = absurd r

  pub configured_is : is_given (codes "config") rows ≡ true → (command : Command) → ReadsAs (codes "extract") rows command → p command → IsOneOf each_of (codes "extract") rows p
  configured_is given (ExtractEach parents files) r x = record { words = (parents, files); reads = r; holds = x }
  configured_is given (Extract cut by files) r x = absurd (false≢true (sym r.1 ∙ given))
  configured_is given (Blobs input) r x = absurd (differ (codes "extract") (codes "blobs") refl r.0)
  configured_is given (Info input json) r x = absurd (differ (codes "extract") (codes "info") refl r.0)
  configured_is given (Show input dates progress) r x = absurd (differ (codes "extract") (codes "show") refl r.0)
  configured_is given (Check input progress digests) r x = absurd (differ (codes "extract") (codes "check") refl r.0)
  configured_is given (Convert files) r x = absurd (differ (codes "extract") (codes "convert") refl r.0)
  configured_is given (Pack files) r x = absurd (differ (codes "extract") (codes "pack") refl r.0)
  configured_is given (Unpack files) r x = absurd (differ (codes "extract") (codes "unpack") refl r.0)
  configured_is given (Help text) r x = absurd r

  pub convert_is : (command : Command) → ReadsAs (codes "convert") rows command → p command → IsOneOf Convert (codes "convert") rows p
  convert_is (Convert files) r x = record { words = files; reads = r; holds = x }
  convert_is (Pack files) r x = absurd (differ (codes "convert") (codes "pack") refl r.0)
  convert_is (Unpack files) r x = absurd (differ (codes "convert") (codes "unpack") refl r.0)
  convert_is (Extract cut by files) r x = absurd (differ (codes "convert") (codes "extract") refl r.0)
  convert_is (ExtractEach parents files) r x = absurd (differ (codes "convert") (codes "extract") refl r.0)
  convert_is (Blobs input) r x = absurd (differ (codes "convert") (codes "blobs") refl r.0)
  convert_is (Info input json) r x = absurd (differ (codes "convert") (codes "info") refl r.0)
  convert_is (Show input dates progress) r x = absurd (differ (codes "convert") (codes "show") refl r.0)
  convert_is (Check input progress digests) r x = absurd (differ (codes "convert") (codes "check") refl r.0)
  convert_is (Help text) r x = absurd r

  pub pack_is : (command : Command) → ReadsAs (codes "pack") rows command → p command → IsOneOf Pack (codes "pack") rows p
  pack_is (Pack files) r x = record { words = files; reads = r; holds = x }
  pack_is (Convert files) r x = absurd (differ (codes "pack") (codes "convert") refl r.0)
  pack_is (Unpack files) r x = absurd (differ (codes "pack") (codes "unpack") refl r.0)
  pack_is (Extract cut by files) r x = absurd (differ (codes "pack") (codes "extract") refl r.0)
  pack_is (ExtractEach parents files) r x = absurd (differ (codes "pack") (codes "extract") refl r.0)
  pack_is (Blobs input) r x = absurd (differ (codes "pack") (codes "blobs") refl r.0)
  pack_is (Info input json) r x = absurd (differ (codes "pack") (codes "info") refl r.0)
  pack_is (Show input dates progress) r x = absurd (differ (codes "pack") (codes "show") refl r.0)
  pack_is (Check input progress digests) r x = absurd (differ (codes "pack") (codes "check") refl r.0)
  pack_is (Help text) r x = absurd r

  pub unpack_is : (command : Command) → ReadsAs (codes "unpack") rows command → p command → IsOneOf Unpack (codes "unpack") rows p
  unpack_is (Unpack files) r x = record { words = files; reads = r; holds = x }
  unpack_is (Convert files) r x = absurd (differ (codes "unpack") (codes "convert") refl r.0)
  unpack_is (Pack files) r x = absurd (differ (codes "unpack") (codes "pack") refl r.0)
  unpack_is (Extract cut by files) r x = absurd (differ (codes "unpack") (codes "extract") refl r.0)
  unpack_is (ExtractEach parents files) r x = absurd (differ (codes "unpack") (codes "extract") refl r.0)
  unpack_is (Blobs input) r x = absurd (differ (codes "unpack") (codes "blobs") refl r.0)
  unpack_is (Info input json) r x = absurd (differ (codes "unpack") (codes "info") refl r.0)
  unpack_is (Show input dates progress) r x = absurd (differ (codes "unpack") (codes "show") refl r.0)
  unpack_is (Check input progress digests) r x = absurd (differ (codes "unpack") (codes "check") refl r.0)
  unpack_is (Help text) r x = absurd r

module _ (program : Program) (rows : List Row) (events : List Event) where
  extract_done : is_given (codes "config") rows ≡ false → (command : Command) → ReadsAs (codes "extract") rows command → Does (manner_in program command) command events → RunsRegion program rows events
  extract_done plain command r d =
      let x = extract_is rows (λ c. Does (manner_in program c) c events) plain command r d in
      record { cut = x.words.0; by = x.words.1; files = x.words.2; reads = x.reads; extracts = x.holds }

  configured_done : is_given (codes "config") rows ≡ true → (command : Command) → ReadsAs (codes "extract") rows command → Does (manner_in program command) command events → RunsConfigured program rows events
  configured_done given command r d =
      let x = configured_is rows (λ c. Does (manner_in program c) c events) given command r d in
      record { parents = x.words.0; files = x.words.1; reads = x.reads; extracts = x.holds }

  convert_done : (command : Command) → ReadsAs (codes "convert") rows command → Does (manner_in program command) command events → RunsWriting program (codes "convert") rows events Convert converting
  convert_done command r d =
      let x = convert_is rows (λ c. Does (manner_in program c) c events) command r d in
      record { files = x.words; reads = x.reads; writes = x.holds }

  pack_done : (command : Command) → ReadsAs (codes "pack") rows command → Does (manner_in program command) command events → RunsWriting program (codes "pack") rows events Pack copying
  pack_done command r d =
      let x = pack_is rows (λ c. Does (manner_in program c) c events) command r d in
      record { files = x.words; reads = x.reads; writes = x.holds }

  unpack_done : (command : Command) → ReadsAs (codes "unpack") rows command → Does (manner_in program command) command events → RunsWriting program (codes "unpack") rows events Unpack copying
  unpack_done command r d =
      let x = unpack_is rows (λ c. Does (manner_in program c) c events) command r d in
      record { files = x.words; reads = x.reads; writes = x.holds }

  -- what was done is what the words mean
  ran : {Runs : Type 0} (name : List ℕ) (words : List Text) → ((command : Command) → ReadsAs name rows command → Does (manner_in program command) command events → Runs)
      → AreTaken program (normalized words) → subcommand_of (program_app program) (normalized words) ≡ Some (name, rows) → IsRun program words events 0 → Runs
  ran name words done t s (inr f) = absurd (no_zero f.how f.status_is)
  ran name words done t s (inl (z, (command, inl r, d))) = done command (subst (λ x. IsRead x command) s r.1) d
  ran name words done t s (inl (z, (command, inr h, d))) = absurd (not_asked program (normalized words) t h.0)

  pub run_extracts : (words : List Text) → is_given (codes "config") rows ≡ false → AreTaken program (normalized words) → subcommand_of (program_app program) (normalized words) ≡ Some (codes "extract", rows) → IsRun program words events 0 → RunsRegion program rows events
  run_extracts words plain = ran (codes "extract") words (extract_done plain)

  module _ (words : List Text) (disk : Disk) (file : List ℕ) where
    pub extract_ran : is_given (codes "config") rows ≡ false → EndsWell program words (codes "extract") rows events disk file → RunsRegion program rows events
    extract_ran plain e = run_extracts words plain e.taken e.command e.run

    pub configured_ran : is_given (codes "config") rows ≡ true → EndsWell program words (codes "extract") rows events disk file → RunsConfigured program rows events
    configured_ran given e = ran (codes "extract") words (configured_done given) e.taken e.command e.run

    pub convert_ran : EndsWell program words (codes "convert") rows events disk file → RunsWriting program (codes "convert") rows events Convert converting
    convert_ran e = ran (codes "convert") words convert_done e.taken e.command e.run

    pub pack_ran : EndsWell program words (codes "pack") rows events disk file → RunsWriting program (codes "pack") rows events Pack copying
    pack_ran e = ran (codes "pack") words pack_done e.taken e.command e.run

    pub unpack_ran : EndsWell program words (codes "unpack") rows events disk file → RunsWriting program (codes "unpack") rows events Unpack copying
    unpack_ran e = ran (codes "unpack") words unpack_done e.taken e.command e.run
