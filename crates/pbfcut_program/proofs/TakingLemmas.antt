-- What a command wrote that ended well is made of the one file that its passes read.
use Rattle.std.proofs.Common.{◌≡◌, inl, inr, ℕ, ◌-◌, List, [], ◌∷◌, ◌++◌, map, Bool, Option, Some, None, refl, ap, sym, subst, ◌∙◌, append_assoc}
use Rattle.std.proofs.lemmas.List.{append-nil}
use Rattle.std.specs.Prelude.{IfSome}
use Rattle.osm_area.specs.Area.{AreaSpec}
use Rattle.osm_ways.specs.Selection as selection
use Rattle.pbf_block.specs.declared.counts.Counts.{Counts}
use Rattle.pbf_frame.specs.Devices.{IsAtEnd, prepend}
use Rattle.pbfcut.specs.Theorem.{IsConverted, IsExtraction}
use Rattle.pbfcut_cli.specs.declared.words.Files.{Files}
use Rattle.pbfcut_cli.specs.declared.words.Region.{Region}
use Rattle.pbfcut_cli.specs.declared.words.Strategy.{Strategy}
use Rattle.pbfcut_program.specs.Events.{Event, Reading, read, wrote}
use Rattle.pbfcut_program.specs.Fails.{Each}
use Rattle.pbfcut_program.specs.Manner.{Manner, of_input, of_output}
use Rattle.pbfcut_program.specs.Program.{RunsExtract, Writes, WritesCounts, advice, begun, is_screen, screen_of, strategy_of}
use Rattle.pbfcut_program.specs.Lines.{counts_text, done_lines, prints}
use Rattle.pbfcut_program.specs.Readings.{IsWhole, ReadAll, ReadLater}
use Rattle.pbfcut_program.specs.Taking.{Happened, ReadOf, ReadsOnly, TookConversion, TookCopy, TookExtract, TookWhole}
use Rattle.pbfcut.specs.Tasks.{Task, TaskHolds, converting, copying, extracting}

-- ---- events

each_first : (p : Event → Type 0) (xs ys : List Event) → Each p (xs ++ ys) → Each p xs
each_first p [] ys e = tt
each_first p (x ∷ xs) ys e = (e.0, each_first p xs ys e.1)

each_last : (p : Event → Type 0) (xs ys : List Event) → Each p (xs ++ ys) → Each p ys
each_last p [] ys e = e
each_last p (x ∷ xs) ys e = each_last p xs ys e.1

happened_after : (e : Event) (xs ys : List Event) → Happened e ys → Happened e (xs ++ ys)
happened_after e [] ys h = h
happened_after e (x ∷ xs) ys h = inr (happened_after e xs ys h)

happened_before : (e : Event) (xs ys : List Event) → Happened e xs → Happened e (xs ++ ys)
happened_before e [] ys h = absurd h
happened_before e (x ∷ xs) ys (inl h) = inl h
happened_before e (x ∷ xs) ys (inr h) = inr (happened_before e xs ys h)

-- ---- what was read

pub none_some : {A : Type 0} {a : A} → ◌≡◌ {A = Option A} None (Some a) → ⊥
none_some e = cc

some_same : {A : Type 0} {a b : A} → Some a ≡ Some b → a ≡ b
some_same e = cc

module _ (file : List ℕ) where
  abbrev AllOf : List Reading → Type 0
  AllOf [] = Unit {0}
  AllOf (r ∷ rs) = (prepend r.bytes r.left ≡ Some file) × AllOf rs

  abbrev pub AllAre : List (List ℕ) → Type 0
  AllAre [] = Unit {0}
  AllAre (b ∷ bs) = (b ≡ file) × AllAre bs

  all_of : (rs : List Reading) → Each (ReadOf file) (map (λ r. read r) rs) → AllOf rs
  all_of [] e = tt
  all_of (r ∷ rs) e = (e.0, all_of rs e.1)

  whole_is : (bytes : List ℕ) (left : Option (List ℕ)) → IsAtEnd left → prepend bytes left ≡ Some file → bytes ≡ file
  whole_is bytes None end is = absurd (none_some is)
  whole_is bytes (Some rest) end is = sym (append-nil bytes) ∙ ap (λ r. bytes ++ r) (sym end) ∙ some_same is

  read_is : (known : List ℕ → Type 0) (has : Option (List ℕ)) (r : Reading) (b : List ℕ) → IsWhole known has r b → prepend r.bytes r.left ≡ Some file → b ≡ file
  read_is known has r b w t = sym w.are ∙ whole_is r.bytes r.left w.end t

  later_are : (known : List ℕ → Type 0) (may : ℕ) (first : List ℕ) (has : List (Option (List ℕ))) (rs : List Reading) (bs : List (List ℕ)) → first ≡ file → ReadLater known may first has rs bs → AllOf rs → AllAre bs
  later_are known may first [] [] [] same l t = tt
  later_are known may first (h ∷ hs) (r ∷ rs) (b ∷ bs) same (inl w, l) t = (read_is known h r b w t.0, later_are known (may - 1) first hs rs bs same l t.1)
  later_are known may first (h ∷ hs) (r ∷ rs) (b ∷ bs) same (inr s, l) t = (s.2 ∙ same, later_are known (may - 1) first hs rs bs same l t.1)
  later_are known may first _ _ _ same l t = absurd l

  all_are : (known : List ℕ → Type 0) (may : ℕ) (has : List (Option (List ℕ))) (rs : List Reading) (bs : List (List ℕ)) → ReadAll known may has rs bs → AllOf rs → AllAre bs
  all_are known may (h ∷ hs) (r ∷ rs) (b ∷ bs) w t =
      let same = read_is known h r b w.0 t.0 in
      (same, later_are known may b hs rs bs same w.1 t.1)
  all_are known may _ _ _ w t = absurd w

  -- ---- what was opened

  -- each time that IN was opened it had this file
  abbrev pub AllHad : List (Option (List ℕ)) → Type 0
  AllHad [] = Unit {0}
  AllHad (h ∷ hs) = (h ≡ Some file) × AllHad hs

  opened_is : (known : List ℕ → Type 0) (has : Option (List ℕ)) (r : Reading) (b : List ℕ) → IsWhole known has r b → has ≡ Some file → b ≡ file
  opened_is known has r b w is = sym (subst (λ (h : Option (List ℕ)). IfSome h (λ all. all ≡ b)) is w.opened)

  later_had : (known : List ℕ → Type 0) (may : ℕ) (first : List ℕ) (has : List (Option (List ℕ))) (rs : List Reading) (bs : List (List ℕ)) → first ≡ file → ReadLater known may first has rs bs → AllHad has → AllAre bs
  later_had known may first [] [] [] same l t = tt
  later_had known may first (h ∷ hs) (r ∷ rs) (b ∷ bs) same (inl w, l) t = (opened_is known h r b w t.0, later_had known (may - 1) first hs rs bs same l t.1)
  later_had known may first (h ∷ hs) (r ∷ rs) (b ∷ bs) same (inr s, l) t = (s.2 ∙ same, later_had known (may - 1) first hs rs bs same l t.1)
  later_had known may first _ _ _ same l t = absurd l

  pub all_had : (known : List ℕ → Type 0) (may : ℕ) (has : List (Option (List ℕ))) (rs : List Reading) (bs : List (List ℕ)) → ReadAll known may has rs bs → AllHad has → AllAre bs
  all_had known may (h ∷ hs) (r ∷ rs) (b ∷ bs) w t =
      let same = opened_is known h r b w.0 t.0 in
      (same, later_had known may b hs rs bs same w.1 t.1)
  all_had known may _ _ _ w t = absurd w

  -- ---- what holds of the files that were read holds of the one

  pub holds_extract : (m : Manner) (by : selection.Strategy) (area : AreaSpec) (bs : List (List ℕ)) (counts : Counts) (written : List ℕ) → AllAre bs → TaskHolds (extracting by area) (map (of_input m) bs) counts written → IsExtraction by area (of_input m file) counts written
  holds_extract m by area (b ∷ c ∷ d ∷ []) counts written are h =
      let one = ap (of_input m) are.0 in
      subst (λ (f : List ℕ). IsExtraction by area f counts written) one (h.1 (one ∙ sym (ap (of_input m) are.1.0)) (one ∙ sym (ap (of_input m) are.1.1.0)))
  holds_extract m by area (b ∷ c ∷ d ∷ e ∷ []) counts written are h =
      let one = ap (of_input m) are.0 in
      subst (λ (f : List ℕ). IsExtraction by area f counts written) one (h.1 (one ∙ sym (ap (of_input m) are.1.0)) (one ∙ sym (ap (of_input m) are.1.1.0)) (one ∙ sym (ap (of_input m) are.1.1.1.0)))
  holds_extract m by area [] counts written are h = absurd h
  holds_extract m by area (b ∷ []) counts written are h = absurd h
  holds_extract m by area (b ∷ c ∷ []) counts written are h = absurd h
  holds_extract m by area (b ∷ c ∷ d ∷ e ∷ f ∷ bs) counts written are h = absurd h

  pub holds_convert : (m : Manner) (bs : List (List ℕ)) (counts : Counts) (written : List ℕ) → AllAre bs → TaskHolds converting (map (of_input m) bs) counts written → IsConverted (of_input m file) counts written
  holds_convert m (b ∷ c ∷ []) counts written are h =
      let one = ap (of_input m) are.0 in
      subst (λ (f : List ℕ). IsConverted f counts written) one (h.1 (one ∙ sym (ap (of_input m) are.1.0)))
  holds_convert m [] counts written are h = absurd h
  holds_convert m (b ∷ []) counts written are h = absurd h
  holds_convert m (b ∷ c ∷ d ∷ bs) counts written are h = absurd h

  pub holds_copy : (m : Manner) (bs : List (List ℕ)) (counts : Counts) (written : List ℕ) → AllAre bs → TaskHolds copying (map (of_input m) bs) counts written → written ≡ of_input m file
  holds_copy m (b ∷ c ∷ []) counts written are h = h.1 ∙ ap (of_input m) are.1.0
  holds_copy m [] counts written are h = absurd h
  holds_copy m (b ∷ []) counts written are h = absurd h
  holds_copy m (b ∷ c ∷ d ∷ bs) counts written are h = absurd h

  -- ---- what is known of each command that writes

  module _ (m : Manner) (task : Task) (files : Files) (counts : Counts) (events : List Event) (w : WritesCounts m task files counts events) where
    abbrev is : Bool
    is = is_screen m.program files.output.now

    abbrev first : List Event
    first = begun is files w.has w.key w.makes

    abbrev rs : List Event
    rs = map (λ r. read r) w.rs

    abbrev out : List Event
    out = wrote w.out ∷ w.keeps

    abbrev tail : List Event
    tail = prints (screen_of is) (counts_text counts ∷ done_lines w.known w.meaning w.digest w.raw files.input.now files.output.now)

    -- the files that were read are this one, by what the passes say of it, or by what IN had
    reads_it : ReadsOnly file events → AllAre w.work.files
    reads_it e =
        let parts = subst (λ es. Each (ReadOf file) es) w.happened e in
        let reads = each_last (ReadOf file) first rs (each_first (ReadOf file) (first ++ rs) out (each_first (ReadOf file) ((first ++ rs) ++ out) tail parts)) in
        all_are _ _ w.has w.rs w.work.files w.work.read (all_of w.rs reads)

    had_it : AllHad w.has → AllAre w.work.files
    had_it had = all_had _ _ w.has w.rs w.work.files w.work.read had

    happened : Happened (wrote w.out) events
    happened = subst (λ es. Happened (wrote w.out) es) (sym w.happened) (happened_before _ ((first ++ rs) ++ out) tail (happened_after _ (first ++ rs) out (inl refl)))

    -- OUT took what it has
    abbrev whole_of : (all : List Event) → Happened (wrote w.out) all → TookWhole w.out.bytes all
    whole_of all h = record { out = w.out; happened = h; are = refl; whole = w.whole; kept = w.kept }

  -- ---- of `extract`

  module _ (m : Manner) (cut : Region) (by : Strategy) (files : Files) (events : List Event) (x : RunsExtract m cut by files events) where
    abbrev task : Task
    task = extracting (strategy_of by) x.area

    took_extract : AllAre x.writes.work.files → TookExtract m cut by file events
    took_extract are =
        let w = x.writes in
        let mine = happened m task files x.counts x.after w in
        record {
          area = x.area;
          before = x.before;
          later = x.after ++ advice x.counts;
          happened = x.happened ∙ append_assoc x.before x.after (advice x.counts);
          means = x.means;
          counts = x.counts;
          bytes = w.out.bytes;
          took = whole_of m task files x.counts x.after w events (subst (λ es. Happened (wrote w.out) es) (sym x.happened) (happened_before _ (x.before ++ x.after) (advice x.counts) (happened_after _ x.before x.after mine)));
          extract = holds_extract m (strategy_of by) x.area w.work.files x.counts (of_output m w.out.bytes) are w.work.holds;
        }

    pub extracts_take : ReadsOnly file events → TookExtract m cut by file events
    extracts_take e =
        let parts = subst (λ es. Each (ReadOf file) es) x.happened e in
        took_extract (reads_it m task files x.counts x.after x.writes (each_last (ReadOf file) x.before x.after (each_first (ReadOf file) (x.before ++ x.after) (advice x.counts) parts)))

    pub extracts_had : AllHad x.writes.has → TookExtract m cut by file events
    extracts_had had = took_extract (had_it m task files x.counts x.after x.writes had)

    -- the bytes are those that OUT took, and what is cut out was read first
    pub extract_had : (had : AllHad x.writes.has) → ((extracts_had had).bytes ≡ x.writes.out.bytes) × ((extracts_had had).before ≡ x.before)
    unfolding extracts_had took_extract
    extract_had had = (refl, refl)

  -- ---- of `convert`, `pack` and `unpack`

  module _ (m : Manner) (files : Files) (events : List Event) where
    took_conversion : (w : Writes m converting files events) → AllAre w.1.work.files → TookConversion m file events
    took_conversion w are = record { counts = w.0; bytes = w.1.out.bytes; took = whole_of m converting files w.0 events w.1 events (happened m converting files w.0 events w.1); converted = holds_convert m w.1.work.files w.0 (of_output m w.1.out.bytes) are w.1.work.holds }

    took_copy : (w : Writes m copying files events) → AllAre w.1.work.files → TookCopy m file events
    took_copy w are = record { bytes = w.1.out.bytes; took = whole_of m copying files w.0 events w.1 events (happened m copying files w.0 events w.1); same = holds_copy m w.1.work.files w.0 (of_output m w.1.out.bytes) are w.1.work.holds }

    pub converts_take : Writes m converting files events → ReadsOnly file events → TookConversion m file events
    converts_take w e = took_conversion w (reads_it m converting files w.0 events w.1 e)

    pub copies_take : Writes m copying files events → ReadsOnly file events → TookCopy m file events
    copies_take w e = took_copy w (reads_it m copying files w.0 events w.1 e)

    pub converts_had : (w : Writes m converting files events) → AllHad w.1.has → TookConversion m file events
    converts_had w had = took_conversion w (had_it m converting files w.0 events w.1 had)

    pub copies_had : (w : Writes m copying files events) → AllHad w.1.has → TookCopy m file events
    copies_had w had = took_copy w (had_it m copying files w.0 events w.1 had)

    pub convert_had : (w : Writes m converting files events) → (had : AllHad w.1.has) → (converts_had w had).bytes ≡ w.1.out.bytes
    unfolding converts_had took_conversion
    convert_had w had = refl

    pub copy_had : (w : Writes m copying files events) → (had : AllHad w.1.has) → (copies_had w had).bytes ≡ w.1.out.bytes
    unfolding copies_had took_copy
    copy_had w had = refl
