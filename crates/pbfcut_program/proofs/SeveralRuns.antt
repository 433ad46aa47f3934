-- What each program's call for several areas says of each of them.
use Rattle.std.proofs.Common.{◌≡◌, ◌⊎◌, inl, inr, ℕ, ◌+◌, List, [], length, map, Option, Result, Ok, Err, refl, sym, subst, ◌∙◌, arith}
use Rattle.osm_area.specs.Area.{AreaSpec}
use Rattle.pbf_frame.specs.declared.device.Feed as feed
use Rattle.pbf_frame.specs.declared.device.Drain as drain
use Rattle.pbf_frame.specs.declared.stop.Stop.{Stop}
use Rattle.pbf_frame.specs.declared.stop.Stop.TheVariants as stop
use Rattle.pbf_frame.specs.Devices.{IsFront}
use Rattle.pbf_pass.specs.declared.hashing.PassCheck.{PassCheck}
use Rattle.pbf_pass.specs.declared.receipt.Halt.{Halt}
use Rattle.pbf_pass.specs.Refused.{stop_of}
use Rattle.pbf_pass.specs.Stops.{Caused, WriteFailed}
use Rattle.pbf_unpack.specs.Unpacked.{unpacked}
use Rattle.pbf_wire.specs.declared.fault.Fault.{Fault}
use Rattle.pbf_published.specs.declared.input.PublishedHalt.{PublishedHalt}
use Rattle.pbf_published.specs.declared.running_each.PublishedDigests.{PublishedDigests}
use Rattle.pbf_published.specs.Published.{UnlessChanged, raw_of}
use Rattle.pbf_published.specs.PublishedEach.{DoesPublishedEach, HaltsPublished, input_with}
use Rattle.pbf_published.proofs.EachLemmas.{length_used}
use Rattle.pbfcut.specs.declared.carrying.AreaOutput.{AreaOutput}
use Rattle.pbfcut.specs.declared.carrying.EachReceipt.{EachReceipt}
use Rattle.pbfcut.specs.declared.extracting_each.EachStrategy.{EachStrategy}
use Rattle.pbfcut.specs.Calls.{AllSupply, drained, supply_of, used}
use Rattle.pbfcut.specs.EachReceipts.{ExtractsAreas, each_strategy, receipt_of}
use Rattle.pbfcut.specs.Several.{AnyZip, OutputFailed}
use Rattle.pbfcut.specs.Tasks.{Task, answer_of, extracting, judge_of, spares_by}
use Rattle.pbfcut.proofs.EachTaskLemmas.{HaltsTask, each_does, each_halts, each_outs, each_wrote}
use Rattle.pbfcut.proofs.SeveralLemmas.{zip_weaker}
use Rattle.pbfcut_cli.specs.declared.endings.Ending.{Ending}
use Rattle.pbfcut_cli.specs.declared.endings.Ending.TheVariants as ending
use Rattle.pbfcut_cli.specs.declared.programs.Program.{Program}
use Rattle.pbfcut_cli.specs.declared.programs.Program.TheVariants.{Pbfcut, Pbfcutz}
use Rattle.pbfcut_program.specs.declared.engine.Engine.{Engine}
use Rattle.pbfcut_program.specs.declared.engine.Halted.{Halted}
use Rattle.pbfcut_program.specs.declared.engine.Report.{Report}
use Rattle.pbfcut_program.specs.declared.several.InputDigests.{InputDigests}
use Rattle.pbfcut_program.specs.Devices.{AreFresh, EndsFor, RunsTask, Wholes}
use Rattle.pbfcut_program.specs.Fails.{EndsAsStop}
use Rattle.pbfcut_program.specs.Manner.{Form, check_in, input_form, manner_of, meant, packed_file, raw_file}
use Rattle.pbfcut_program.specs.Several.{ReportsPublishedEach, ReportsRawEach, RunsArea, RunsEach, report_with}
use Rattle.pbfcut_program.proofs.FrontLemmas.{published_front, raws_are}
use Rattle.pbfcut_program.proofs.PublishedCalls.{supplies_are}
use Rattle.pbfcut_program.proofs.TaskRuns.{runs_published, runs_raw}

-- ---- an ending that is a failed write

write_ending : (program : Program) (how : Ending) → EndsAsStop program stop.Write how → how ≡ ending.Stopped stop.Write
write_ending program how ends = grind arith

-- whatever else is said of it, it is one
same_write : (program : Program) (how : Ending) (s : Stop) → EndsAsStop program s how → EndsAsStop program stop.Write how → s ≡ stop.Write
same_write program how s ends wrote = sym (subst (λ h. EndsAsStop program s h) (write_ending program how wrote) ends)

write_or_not : (s : Stop) → (s ≡ stop.Write) ⊎ (s ≡ stop.Write → ⊥)
write_or_not stop.Write = inl refl
write_or_not (stop.Refused e) = inr (λ same. cc)
write_or_not stop.Read = inr (λ same. cc)
write_or_not stop.Memory = inr (λ same. cc)
write_or_not (stop.Changed n) = inr (λ same. cc)

-- a write failed for another reason
any_caused : (refused : Fault → Type 0) (read wrote any : Type 0) (changed : ℕ → Type 0) (s : Stop) → (s ≡ stop.Write → any) → Caused refused read wrote changed s → Caused refused read any changed s
any_caused refused read wrote any changed (stop.Refused e) own caused = caused
any_caused refused read wrote any changed stop.Read own caused = caused
any_caused refused read wrote any changed stop.Write own caused = own refl
any_caused refused read wrote any changed stop.Memory own caused = caused
any_caused refused read wrote any changed (stop.Changed n) own caused = caused

pub whole_or_not : (form : Form) (task : Task) (has : List (Option (List ℕ))) (before after : Option (List ℕ)) (halted : Halted) → Wholes {A = Report} form task has before after (Err halted)
whole_or_not raw_file task has before after halted = tt
whole_or_not packed_file task has before after halted = tt

not_changed : (n : ℕ) → stop.Changed n ≡ stop.Write → ⊥
not_changed n same = cc

module _ {F D : Type 0} (f : feed.Ghosts F) (d : drain.Ghosts D) (engine : Engine) (key : ℕ) (by : PassCheck) (check : by ≡ check_in engine key) (olds news : List F) (many : length news ≡ length olds) where
  supplied : (bytes : List ℕ) → AllSupply bytes (map f.remaining olds) → AllSupply bytes (map supply_of (used f olds news))
  supplied bytes all = subst (λ has. AllSupply bytes has) (sym (supplies_are f olds news many)) all

  -- ---- one area

  module _ (task : Task) (any : Type 0) (out out_now : D) where
    abbrev Ran : Result Report Halted → Type 0
    Ran result = RunsTask (manner_of engine) (check_in engine key) f d task olds news out out_now result

    abbrev RanArea : Result Report Halted → Type 0
    RanArea result = RunsArea (manner_of engine) (check_in engine key) f d task olds news any out out_now result

    area_done : (report : Report) → Ran (Ok report) → RanArea (Ok report)
    area_done report ran = record { works = ran.works; front = ran.front; whole = ran.whole }

    module _ (halted : Halted) where
      abbrev Front : (List ℕ → List ℕ) → Type 0
      Front meaning = (bytes : List ℕ) → AllSupply bytes (map f.remaining olds) → IsFront (d.taken out) (d.taken out_now) (answer_of task (meaning bytes))

      -- what a run for only this area says, if its own drain failed, and the reason for which one failed
      area_halted : (s : Stop) → EndsAsStop engine.program s halted.ending → (s ≡ stop.Write → any) → ((s ≡ stop.Write → WriteFailed d out out_now) → Ran (Err halted)) → Front (meant (input_form engine.program)) → RanArea (Err halted)
      area_halted s ends own alone front = record { works = λ fresh log start. works fresh log start (write_or_not s); front = front; whole = whole_or_not (input_form engine.program) task (map f.remaining olds) (d.taken out) (d.taken out_now) halted } where
        works : AreFresh f olds → (log : ℕ) → d.has_taken out log [] → ((s ≡ stop.Write) ⊎ (s ≡ stop.Write → ⊥)) → EndsFor engine.program f (judge_of task) olds news (d.has_taken out_now log []) any halted.ending
        works fresh log start (inl wrote) = (stop.Write, subst (λ t. EndsAsStop engine.program t halted.ending) wrote ends, own wrote)
        works fresh log start (inr not) =
            let e = (alone (λ wrote. absurd (not wrote))).works fresh log start in
            (e.0, e.1, any_caused _ _ _ any _ e.0 (λ wrote. absurd (not (same_write engine.program halted.ending s ends (subst (λ t. EndsAsStop engine.program t halted.ending) wrote e.1)))) e.2)

      area_raw : (halt : Halt) → engine.program ≡ Pbfcut → HaltsTask task (used f olds news) (drained d out out_now) by halt → (stop_of halt ≡ stop.Write → any) → halted.ending ≡ ending.Stopped (stop_of halt) → RanArea (Err halted)
      area_raw halt is halts own ends =
          area_halted (stop_of halt) (subst (λ how. EndsAsStop engine.program (stop_of halt) how) (sym ends) refl) own (λ failed. runs_raw f d engine key by check task olds news many out out_now (Err halted) (Err halt) is (halts.alone failed) ends)
          (subst (λ p. Front (meant (input_form p))) (sym is) (λ bytes all. halts.beginning bytes (supplied bytes all)))

      module _ (h : PublishedHalt) (halts : HaltsPublished task (used f olds news) (drained d out out_now) by h) (ends : EndsAsStop Pbfcutz h.stop halted.ending) where
        abbrev Raws : Type 0
        Raws = (b : List ℕ) → AllSupply b (map raw_of (map supply_of (used f olds news))) → IsFront (d.taken out) (d.taken out_now) (answer_of task b)

        given : (s : Stop) → h.stop ≡ s → UnlessChanged Raws s
        given s is = subst (λ t. UnlessChanged Raws t) is halts.beginning

        went : Raws → Front unpacked
        went front = λ bytes all. front (unpacked bytes) (raws_are bytes _ (supplied bytes all))

        -- whatever stopped it: a change it was not, if the feeds had the same bytes
        front_of : (s : Stop) → h.stop ≡ s → Front unpacked
        front_of (stop.Refused e) is = went (given (stop.Refused e) is)
        front_of stop.Read is = went (given stop.Read is)
        front_of stop.Write is = went (given stop.Write is)
        front_of stop.Memory is = went (given stop.Memory is)
        front_of (stop.Changed n) is = published_front f d out out_now by task (Err halted) olds news (Err h) many (halts.alone (λ wrote. absurd (not_changed n (sym is ∙ wrote)))) ends

        area_published : engine.program ≡ Pbfcutz → (h.stop ≡ stop.Write → any) → RanArea (Err halted)
        area_published is own =
            area_halted h.stop (subst (λ p. EndsAsStop p h.stop halted.ending) (sym is) ends) own (λ failed. runs_published f d engine key by check task olds news many out out_now (Err halted) (Err h) is (halts.alone failed) ends)
            (subst (λ p. Front (meant (input_form p))) (sym is) (front_of h.stop refl))

  -- ---- all of them

  module _ {A : Type 0} (s : EachStrategy) (area : A → AreaSpec) (count : length olds ≡ spares_by (each_strategy s) + 2) (befores afters : List (AreaOutput A D)) where
    abbrev Runs : Result InputDigests Halted → Type 0
    Runs result = RunsEach (manner_of engine) (check_in engine key) (each_strategy s) area f d olds news befores afters result

    abbrev AnyFails : Type 0
    AnyFails = AnyZip (OutputFailed d) befores afters

    abbrev cut_of : AreaOutput A D → Task
    cut_of output = extracting (each_strategy s) (area output.area)

    feeds_are : length (used f olds news) ≡ spares_by (each_strategy s) + 2
    feeds_are = length_used f olds news many ∙ count

    pub runs_each_raw : (outcome : Result EachReceipt Halt) (result : Result InputDigests Halted) → engine.program ≡ Pbfcut → ExtractsAreas (each_strategy s) area (used f olds news) d by befores afters outcome → ReportsRawEach outcome result → Runs result
    runs_each_raw (Ok receipt) (Ok digests) is cut r = record {
      each = zip_weaker _ _ (λ old new does. area_done (cut_of old) AnyFails old.drain new.drain (report_with digests new.counts)
          (runs_raw f d engine key by check (cut_of old) olds news many old.drain new.drain (Ok (report_with digests new.counts)) (Ok (receipt_of receipt new.counts)) is does (refl, r.0, r.1))) befores afters
          (each_does s area d by befores afters (used f olds news) receipt feeds_are cut);
      outs = each_outs s area d by befores afters (used f olds news) (Ok receipt) cut;
    }
    runs_each_raw (Err halt) (Err halted) is cut r = record {
      each = zip_weaker _ _ (λ old new halts. area_raw (cut_of old) AnyFails old.drain new.drain halted halt is halts (each_wrote s area d by befores afters (used f olds news) halt cut) r) befores afters
          (each_halts s area d by befores afters (used f olds news) halt feeds_are cut);
      outs = each_outs s area d by befores afters (used f olds news) (Err halt) cut;
    }
    runs_each_raw (Ok receipt) (Err halted) is cut r = absurd r
    runs_each_raw (Err halt) (Ok digests) is cut r = absurd r

    pub runs_each_published : (outcome : Result PublishedDigests PublishedHalt) (result : Result InputDigests Halted) → engine.program ≡ Pbfcutz → DoesPublishedEach (each_strategy s) area (used f olds news) d by befores afters outcome → ReportsPublishedEach outcome result → Runs result
    runs_each_published (Ok receipt) (Ok digests) is does r = record {
      each = zip_weaker _ _ (λ old new one. area_done (cut_of old) AnyFails old.drain new.drain (report_with digests new.counts)
          (runs_published f d engine key by check (cut_of old) olds news many old.drain new.drain (Ok (report_with digests new.counts)) (Ok (input_with receipt new.counts)) is one (refl, r.0, r.1))) befores afters does.each;
      outs = does.outs;
    }
    runs_each_published (Err h) (Err halted) is does r = record {
      each = zip_weaker _ _ (λ old new one. area_published (cut_of old) AnyFails old.drain new.drain halted h one r is does.wrote) befores afters does.halted;
      outs = does.outs;
    }
    runs_each_published (Ok receipt) (Err halted) is does r = absurd r
    runs_each_published (Err h) (Ok digests) is does r = absurd r
