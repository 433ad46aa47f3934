-- What a call over published files says of each of several areas, from what the call over raw files says.
use Rattle.std.proofs.Common.{◌≡◌, inl, inr, ℕ, zero, suc, ◌+◌, ◌-◌, ◌<◌, Bool, true, false, List, [], ◌∷◌, length, map, Result, Ok, Err, refl, sym, ap, subst, ◌∙◌, arith}
use Rattle.osm_area.specs.Area.{AreaSpec}
use Rattle.pbf_frame.specs.declared.device.Feed as feed
use Rattle.pbf_frame.specs.declared.device.Drain as drain
use Rattle.pbf_frame.specs.declared.stop.Stop.{Stop}
use Rattle.pbf_frame.specs.declared.stop.Stop.TheVariants as stop
use Rattle.pbf_pass.specs.Hashing.{raw_check}
use Rattle.pbf_pass.specs.declared.hashing.PassCheck.{PassCheck}
use Rattle.pbf_pass.specs.declared.receipt.Halt.{Halt}
use Rattle.pbf_pass.specs.declared.receipt.InputReceipt.{InputReceipt}
use Rattle.pbf_pass.specs.Refused.{stop_of}
use Rattle.pbfcut.specs.declared.carrying.AreaOutput.{AreaOutput}
use Rattle.pbfcut.specs.declared.carrying.EachReceipt.{EachReceipt}
use Rattle.pbfcut.specs.declared.extracting_each.EachStrategy.{EachStrategy}
use Rattle.pbfcut.specs.declared.extracting_each.EachStrategy.TheVariants as each
use Rattle.pbfcut.specs.Calls.{DrainUse, FeedUse, drained, used}
use Rattle.pbfcut.specs.EachReceipts.{ExtractsAreas, each_strategy, receipt_of}
use Rattle.pbfcut.specs.TaskCalls.{DoesTask}
use Rattle.pbfcut.specs.Tasks.{Task, answer_of, extracting, spares, spares_by}
use Rattle.pbfcut.proofs.EachTaskLemmas.{HaltsTask, each_does, each_halts, each_outs, each_wrote}
use Rattle.pbfcut.proofs.SeveralLemmas.{zip_weaker}
use Rattle.pbf_published.specs.declared.input.PublishedHalt.{PublishedHalt}
use Rattle.pbf_published.specs.Published.{FrontUnlessChanged, ReportsOutcome, told_by}
use Rattle.pbf_published.specs.PublishedEach.{DoesPublishedEach, HaltsPublished}
use Rattle.pbf_published.specs.PublishedTasks.{AreOpened, DigestsDiffer, DoesPublished, FailBelow, OtherDigest, ShareDigest, skipped_of}
use Rattle.pbf_published.proofs.PublishedLemmas.{unless_changed}
use Rattle.pbf_published.proofs.TaskLemmas.{supply_above, task_changed, task_done, task_stopped}

-- ---- a stop that is a failed write

told_write : (lacks : Bool) → told_by lacks stop.Write ≡ stop.Write
told_write true = refl
told_write false = refl

-- a failed write is reported only of one
write_told : (lacks : Bool) (s : Stop) → told_by lacks s ≡ stop.Write → s ≡ stop.Write
write_told lacks s is = grind (arith, told_by lacks s)

-- a stop for other bytes has the number of a pass
other_changed : {F U : Type 0} (f : feed.Ghosts F) (u : feed.Ghosts U) (below : U → F) (skipped : ℕ) (digest : List ℕ) (number : ℕ) (feeds : List U) (s : Stop) → OtherDigest f u below skipped digest number feeds s → (n : ℕ) × (s ≡ stop.Changed n)
other_changed f u below skipped digest number [] s other = absurd other
other_changed f u below zero digest number (one ∷ more) s (inl o) = (number, o.0)
other_changed f u below zero digest number (one ∷ more) s (inr o) = other_changed f u below 0 digest (number + 1) more s o
other_changed f u below (suc skipped) digest number (one ∷ more) s other = other_changed f u below skipped digest (number + 1) more s other

differ_changed : {F U : Type 0} (f : feed.Ghosts F) (u : feed.Ghosts U) (below : U → F) (skipped : ℕ) (first : U) (later : List U) (s : Stop) → DigestsDiffer f u below skipped (first ∷ later) s → (n : ℕ) × (s ≡ stop.Changed n)
differ_changed f u below skipped first later s (inl none) = (1, none.0)
differ_changed f u below skipped first later s (inr o) = other_changed f u below skipped o.0 2 later s o.2

not_write : (s t : Stop) (n : ℕ) → t ≡ s → s ≡ stop.Changed n → t ≡ stop.Write → ⊥
not_write s t n same changed write = cc

-- ---- one area

front_of : {D : Type 0} (task : Task) (feeds : List FeedUse) (out : DrainUse D) (check : PassCheck) (h : PublishedHalt) → DoesPublished task feeds out check (Err h) → FrontUnlessChanged (answer_of task) feeds out h.stop
front_of task [] out check h does = absurd does
front_of task (first ∷ later) out check h does = does.beginning

pub length_used : {U : Type 0} (u : feed.Ghosts U) (olds news : List U) → length news ≡ length olds → length (used u olds news) ≡ length olds
length_used u [] [] many = refl
length_used u [] (now ∷ news) many = (let bad : ⊥ = omega (arith, many) in absurd bad)
length_used u (old ∷ olds) [] many = (let bad : ⊥ = omega (arith, many) in absurd bad)
length_used u (old ∷ olds) (now ∷ news) many = ap suc (length_used u olds news (omega (arith, many)))

module _ {F U : Type 0} (f : feed.Ghosts F) (u : feed.Ghosts U) (below : U → F) (check : PassCheck) (olds news : List U) (opened : AreOpened f u below check olds) where
  module _ {D : Type 0} (out : DrainUse D) (task : Task) where
    task_halted : (halt : Halt) (lacks : Bool) (h : PublishedHalt) → h.stop ≡ told_by lacks (stop_of halt) → (lacks ≡ false → FailBelow f u below news) → HaltsTask task (used u olds news) out (raw_check check) halt
        → HaltsPublished task (used f (map below olds) (map below news)) out check h
    task_halted halt lacks h tells fail halts = record {
      alone = λ own. task_stopped f u below check out task (Err halt) (Err h) lacks tells olds news h (halts.alone (λ is. own (tells ∙ ap (told_by lacks) is ∙ told_write lacks))) refl opened fail;
      beginning = unless_changed _ h.stop (λ b supply. halts.beginning b (supply_above f u below check olds news b opened supply));
    }

    task_differs : (lasts : List F) (receipt : InputReceipt) (s : Stop) (h : PublishedHalt) → lasts ≡ map below news → length news ≡ length olds → DoesTask task (used u olds news) out (raw_check check) (Ok receipt) → DigestsDiffer f u below (skipped_of receipt.spared (spares task)) news s → h.stop ≡ s
        → HaltsPublished task (used f (map below olds) lasts) out check h
    task_differs lasts receipt s h same many does differ stops =
        let changed = task_changed f u below check out task (Ok receipt) (Ok receipt) false refl olds news lasts receipt s h same does refl opened many differ stops in
        record { alone = λ own. changed; beginning = front_of task (used f (map below olds) lasts) out check h changed }

  -- ---- all of them

  module _ {A D : Type 0} (s : EachStrategy) (area : A → AreaSpec) (d : drain.Ghosts D) (befores afters : List (AreaOutput A D)) (many : length news ≡ length olds) (count : length olds ≡ spares_by (each_strategy s) + 2) where
    abbrev AreCut : Result EachReceipt Halt → Type 0
    AreCut outcome = ExtractsAreas (each_strategy s) area (used u olds news) d (raw_check check) befores afters outcome

    abbrev feeds : List FeedUse
    feeds = used u olds news

    enough : length feeds ≡ spares_by (each_strategy s) + 2
    enough = length_used u olds news many ∙ count

    -- what is said of the call is said of the receipt that is reported
    pub cut_done : (outcome : Result EachReceipt Halt) (receipt : EachReceipt) (lacks : Bool) → ReportsOutcome lacks outcome (Ok receipt) → AreCut outcome → AreCut (Ok receipt)
    cut_done (Ok own) receipt lacks tells cut = subst (λ (r : EachReceipt). AreCut (Ok r)) (sym tells) cut
    cut_done (Err halt) receipt lacks tells cut = absurd tells

    pub each_done : (receipt : EachReceipt) (lasts : List F) (digest : List ℕ) → lasts ≡ map below news → AreCut (Ok receipt) → ShareDigest f u below (skipped_of receipt.spared (spares_by (each_strategy s))) digest news
        → DoesPublishedEach (each_strategy s) area (used f (map below olds) lasts) d check befores afters (Ok (record { input = digest; raw = receipt.input }))
    each_done receipt lasts digest same cut share = record {
      each = zip_weaker _ _ (λ old new does. task_done f u below check (drained d old.drain new.drain) (extracting (each_strategy s) (area old.area)) (Ok (receipt_of receipt new.counts)) (Ok (receipt_of receipt new.counts)) false refl
          olds news lasts (receipt_of receipt new.counts) digest same does refl opened share) befores afters (each_does s area d (raw_check check) befores afters feeds receipt enough cut);
      halted = tt;
      wrote = tt;
      outs = each_outs s area d (raw_check check) befores afters feeds _ cut;
    }

    pub each_stopped : (outcome : Result EachReceipt Halt) (lacks : Bool) (h : PublishedHalt) → ReportsOutcome lacks outcome (Err h) → AreCut outcome → (lacks ≡ false → FailBelow f u below news)
        → DoesPublishedEach (each_strategy s) area (used f (map below olds) (map below news)) d check befores afters (Err h)
    each_stopped (Ok receipt) lacks h tells cut fail = absurd tells
    each_stopped (Err halt) lacks h tells cut fail = record {
      each = tt;
      halted = zip_weaker _ _ (λ old new halts. task_halted (drained d old.drain new.drain) (extracting (each_strategy s) (area old.area)) halt lacks h tells fail halts) befores afters
          (each_halts s area d (raw_check check) befores afters feeds halt enough cut);
      wrote = λ is. each_wrote s area d (raw_check check) befores afters feeds halt cut (write_told lacks (stop_of halt) (sym tells ∙ is));
      outs = each_outs s area d (raw_check check) befores afters feeds _ cut;
    }

    pub each_differs : (receipt : EachReceipt) (lasts : List F) (why : Stop) (h : PublishedHalt) → lasts ≡ map below news → AreCut (Ok receipt) → DigestsDiffer f u below (skipped_of receipt.spared (spares_by (each_strategy s))) news why → ((n : ℕ) × (why ≡ stop.Changed n)) → h.stop ≡ why
        → DoesPublishedEach (each_strategy s) area (used f (map below olds) lasts) d check befores afters (Err h)
    each_differs receipt lasts why h same cut differ changed stops = record {
      each = tt;
      halted = zip_weaker _ _ (λ old new does. task_differs (drained d old.drain new.drain) (extracting (each_strategy s) (area old.area)) lasts (receipt_of receipt new.counts) why h same many does differ stops) befores afters
          (each_does s area d (raw_check check) befores afters feeds receipt enough cut);
      wrote = λ is. absurd (not_write why h.stop changed.0 stops changed.1 is);
      outs = each_outs s area d (raw_check check) befores afters feeds _ cut;
    }

-- feeds that differ, of which there is one
pub some_changed : {F U : Type 0} (f : feed.Ghosts F) (u : feed.Ghosts U) (below : U → F) (skipped : ℕ) (feeds : List U) (s : Stop) (n : ℕ) → length feeds ≡ n + 2 → DigestsDiffer f u below skipped feeds s → (n : ℕ) × (s ≡ stop.Changed n)
some_changed f u below skipped [] s n some differ = (let bad : ⊥ = omega (arith, some) in absurd bad)
some_changed f u below skipped (first ∷ later) s n some differ = differ_changed f u below skipped first later s differ

-- ---- how many passes

pub few_feeds : (s : EachStrategy) → spares_by (each_strategy s) < 3
few_feeds each.CompleteWays = omega arith
few_feeds each.AllParents = omega arith

-- all but the first and the last may be spared
pub spares_each : (spares feeds : ℕ) → feeds ≡ spares + 2 → feeds - 2 ≡ spares
spares_each spares feeds is = omega (arith, is)
