-- What a call says of each of several extracts, from what its passes say.
use Rattle.std.proofs.Common.{◌≡◌, ℕ, List, [], ◌∷◌, ◌++◌, length, Bool, true, false, Some, None, Result, Ok, Err, IfOk, refl, sym, ap, subst, arith}
use Rattle.std.specs.List.{AllByRecursion, AllZip}
use Rattle.osm_area.specs.Area.{AreaSpec}
use Rattle.osm_ways.specs.Selection.{Strategy, all_parents, complete_ways}
use Rattle.osm_ways.specs.Phases.{KeptSets}
use Rattle.pbf_header.specs.Header.{HeaderSpec, header_of}
use Rattle.pbf_wire.specs.declared.fault.Fault.{Fault}
use Rattle.pbf_frame.specs.declared.device.Feed as feed
use Rattle.pbf_frame.specs.declared.device.Drain as drain
use Rattle.pbf_frame.specs.declared.stop.Stop.{Stop}
use Rattle.pbf_frame.specs.declared.stop.Stop.TheVariants as why
use Rattle.pbf_frame.specs.Verdict.{Verdict}
use Rattle.pbf_pass.specs.declared.hashing.PassCheck.{PassCheck}
use Rattle.pbf_pass.specs.declared.receipt.Halt.{Halt}
use Rattle.pbf_pass.specs.declared.receipt.Halt.TheVariants as halt
use Rattle.pbf_pass.specs.declared.receipt.InputReceipt.{InputReceipt}
use Rattle.pbf_pass.specs.declared.receipt.Passes.{Passes}
use Rattle.pbf_pass.specs.Hashing.{Mark, mark_by}
use Rattle.pbf_pass.specs.Judged.{judged_file}
use Rattle.pbf_pass.specs.Refused.{stop_of}
use Rattle.pbf_pass.specs.HeaderLimit.{HasShortTexts}
use Rattle.pbf_pass.specs.Stops.{Caused}
use Rattle.pbf_pass.proofs.GivenLemmas.{gave_file_less, tells_file}
use Rattle.std.proofs.lemmas.Result.{on_err_weaker}
use Rattle.pbf_pass.proofs.LimitLemmas.{judged_sound}
use Rattle.pbfcut.specs.declared.carrying.AreaChoice.{AreaChoice}
use Rattle.pbfcut.specs.declared.carrying.AreaOutput.{AreaOutput}
use Rattle.pbfcut.specs.declared.carrying.EachReceipt.{EachReceipt}
use Rattle.pbfcut.specs.declared.repeat.LaterPass.{LaterPass}
use Rattle.pbfcut.specs.Calls.{DrainUse, FeedUse, GaveBy, GaveOrNot, KeepsAll, drained, supply_of}
use Rattle.pbfcut.specs.Choosing.{StopsChoosing}
use Rattle.pbfcut.specs.ChoosingEach.{Chose, ChoseParents, ChoseWays, IsSoundFile}
use Rattle.pbfcut.specs.EachReceipts.{ExtractsEach, HaltsOutput, receipt_of, stop_result}
use Rattle.pbfcut.specs.Extracting.{IsChoice}
use Rattle.pbfcut.specs.Kept.{IsWritable}
use Rattle.pbfcut.specs.Pick.{taken_by}
use Rattle.pbfcut.specs.Receipts.{Extracts, Wrote, judge_by}
use Rattle.pbfcut.specs.Theorem.{IsExtraction}
use Rattle.pbfcut.specs.Repeat.{StopsLater, digest_of}
use Rattle.pbfcut.specs.Several.{AllThree, KeepsOutput, OutputBegan, OutputTook, WritesEach}
use Rattle.pbfcut.specs.Write.{WritesChoice}
use Rattle.pbfcut.proofs.ChosenLemmas.{extracts_by, if_ok_both, wrote_extract, wrote_front}
use Rattle.pbfcut.proofs.ConvertingLemmas.{known_says, nothing_out}
use Rattle.pbfcut.proofs.ExtractingLemmas.{Selects, selects_chosen, selects_parents}
use Rattle.pbfcut.proofs.KeptLaw.{same_verdict}
use Rattle.pbfcut.proofs.LaterLemmas.{choosing_ends, keeps_more, writing_ends}
use Rattle.pbfcut.proofs.SeveralLemmas.{all_units, three_weaker, three_with, zip_both, zip_length, zip_right, zip_same, zip_weaker}
use Rattle.pbfcut.proofs.TheoremLemmas.{gave_or_less, gave_or_not, told_or_not, took_weaker}

-- ---- a file that is given, and what holds of each place

gave_or_not_each : {X Y : Type 0} (second : FeedUse) (spared : Bool) (digest : Mark) (b : List ℕ) (R : List ℕ → X → Y → Type 0) (xs : List X) (ys : List Y) → GaveOrNot second spared digest b (λ c. AllZip (R c) xs ys) → AllZip (λ x y. GaveOrNot second spared digest b (λ c. R c x y)) xs ys
gave_or_not_each second true digest b R xs ys given = zip_weaker (R b) _ (λ x y r. (given.0, r)) xs ys given.1
gave_or_not_each second false digest b R xs ys given = zip_weaker (R given.file) _ (λ x y r. record { file = given.file; supplied = given.supplied; digest_is = given.digest_is; holding = r }) xs ys given.holding

pub gave_each : {X Y : Type 0} (first second : FeedUse) (spared : Bool) (digest : Mark) (R : List ℕ → List ℕ → X → Y → Type 0) (xs : List X) (ys : List Y) → GaveBy first digest (λ b. GaveOrNot second spared digest b (λ c. AllZip (R b c) xs ys))
    → AllZip (λ x y. GaveBy first digest (λ b. GaveOrNot second spared digest b (λ c. R b c x y))) xs ys
gave_each first second spared digest R xs ys given = zip_weaker _ _ (λ x y r. record { file = given.file; supplied = given.supplied; digest_is = given.digest_is; holding = r }) xs ys (gave_or_not_each second spared digest given.file (R given.file) xs ys given.holding)

gave_three : {X Y Z : Type 0} (source : FeedUse) (digest : Mark) (R : List ℕ → X → Y → Z → Type 0) (xs : List X) (ys : List Y) (zs : List Z) → GaveBy source digest (λ file. AllThree (R file) xs ys zs) → AllThree (λ x y z. GaveBy source digest (λ file. R file x y z)) xs ys zs
gave_three source digest R xs ys zs given = three_weaker (R given.file) _ (λ x y z r. record { file = given.file; supplied = given.supplied; digest_is = given.digest_is; holding = r }) xs ys zs given.holding

-- ---- why a pass stopped, by one drain

own_stop : {F : Type 0} (f : feed.Ghosts F) (again : LaterPass) (old new : F) (any own : Type 0) (s : Stop) → (s ≡ why.Write → own) → StopsLater f again old new any s → StopsLater f again old new own s
own_stop f again old new any own (why.Refused e) h stops = stops
own_stop f again old new any own why.Read h stops = stops
own_stop f again old new any own why.Write h stops = h refl
own_stop f again old new any own why.Memory h stops = stops
own_stop f again old new any own (why.Changed n) h stops = stops

wrote_stop : {F : Type 0} (f : feed.Ghosts F) (again : LaterPass) (old new : F) (any : Type 0) (s : Stop) → StopsLater f again old new any s → s ≡ why.Write → any
wrote_stop f again old new any s stops is = subst (λ (t : Stop). StopsLater f again old new any t) is stops

-- ---- one area

-- a sound file can be written
sound_writable : (b : List ℕ) → IsSoundFile b → IsWritable b
sound_writable b sound = ap (λ (v : Verdict). v.1) (same_verdict b sound.frames (judged_sound b sound.frames (known_says b (sound.frames, None) sound.judged) sound.within))

module _ {A D : Type 0} (area : A → AreaSpec) (first second last : FeedUse) (d : drain.Ghosts D) (passes : Passes) (again : LaterPass) (is : again.passes ≡ passes) (number : again.number ≡ 3) (spared : Bool) (keeps : KeepsAll (first ∷ second ∷ [])) where
  abbrev pub GaveOne : AreaOutput A D → AreaChoice → Type 0
  GaveOne output choice = GaveBy first (mark_by passes.check again.digest) (λ b. GaveOrNot second spared (mark_by passes.check again.digest) b (λ c. ChoseWays area b c output choice))

  pub extract_one : (choice : AreaChoice) (old new : AreaOutput A D) (r : Result InputReceipt Halt) → GaveOne old choice → WritesChoice last (drained d old.drain new.drain) again choice.chosen (header_of choice.header) spared r → Extracts complete_ways (area old.area) first (second ∷ []) (last ∷ []) (drained d old.drain new.drain) passes.check r
  extract_one choice old new r gave wrote =
      extracts_by first second last (drained d old.drain new.drain) complete_ways (area old.area) passes again is choice.chosen (header_of choice.header) spared r wrote (λ b c. ChoseWays area b c old choice)
      (λ b c chose. sound_writable b chose.sound)
      (λ b c same chose. selects_chosen choice.chosen (area old.area) b b c (header_of choice.header) refl same (chose.chosen same)) gave number (λ b c chose. (chose.sound.frames, chose.sound.judged)) keeps

-- of calls by any strategy, with any feeds between the first and the last
module _ {A D : Type 0} (by : Strategy) (area : A → AreaSpec) (first : FeedUse) (spare : List FeedUse) (last : FeedUse) (d : drain.Ghosts D) (check : PassCheck) (again : LaterPass) (spared : Bool) (keeps : KeepsAll (first ∷ spare)) (Gave : AreaOutput A D → AreaChoice → Type 0)
    (one_of : (choice : AreaChoice) (old new : AreaOutput A D) (r : Result InputReceipt Halt) → Gave old choice → WritesChoice last (drained d old.drain new.drain) again choice.chosen (header_of choice.header) spared r → Extracts by (area old.area) first spare (last ∷ []) (drained d old.drain new.drain) check r) where
  module _ (choices : List AreaChoice) (olds news : List (AreaOutput A D)) (gave : AllZip Gave olds choices) where
    abbrev Alone : (AreaOutput A D → AreaOutput A D → Result InputReceipt Halt) → AreaOutput A D → AreaOutput A D → Type 0
    Alone r old new = Extracts by (area old.area) first spare (last ∷ []) (drained d old.drain new.drain) check (r old new)

    -- all was written
    all_extracts : (receipt : EachReceipt) → receipt.input ≡ again.digest → receipt.spared ≡ spared → WritesEach last d again choices olds news (stop_result (Ok receipt)) → AllZip (Alone (λ old new. Ok (receipt_of receipt new.counts))) olds news
    all_extracts receipt input spares w = zip_both (λ old new. KeepsOutput d old new → Alone (λ old new. Ok (receipt_of receipt new.counts)) old new) (KeepsOutput d) _ (λ old new one kept. one kept) olds news
        (three_with Gave (λ choice old new. GaveBy last (digest_of again) (λ file. OutputTook d (judged_file (Some file)) choice old new)) _
        (λ choice old new one took kept. one_of choice old new (Ok (receipt_of receipt new.counts)) one (record { input = (input, spares); packed = took; front = tt; stops = tt; keeps = w.keeps; out = kept.drain })) choices olds news gave
        (gave_three last (digest_of again) (λ file. OutputTook d (judged_file (Some file))) choices olds news w.packed)) w.outs

    -- one of them, if the pass stopped
    halts_one : (h : Halt) → WritesEach last d again choices olds news (stop_result {X = EachReceipt} (Err h)) → (choice : AreaChoice) (old new : AreaOutput A D) → Gave old choice → OutputBegan d (judged_file (supply_of last)) choice old new → KeepsOutput d old new
        → HaltsOutput by (area old.area) first spare (last ∷ []) (drained d old.drain new.drain) check h
    halts_one h w choice old new one began kept = record {
      alone = λ own. one_of choice old new (Err h) one (record { input = tt; packed = tt; front = began; stops = own_stop last.ghosts again last.old last.new _ _ (stop_of h) own w.stops; keeps = w.keeps; out = kept.drain });
      beginning = (one_of choice old new (Err (halt.Stopped why.Memory)) one (record { input = tt; packed = tt; front = began; stops = tt; keeps = w.keeps; out = kept.drain })).beginning;
    }

    all_halt : (h : Halt) → WritesEach last d again choices olds news (stop_result {X = EachReceipt} (Err h)) → AllZip (λ old new. HaltsOutput by (area old.area) first spare (last ∷ []) (drained d old.drain new.drain) check h) olds news
    all_halt h w = zip_both (λ old new. KeepsOutput d old new → HaltsOutput by (area old.area) first spare (last ∷ []) (drained d old.drain new.drain) check h) (KeepsOutput d) _ (λ old new one kept. one kept) olds news
        (three_with Gave (OutputBegan d (judged_file (supply_of last))) _ (λ choice old new one began kept. halts_one h w choice old new one began kept) choices olds news gave w.beginning) w.outs

    pub extracts_each : (r : Result EachReceipt Halt) → IfOk r (λ receipt. (receipt.input ≡ again.digest) × (receipt.spared ≡ spared)) → WritesEach last d again choices olds news (stop_result r) → ExtractsEach by area first spare (last ∷ []) d check olds news r
    extracts_each (Ok receipt) says w = record {
      each = all_extracts receipt says.0 says.1 w;
      halted = tt;
      wrote = tt;
      outs = w.outs;
      feeds = keeps_more (first ∷ spare) last keeps w.keeps;
    }
    extracts_each (Err h) says w = record {
      each = tt;
      halted = all_halt h w;
      wrote = λ is. wrote_stop last.ghosts again last.old last.new _ (stop_of h) w.stops is;
      outs = w.outs;
      feeds = keeps_more (first ∷ spare) last keeps w.keeps;
    }

-- with all parents, by a third feed
module _ {D : Type 0} (first second third last : FeedUse) (out : DrainUse D) (by : Strategy) (area : AreaSpec) (passes : Passes) (again : LaterPass) (is : again.passes ≡ passes) (sets : KeptSets) (h : HeaderSpec) (spared : Bool) (r : Result InputReceipt Halt) (wrote : WritesChoice last out again sets h spared r)
    (Chose : List ℕ → List ℕ → List ℕ → Type 0) (sound : (b c e : List ℕ) → Chose b c e → IsSoundFile b) (select : (b c e : List ℕ) → c ≡ b → e ≡ b → Chose b c e → Selects b by area (taken_by sets) h) where
  abbrev GaveThree : (spared : Bool) → Mark → Type 0
  GaveThree spared digest = GaveBy first digest (λ b. GaveOrNot second spared digest b (λ c. GaveOrNot third spared digest b (Chose b c)))

  receipt_by_three : GaveThree spared (mark_by passes.check again.digest) → IfOk r (λ receipt. Wrote first (second ∷ third ∷ []) (last ∷ []) out (mark_by passes.check receipt.input) receipt.spared (λ b written. IsExtraction by area b receipt.counts written))
  receipt_by_three chosen = if_ok_both r _ _ _ (λ receipt input wrote.
      let digest = mark_by passes.check receipt.input in
      gave_file_less first.ghosts first.old first.new digest (λ b. GaveOrNot second receipt.spared digest b (λ c. GaveOrNot third receipt.spared digest b (Chose b c))) _ (λ b two. (
        gave_or_not second digest receipt.spared b _ (IsWritable b) (λ c three. gave_or_not third digest receipt.spared b _ (IsWritable b) (λ e choice. sound_writable b (sound b c e choice)) three) two,
        gave_or_less second digest receipt.spared b _ _ (λ c three. gave_or_less third digest receipt.spared b _ _ (λ e choice. gave_file_less last.ghosts last.old last.new digest _ _ (λ n took. took_weaker out.ghosts out.old out.new _ _ (λ written is same more fourth.
            is b (select b c e (sym same) (sym more) choice) fourth) took) wrote) three) two,
      )) (subst (λ (s : Bool). GaveThree s digest) (sym input.1) (subst (λ (l : List ℕ). GaveThree spared (mark_by passes.check l)) (sym input.0) chosen))) wrote.input
      (wrote_extract last out by area again sets h spared r wrote passes is)

  extracts_by_three : (one : GaveThree spared (mark_by passes.check again.digest)) → again.number ≡ 4 → KeepsAll (first ∷ second ∷ third ∷ []) → Extracts by area first (second ∷ third ∷ []) (last ∷ []) out passes.check r
  extracts_by_three one number keeps =
      let file : IsSoundFile one.file = gave_or_not second _ spared one.file _ _ (λ c three. gave_or_not third _ spared one.file _ _ (λ e choice. sound one.file c e choice) three) one.holding in
      record {
        receipt = receipt_by_three one;
        ends = writing_ends first _ _ one file.frames file.judged (second ∷ third ∷ []) last again number (ap (λ (p : Passes). mark_by p.check again.digest) is) out sets h spared r wrote (judge_by by) passes.check keeps;
        beginning = on_err_weaker r (λ front b supply.
            let tells = tells_file first.ghosts _ _ _ _ one in
            let three = told_or_not second _ spared _ one.file b _ tells supply.0 supply.1.0 one.holding in
            let chosen = told_or_not third _ spared _ one.file b _ tells supply.0 supply.1.1.0 three in
            front b supply.1.1.1.0 (subst (λ (l : List ℕ). Selects l by area (taken_by sets) h) (tells b supply.0) (select one.file b b (sym (tells b supply.0)) (sym (tells b supply.0)) chosen))) (wrote_front last out by area again sets h spared r wrote);
      }

module _ {A D : Type 0} (area : A → AreaSpec) (first second third last : FeedUse) (d : drain.Ghosts D) (passes : Passes) (again : LaterPass) (is : again.passes ≡ passes) (number : again.number ≡ 4) (spared : Bool) (keeps : KeepsAll (first ∷ second ∷ third ∷ [])) where
  abbrev pub GaveParents : AreaOutput A D → AreaChoice → Type 0
  GaveParents output choice = GaveBy first (mark_by passes.check again.digest) (λ b. GaveOrNot second spared (mark_by passes.check again.digest) b (λ c. GaveOrNot third spared (mark_by passes.check again.digest) b (λ e. ChoseParents area b c e output choice)))

  pub parents_one : (choice : AreaChoice) (old new : AreaOutput A D) (r : Result InputReceipt Halt) → GaveParents old choice → WritesChoice last (drained d old.drain new.drain) again choice.chosen (header_of choice.header) spared r → Extracts all_parents (area old.area) first (second ∷ third ∷ []) (last ∷ []) (drained d old.drain new.drain) passes.check r
  parents_one choice old new r gave wrote =
      let judged = λ (l : List ℕ). judged_file (Some l) in
      extracts_by_three first second third last (drained d old.drain new.drain) all_parents (area old.area) passes again is choice.chosen (header_of choice.header) spared r wrote (λ b c e. ChoseParents area b c e old choice)
      (λ b c e chose. chose.sound)
      (λ b c e same more chose. selects_parents choice.chosen (area old.area) b _ _ _ (header_of choice.header) refl (ap judged same) (ap judged more) (chose.chosen same more).chosen) gave number keeps

pub gave_parents_each : {X Y : Type 0} (first second third : FeedUse) (spared : Bool) (digest : Mark) (R : List ℕ → List ℕ → List ℕ → X → Y → Type 0) (xs : List X) (ys : List Y) → GaveBy first digest (λ b. GaveOrNot second spared digest b (λ c. GaveOrNot third spared digest b (λ e. AllZip (R b c e) xs ys)))
    → AllZip (λ x y. GaveBy first digest (λ b. GaveOrNot second spared digest b (λ c. GaveOrNot third spared digest b (λ e. R b c e x y)))) xs ys
gave_parents_each first second third spared digest R xs ys given = gave_each first second spared digest (λ b c x y. GaveOrNot third spared digest b (λ e. R b c e x y)) xs ys
    (gave_file_less first.ghosts first.old first.new digest _ _ (λ b two. gave_or_less second digest spared b _ _ (λ c three. gave_or_not_each third spared digest b (R b c) xs ys three) two) given)

-- ---- the passes that choose halted, and nothing was written

never_wrote : (refused : Fault → Type 0) (read : Type 0) (changed : ℕ → Type 0) (s : Stop) → Caused refused read ⊥ changed s → s ≡ why.Write → ⊥
never_wrote refused read changed s caused is = subst (λ (t : Stop). Caused refused read ⊥ changed t) is caused

pub halts_each : {A D : Type 0} (by : Strategy) (area : A → AreaSpec) (first : FeedUse) (spare : List FeedUse) (last : FeedUse) (d : drain.Ghosts D) (check : PassCheck) (outputs : List (AreaOutput A D)) (h : Halt) → StopsChoosing (judge_by by) first spare check h → KeepsAll (first ∷ spare ++ last ∷ []) → (r : Result EachReceipt Halt) → r ≡ Err h
    → ExtractsEach by area first spare (last ∷ []) d check outputs outputs r
halts_each by area first spare last d check outputs h stops keeps r is = rw is (record {
  each = tt;
  halted = zip_same (λ old new. HaltsOutput by (area old.area) first spare (last ∷ []) (drained d old.drain new.drain) check h) (λ o. record {
    alone = λ own. record { receipt = tt; ends = choosing_ends (judge_by by) first spare last check h stops d o.drain (Err h) refl keeps (record { counts = omega arith; lender = refl }); beginning = λ b supply. nothing_out _ _ };
    beginning = λ b supply. nothing_out _ _;
  }) outputs;
  wrote = λ write. absurd (never_wrote _ _ _ (stop_of h) stops.stops write);
  outs = zip_same (KeepsOutput d) (λ o. record { area = refl; drain = record { counts = omega arith; lender = refl } }) outputs;
  feeds = keeps;
})

-- ---- what the pass that writes requires

pub same_length : {X Y : Type 0} (first second : FeedUse) (spared : Bool) (digest : Mark) (R : List ℕ → List ℕ → X → Y → Type 0) (xs : List X) (ys : List Y) → GaveBy first digest (λ b. GaveOrNot second spared digest b (λ c. AllZip (R b c) xs ys)) → length ys ≡ length xs
same_length first second spared digest R xs ys given = zip_length _ xs ys (gave_each first second spared digest R xs ys given)

short_one : (first second : FeedUse) (spared : Bool) (digest : Mark) (Chooses : List ℕ → List ℕ → HeaderSpec → Type 0) (h : HeaderSpec) → GaveBy first digest (λ b. GaveOrNot second spared digest b (λ c. Chose Chooses b c h)) → HasShortTexts h
short_one first second spared digest Chooses h given = gave_or_not second digest spared given.file _ (HasShortTexts h) (λ c chose. chose.short) given.holding

pub all_short : {A D : Type 0} (area : A → AreaSpec) (first second : FeedUse) (spared : Bool) (digest : Mark) (outputs : List (AreaOutput A D)) (choices : List AreaChoice) → GaveBy first digest (λ b. GaveOrNot second spared digest b (λ c. AllZip (ChoseWays area b c) outputs choices)) → AllByRecursion (λ choice. HasShortTexts (header_of choice.header)) choices
all_short area first second spared digest outputs choices given = zip_right _ (λ o. Unit {0}) (λ choice. HasShortTexts (header_of choice.header)) (λ output choice one u. short_one first second spared digest (λ b c h. IsChoice (area output.area) b c choice.chosen h) (header_of choice.header) one) outputs choices (gave_each first second spared digest (ChoseWays area) outputs choices given) (all_units outputs)

pub parents_lengths : {A D : Type 0} (area : A → AreaSpec) (first second third : FeedUse) (spared : Bool) (digest : Mark) (outputs : List (AreaOutput A D)) (choices : List AreaChoice) → GaveBy first digest (λ b. GaveOrNot second spared digest b (λ c. GaveOrNot third spared digest b (λ e. AllZip (ChoseParents area b c e) outputs choices))) → length choices ≡ length outputs
parents_lengths area first second third spared digest outputs choices given = zip_length _ outputs choices (gave_parents_each first second third spared digest (ChoseParents area) outputs choices given)

pub parents_short : {A D : Type 0} (area : A → AreaSpec) (first second third : FeedUse) (spared : Bool) (digest : Mark) (outputs : List (AreaOutput A D)) (choices : List AreaChoice) → GaveBy first digest (λ b. GaveOrNot second spared digest b (λ c. GaveOrNot third spared digest b (λ e. AllZip (ChoseParents area b c e) outputs choices))) → AllByRecursion (λ choice. HasShortTexts (header_of choice.header)) choices
parents_short area first second third spared digest outputs choices given = zip_right _ (λ o. Unit {0}) (λ choice. HasShortTexts (header_of choice.header)) (λ output choice one u. gave_or_not second digest spared one.file _ (HasShortTexts (header_of choice.header)) (λ c three. gave_or_not third digest spared one.file _ (HasShortTexts (header_of choice.header)) (λ e chose. chose.short) three) one.holding) outputs choices (gave_parents_each first second third spared digest (ChoseParents area) outputs choices given) (all_units outputs)
