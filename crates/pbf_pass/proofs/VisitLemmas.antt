-- Frames that are visited one after another.
use Rattle.std.proofs.Common.{◌≡◌, ℕ, ◌≤◌, arith, List, [], ◌∷◌, ◌++◌, Option, refl, sym, subst, append_assoc}
use Rattle.std.proofs.lemmas.List.{append-nil}
use Rattle.pbf_frame.specs.declared.device.Feed as feed
use Rattle.pbf_frame.specs.declared.reader.FrameReader.{FrameReader}
use Rattle.pbf_frame.specs.declared.stop.Stop.{Stop}
use Rattle.pbf_frame.specs.Devices.{HasRisen}
use Rattle.pbf_frame.specs.Frames.{FrameSpec}
use Rattle.pbf_frame.specs.Next.{verdict}
use Rattle.pbf_frame.specs.Verdict.{Verdict, VerdictAfter}
use Rattle.pbf_pass.specs.Visit.{Takes, StopRule, Visited, StopsVisit}
use Rattle.pbf_pass.proofs.StepLemmas.{StoppedStep}

pub visited_more : {V : Type 0} (took : Takes V) (fs : List FrameSpec) (f : FrameSpec) (before mid now : V) → Visited took before fs mid → took mid f now → Visited took before (fs ++ f ∷ []) now
visited_more took [] f before mid now so_far one = (now, subst (λ v. took v f now) so_far one, refl)
visited_more took (g ∷ fs) f before mid now so_far one = (so_far.0, so_far.1, visited_more took fs f so_far.0 mid now so_far.2 one)

-- what each frame adds to holds of all of them
pub visited_to : {V : Type 0} (took : Takes V) (done : List FrameSpec → V → Type 0) → ((gone : List FrameSpec) (f : FrameSpec) (mid now : V) → done gone mid → took mid f now → done (gone ++ f ∷ []) now) → (fs gone : List FrameSpec) (before now : V) → done gone before → Visited took before fs now → done (gone ++ fs) now
visited_to took done step [] gone before now so_far visited = subst (λ l. done l now) (sym (append-nil gone)) (subst (λ v. done gone v) (sym visited) so_far)
visited_to took done step (f ∷ fs) gone before now so_far visited = grind (arith, append_assoc gone (f ∷ []) fs, visited_to took done step fs (gone ++ f ∷ []) visited.0 now (step gone f before visited.0 so_far visited.1) visited.2, step gone f before visited.0 so_far visited.1)

-- a loop of steps stops, of which some are done
pub stops_visit : {F V : Type 0} (g : feed.Ghosts F) (old new : FrameReader F) (took : Takes V) (failed : StopRule V) (first : Option Verdict) (frames : List FrameSpec) (count : ℕ) (before mid now : V) (stop : Stop) → VerdictAfter first frames (verdict g.remaining old) → count ≤ g.failures old.feed
    → Visited took before frames mid → StoppedStep g old new (λ f s. failed mid f now s) (now ≡ mid) stop → StopsVisit took failed first (HasRisen count (g.failures new.feed)) before now stop
stops_visit g old new took failed first frames count before mid now stop gone counted visited s = grind arith
