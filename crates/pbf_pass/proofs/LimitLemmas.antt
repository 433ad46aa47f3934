-- A header that is too long to be written, and the verdict on its file.
use Rattle.std.proofs.Common.{arith}
use Rattle.std.proofs.Common.{◌≡◌, ℕ, List, [], Option, Some, None, sym, ap, ◌∙◌}
use Rattle.std.specs.Option.{option_map}
use Rattle.pbf_wire.specs.declared.fault.Fault.{Fault}
use Rattle.osm_entity.specs.Entity.{EntitySpec}
use Rattle.pbf_header.specs.Header.{HeaderSpec}
use Rattle.pbf_frame.specs.Frames.{FrameSpec}
use Rattle.pbf_frame.specs.Verdict.{Verdict, Says}
use Rattle.pbf_pass.specs.declared.pass.Pass.{Pass}
use Rattle.pbf_pass.specs.HeaderLimit.{header_limit, with_limit, limited, judged_writable, held_header}
use Rattle.pbf_pass.specs.Judged.{judged_file}
use Rattle.pbf_pass.specs.Pass.{HoldsHeader, TakesFile, file_header}
use Rattle.pbf_pass.specs.Stops.{FaultOf}

-- ---- the header

pub held_is : (told : Option (ℕ × HeaderSpec)) (pass : Pass) → HoldsHeader told pass → held_header pass ≡ told
held_is told pass h2 = grind arith

-- ---- the verdict, and the limit of the header

pub limited_fault : (known : Option Verdict) (frames : List FrameSpec) (e : Fault) → Says known (frames, Some e) → Says (option_map limited known) (frames, Some e)
limited_fault known frames e h3 = grind arith

pub limited_limit : (known : Option Verdict) (frames : List FrameSpec) (e : Fault) → Says known (frames, None) → header_limit (file_header frames) ≡ Some e → Says (option_map limited known) ([], Some e)
limited_limit known frames e h3 h4 = grind arith

-- a header that can't be written is refused
pub limit_refused : {S : Type 0} (gathered : S → EntitySpec → S) (before now : S) (known : Option Verdict) (pass : Pass) (e : Fault) → TakesFile gathered known before now pass → header_limit (held_header pass) ≡ Some e → FaultOf (option_map limited known) e
limit_refused gathered before now known pass e p limit = ([], limited_limit known p.frames e p.says (ap header_limit (sym (held_is (file_header p.frames) pass p.header)) ∙ limit))

-- if the bytes are known, so is their verdict
pub judged_sound : (b : List ℕ) (frames : List FrameSpec) → judged_file (Some b) ≡ Some (frames, None) → header_limit (file_header frames) ≡ None → judged_writable (Some b) ≡ Some (frames, None)
judged_sound b frames judged within = ap (λ (o : Option Verdict). option_map limited o) judged ∙ ap (λ (o : Option Fault). Some (with_limit o frames)) within
