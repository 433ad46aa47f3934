use Rattle.std.proofs.Common.{◌≡◌, ℕ, List, length, sym, ap, arith, ◌∙◌, rules}
use Rattle.pbf_frame.specs.Blob.{blob_fault}
use Rattle.pbf_frame.proofs.Refusing.{whatever_follows, blob_unfit}
use Rattle.pbf_frame.proofs.frame_parts.read_known_blob.Goals as goal

pub returns-in-Some-clause-reads : goal.returns-in-Some-clause-reads
returns-in-Some-clause-reads g c =
    let blob = c.read_bytes.new.buf.items in
    let long : length blob ≡ c.args.size = omega (arith, c.in_ok-read_bytes.ensures.len) in
    record {
      given = search rules;
      refused = whatever_follows _ _ _ _ blob _ c.in_ok-read_bytes.ensures.supplied.told c.in_ok-read_bytes.ensures.supplied.logged (λ rest. blob_unfit c.args.size c.args.at blob rest c.in-Some.fault long (ap (λ (l : List ℕ). blob_fault c.args.at l) (sym c.deref.ensures.value) ∙ sym c.judge_blob.ensures ∙ c.in-Some.is));
      uses = search rules;
    }
