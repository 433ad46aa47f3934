-- Entities that come one by one are written as they are all together.
use Rattle.std.proofs.Common.{◌≡◌, ℕ, List, [], ◌∷◌, ◌++◌, Bool, true, refl, sym, ap, ◌∙◌, append_assoc, append-nil}
use Rattle.std.specs.Prelude.{if◌then◌else◌}
use Rattle.std.specs.List.{AllByRecursion}
use Rattle.osm_entity.specs.Entity.{EntitySpec}
use Rattle.osm_entity.specs.Ranges.{EntityFits}
use Rattle.pbf_block.specs.WrittenBlock.{is_block}
use Rattle.osm_pack.specs.Cuts.{block_frame, written_entities, then_pending, then_written, at_end, pending_after, written_after}
use Rattle.osm_pack.proofs.CutLemmas.{push_keeps, pending_kept, end_keeps, kept_none}
use Rattle.osm_pack.proofs.CutLaws.{front_kept}
use Rattle.osm_pack.proofs.OpenLemmas.{alone}

-- what went out, and what is pending then and comes later, is all
pub run_keeps : (es more rest : List EntitySpec) → is_block es ≡ true → AllByRecursion EntityFits more → written_after es more ++ written_entities (pending_after es more ++ rest) ≡ written_entities (es ++ (more ++ rest))
run_keeps es [] rest h fits = refl
run_keeps es (e ∷ more) rest h fits =
    append_assoc (then_written es e) (written_after (then_pending es e) more) _
    ∙ (ap (λ (bs : List ℕ). then_written es e ++ bs) (run_keeps (then_pending es e) more rest (pending_kept es e (alone e fits.0)) fits.1) ∙ push_keeps es e (more ++ rest) h (alone e fits.0))

pub run_kept : (es more : List EntitySpec) → is_block es ≡ true → AllByRecursion EntityFits more → is_block (pending_after es more) ≡ true
run_kept es [] h fits = h
run_kept es (e ∷ more) h fits = run_kept (then_pending es e) more (pending_kept es e (alone e fits.0)) fits.1

-- with the block that is closed at the end
pub run_ends : (more : List EntitySpec) → AllByRecursion EntityFits more → written_after [] more ++ at_end (pending_after [] more) ≡ written_entities more
run_ends more fits =
    ap (λ (bs : List ℕ). written_after [] more ++ bs) (end_keeps (pending_after [] more) (run_kept [] more kept_none fits) ∙ ap written_entities (sym (append-nil (pending_after [] more))))
    ∙ (run_keeps [] more [] kept_none fits ∙ ap written_entities (append-nil more))

-- the first of those that may wait with others
first_joins : (es : List EntitySpec) (e : EntitySpec) (more : List EntitySpec) → is_block (es ++ e ∷ more) ≡ true → is_block (es ++ e ∷ []) ≡ true
first_joins es e more h = front_kept (es ++ e ∷ []) more (ap is_block (append_assoc es (e ∷ []) more) ∙ h)

-- one more
pub pending_push : (es more : List EntitySpec) (e : EntitySpec) → pending_after es (more ++ e ∷ []) ≡ then_pending (pending_after es more) e
pending_push es [] e = refl
pending_push es (x ∷ more) e = pending_push (then_pending es x) more e

pub written_push : (es more : List EntitySpec) (e : EntitySpec) → written_after es (more ++ e ∷ []) ≡ written_after es more ++ then_written (pending_after es more) e
written_push es [] e = append-nil (then_written es e)
written_push es (x ∷ more) e = ap (λ (bs : List ℕ). then_written es x ++ bs) (written_push (then_pending es x) more e) ∙ sym (append_assoc (then_written es x) (written_after (then_pending es x) more) _)

-- ---- many that may wait together

pub pending_joined : (es more : List EntitySpec) → is_block (es ++ more) ≡ true → pending_after es more ≡ es ++ more
pending_joined es [] h = sym (append-nil es)
pending_joined es (e ∷ more) h =
    let one = first_joins es e more h in
    ap (λ (b : Bool). pending_after (if b then es ++ e ∷ [] else e ∷ []) more) one ∙ (pending_joined (es ++ e ∷ []) more (ap is_block (append_assoc es (e ∷ []) more) ∙ h) ∙ append_assoc es (e ∷ []) more)

pub written_joined : (es more : List EntitySpec) → is_block (es ++ more) ≡ true → written_after es more ≡ []
written_joined es [] h = refl
written_joined es (e ∷ more) h =
    let one = first_joins es e more h in
    ap (λ (b : Bool). (if b then [] else block_frame es) ++ written_after (if b then es ++ e ∷ [] else e ∷ []) more) one ∙ written_joined (es ++ e ∷ []) more (ap is_block (append_assoc es (e ∷ []) more) ∙ h)

pub pending_more : (es more rest : List EntitySpec) → pending_after es (more ++ rest) ≡ pending_after (pending_after es more) rest
pending_more es [] rest = refl
pending_more es (e ∷ more) rest = pending_more (then_pending es e) more rest

pub written_more : (es more rest : List EntitySpec) → written_after es (more ++ rest) ≡ written_after es more ++ written_after (pending_after es more) rest
written_more es [] rest = refl
written_more es (e ∷ more) rest =
    ap (λ (bs : List ℕ). then_written es e ++ bs) (written_more (then_pending es e) more rest) ∙ sym (append_assoc (then_written es e) (written_after (then_pending es e) more) _)
