-- How entities are cut into blocks, and the frames that are written for them.
use Rattle.std.specs.Prelude.{◌≡◌, ℕ, zero, suc, true, false, List, [], ◌∷◌, ◌++◌, if◌then◌else◌, length, take, drop}
use Rattle.std.specs.List.{flat_map}
use Rattle.osm_entity.specs.Entity.{EntitySpec}
use Rattle.pbf_header.specs.Header.{HeaderSpec}
use Rattle.pbf_block.specs.WrittenBlock.{is_block, block_message}
use Rattle.pbf_header.specs.WrittenHeader.{header_message, header_out_for_convert}
use Rattle.pbf_frame.specs.declared.frame.FrameKind.TheVariants as kind
use Rattle.pbf_frame.specs.Writing.{written_frame}

-- ---- cutting

-- how many of the next entities, at most `most`, the longest block that begins with e has
abbrev pub extra : ℕ → EntitySpec → List EntitySpec → ℕ
extra zero e es = zero
extra (suc most) e es = if is_block (e ∷ take (suc most) es) then suc most else extra most e es

-- each block is the longest prefix of what is left that may be one block; at most `most` blocks
abbrev pub cuts_at_most : ℕ → List EntitySpec → List (List EntitySpec)
cuts_at_most zero es = []
cuts_at_most (suc most) [] = []
cuts_at_most (suc most) (e ∷ es) = let more = extra (length es) e es in (e ∷ take more es) ∷ cuts_at_most most (drop more es)

-- the entities block by block
unfoldable pub cuts : List EntitySpec → List (List EntitySpec)
cuts es = cuts_at_most (length es) es

-- each block is as long as may be: the first entity of the next one may not join it
abbrev pub AreLongest : List (List EntitySpec) → Type 0
AreLongest [] = Unit {0}
AreLongest (block ∷ []) = Unit {0}
AreLongest (block ∷ next ∷ more) = (is_block (block ++ take 1 next) ≡ false) × AreLongest (next ∷ more)

-- there are entities in it, and they may share one block
abbrev pub MayStand : List EntitySpec → Type 0
MayStand block = (block ≡ [] → ⊥) × (is_block block ≡ true)

-- ---- what is written

-- the frame of a block
abbrev pub block_frame : List EntitySpec → List ℕ
block_frame es = written_frame kind.Data (block_message es)

-- the frames of all entities
abbrev pub written_entities : List EntitySpec → List ℕ
written_entities es = flat_map block_frame (cuts es)

-- the frame of a header
abbrev pub header_frame : HeaderSpec → List ℕ
header_frame h = written_frame kind.Header (header_message (header_out_for_convert h))

-- a whole file
abbrev pub written_file : HeaderSpec → List EntitySpec → List ℕ
written_file h es = header_frame h ++ written_entities es

-- ---- entity by entity

-- what is pending once an entity came after those that were
abbrev pub then_pending : List EntitySpec → EntitySpec → List EntitySpec
then_pending es e = if is_block (es ++ e ∷ []) then es ++ e ∷ [] else e ∷ []

-- what goes out then
abbrev pub then_written : List EntitySpec → EntitySpec → List ℕ
then_written es e = if is_block (es ++ e ∷ []) then [] else block_frame es

-- what goes out at the end
abbrev pub at_end : List EntitySpec → List ℕ
at_end [] = []
at_end (e ∷ es) = block_frame (e ∷ es)

-- ---- a run of entities

-- what is pending once entities came one by one after those that were
abbrev pub pending_after : List EntitySpec → List EntitySpec → List EntitySpec
pending_after es [] = es
pending_after es (e ∷ more) = pending_after (then_pending es e) more

-- what went out by then
abbrev pub written_after : List EntitySpec → List EntitySpec → List ℕ
written_after es [] = []
written_after es (e ∷ more) = then_written es e ++ written_after (then_pending es e) more
