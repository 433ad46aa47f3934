-- The block that is open: what it holds of its entities.
use Rattle.std.specs.Prelude.{◌≡◌, ℕ, ◌+◌, List, [], ◌∷◌, ◌++◌, length, true, Option, Some, None, unwrap_or, Result, OnOk}
use Rattle.std.specs.List.{sum_by}
use Rattle.pbf_strings.specs.TableOut.{texts_after, table_message, text_held}
use Rattle.osm_entity.specs.Entity.{EntitySpec}
use Rattle.osm_entity.specs.Ranges.{EntityFits}
use Rattle.osm_entity.specs.Weight.{entity_weight}
use Rattle.pbf_dense.specs.WrittenDense.{HoldsNodes, columns_held, dense_length}
use Rattle.pbf_block.specs.WrittenBlock.{is_block, texts_of_all, nodes_among, messages_among, group_message}
use Rattle.pbf_block.specs.WrittenEntity.{writer_length}
use Rattle.osm_pack.specs.declared.open_block.OpenBlock.{OpenBlock}
use Rattle.osm_pack.specs.declared.open_block.Joining.{Joining}
use Rattle.osm_pack.specs.declared.likeness.Likeness.{Likeness}
use Rattle.osm_pack.specs.Likenesses.{likeness_of}

-- what all are like, once there is one
abbrev pub likeness_among : List EntitySpec → Option Likeness
likeness_among [] = None
likeness_among (e ∷ es) = Some (likeness_of e)

-- its fields are those of these entities, which may share one block, whatever texts are used later; nothing of any of them
-- stays in the writer
pub record Holds {S H : Type 0} (b : OpenBlock S H) (es : List EntitySpec) : Type 0 where
  pub block : is_block es ≡ true
  pub likeness : b.likeness ≡ likeness_among es
  pub count : b.count ≡ length es
  pub weight : b.weight ≡ sum_by entity_weight es
  pub texts : b.texts ≡ texts_of_all es
  pub nodes : HoldsNodes b.nodes (texts_of_all es) (nodes_among es)
  pub messages : (used : List (List ℕ)) → b.group.items ≡ messages_among (texts_after (texts_of_all es) used) es
  pub writer : writer_length b.writer ≡ 0

-- it is open: these are its entities, for some
pub record IsOpen {S H : Type 0} (b : OpenBlock S H) : Type 0 where
  pub entities : List EntitySpec
  pub held : Holds b entities

-- an entity is like this, and weighs so much
pub record IsJoining (joining : Joining) (e : EntitySpec) : Type 0 where
  pub likeness : joining.likeness ≡ likeness_of e
  pub weight : joining.weight ≡ entity_weight e

-- one more entity may join it
abbrev pub JoinsBlock : {S H : Type 0} → OpenBlock S H → EntitySpec → Type 0
JoinsBlock b e = (es : List EntitySpec) → Holds b es → is_block (es ++ e ∷ []) ≡ true

-- the block is open, and the entity, which is in its ranges, may join it
pub record MayAdd {S H : Type 0} (b : OpenBlock S H) (e : EntitySpec) : Type 0 where
  pub «open» : IsOpen b
  pub fits : EntityFits e
  pub joins : JoinsBlock b e

-- the message of an entity with these texts is made in the writer, and nothing else is done
pub record Makes {S H : Type 0} (old new : OpenBlock S H) (used : List (List ℕ)) : Type 0 where
  pub likeness : new.likeness ≡ old.likeness
  pub count : new.count ≡ old.count
  pub weight : new.weight ≡ old.weight
  pub texts : new.texts ≡ texts_after old.texts used
  pub nodes : new.nodes ≡ old.nodes
  pub group : new.group ≡ old.group

-- one more entity is encoded after these, and nothing else is done
pub record Encodes {S H : Type 0} (old new : OpenBlock S H) (es : List EntitySpec) (e : EntitySpec) : Type 0 where
  pub likeness : new.likeness ≡ old.likeness
  pub count : new.count ≡ old.count
  pub weight : new.weight ≡ old.weight
  pub texts : new.texts ≡ texts_of_all (es ++ e ∷ [])
  pub nodes : HoldsNodes new.nodes (texts_of_all (es ++ e ∷ [])) (nodes_among (es ++ e ∷ []))
  pub messages : (used : List (List ℕ)) → new.group.items ≡ messages_among (texts_after (texts_of_all (es ++ e ∷ [])) used) (es ++ e ∷ [])
  pub writer : writer_length new.writer ≡ 0

-- one more entity is counted, and nothing else is done
pub record Counts {S H : Type 0} (old new : OpenBlock S H) (joining : Joining) : Type 0 where
  pub likeness : new.likeness ≡ Some (unwrap_or old.likeness joining.likeness)
  pub count : new.count ≡ old.count + 1
  pub weight : new.weight ≡ old.weight + joining.weight
  pub texts : new.texts ≡ old.texts
  pub nodes : new.nodes ≡ old.nodes
  pub group : new.group ≡ old.group
  pub writer : new.writer ≡ old.writer

-- an entity is added after the others
abbrev pub Adds : {S H X E : Type 0} → OpenBlock S H → OpenBlock S H → EntitySpec → Result X E → Type 0
Adds old new e result = (es : List EntitySpec) → Holds old es → OnOk result (Holds new (es ++ e ∷ []))

-- it is being closed: its texts are in this table, all its entities are in the group, and it holds nothing else
pub record IsClosing {S H : Type 0} (b : OpenBlock S H) (bytes : List ℕ) (es : List EntitySpec) : Type 0 where
  pub block : is_block es ≡ true
  pub table : bytes ≡ table_message (texts_of_all es)
  pub group : b.group.items ≡ group_message (texts_of_all es) es
  pub rest : sum_by text_held b.texts + dense_length (columns_held b.nodes) + writer_length b.writer ≡ 0

-- the bytes that it holds: the lengths of its texts, its columns and its messages, and four for each text
abbrev pub block_held : {S H : Type 0} → OpenBlock S H → ℕ
block_held b = sum_by text_held b.texts + dense_length (columns_held b.nodes) + length b.group.items + writer_length b.writer
