use Rattle.std.proofs.Common.{w64, rules, w32, ◌≡◌, ◌++◌, ◌∙◌, sym, ap, subst, [], ◌∷◌, ℕ, ℤ, List}
use Rattle.std.proofs.lemmas.Int.{to_z-of_z}
use Rattle.osm_entity.specs.declared.scale.Scale.{Scale}
use Rattle.pbf_wire.specs.Message.{Scalar, Each, Slot, slot_bytes, message}
use Rattle.pbf_wire.proofs.WritingLemmas.{one_more, all_written}
use Rattle.pbf_strings.specs.TableOut.{table_message}
use Rattle.pbf_block.specs.WrittenBlock.{unless_default, block_slots}
use Rattle.pbf_block.specs.declared.scale.TheConstants.{DEFAULT_SCALE}
use Rattle.pbf_block.proofs.block_write.put_block.Goals as goal

-- six slots, one after another
slots_put : (r s t u v w : Slot) (old a b c d e all : List ℕ) → a ≡ old ++ slot_bytes r → b ≡ a ++ slot_bytes s → c ≡ b ++ slot_bytes t → d ≡ c ++ slot_bytes u → e ≡ d ++ slot_bytes v → all ≡ e ++ slot_bytes w
    → all ≡ old ++ message (r ∷ s ∷ t ∷ u ∷ v ∷ w ∷ [])
slots_put r s t u v w old a b c d e all f g h i j k =
    one_more r (s ∷ t ∷ u ∷ v ∷ w ∷ []) old a all f (one_more s (t ∷ u ∷ v ∷ w ∷ []) a b all g (one_more t (u ∷ v ∷ w ∷ []) b c all h
    (one_more u (v ∷ w ∷ []) c d all i (one_more v (w ∷ []) d e all j (one_more w [] e all all k (all_written all))))))

-- the numbers of a scale
scale_put : (scale : Scale) (texts : List (List ℕ)) (group old all : List ℕ) (g d a o : ℤ) → g ≡ scale.granularity → d ≡ scale.date_granularity → a ≡ scale.lat_offset → o ≡ scale.lon_offset
    → all ≡ old ++ message (Each 1 (table_message texts ∷ []) ∷ Each 2 (group ∷ []) ∷ Scalar 17 (unless_default DEFAULT_SCALE.granularity g) ∷ Scalar 18 (unless_default DEFAULT_SCALE.date_granularity d) ∷ Scalar 19 (unless_default DEFAULT_SCALE.lat_offset a) ∷ Scalar 20 (unless_default DEFAULT_SCALE.lon_offset o) ∷ [])
    → all ≡ old ++ message (block_slots scale texts group)
scale_put scale texts group old all g d a o p q r s h = rw (sym p, sym q, sym r, sym s) h

-- the same slot, if the default is named in another way
same_default : (k : ℕ) (old out : List ℕ) (default other v : ℤ) → default ≡ other → out ≡ old ++ slot_bytes (Scalar k (unless_default default v)) → out ≡ old ++ slot_bytes (Scalar k (unless_default other v))
same_default k old out default other v p h = subst (λ (d : ℤ). out ≡ old ++ slot_bytes (Scalar k (unless_default d v))) p h

pub returns : goal.returns
returns c = λ texts e.
    scale_put c.args.scale texts c.args.group.now c.args.out.now.items _ _ _ _ _ (to_z-of_z w64 c.from-2.result (search rules) ∙ (c.from-2.ensures ∙ to_z-of_z w32 c.args.scale.granularity (search rules))) (to_z-of_z w64 c.from-4.result (search rules) ∙ (c.from-4.ensures ∙ to_z-of_z w32 c.args.scale.date_granularity (search rules))) (to_z-of_z w64 c.args.scale.lat_offset (search rules)) (to_z-of_z w64 c.args.scale.lon_offset (search rules))
    (slots_put _ _ _ _ _ _ _ _ _ _ _ _ _ (c.in_ok-put_bytes.ensures ∙ ap (λ (m : List ℕ). c.args.out.now.items ++ slot_bytes (Each 1 (m ∷ []))) e) c.in_ok-put_bytes-2.ensures
    (same_default _ _ _ _ _ _ (to_z-of_z w64 c.from.result (search rules) ∙ c.from.ensures) c.in_ok-put_unless_default.ensures)
    (same_default _ _ _ _ _ _ (to_z-of_z w64 c.from-3.result (search rules) ∙ c.from-3.ensures) c.in_ok-put_unless_default-2.ensures)
    c.in_ok-put_unless_default-3.ensures c.in_ok-put_unless_default-4.ensures)
