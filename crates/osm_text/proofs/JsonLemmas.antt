-- The members of a header, put one after the other.
use Rattle.std.proofs.Common.{◌≡◌, arith, ℕ, List, ◌++◌, append_assoc, codes}
use Rattle.pbf_header.specs.Header.{HeaderSpec}
use Rattle.osm_text.specs.HeaderJson.{header_members, list_member, maybe_box_member, maybe_number_member, maybe_text_member}

-- eight parts were put
eight_parts : (o p q r s t u v w a b c d e f g h : List ℕ) → p ≡ o ++ a → q ≡ p ++ b → r ≡ q ++ c → s ≡ r ++ d → t ≡ s ++ e → u ≡ t ++ f → v ≡ u ++ g → w ≡ v ++ h
    → w ≡ o ++ (a ++ b ++ c ++ d ++ e ++ f ++ g ++ h)
eight_parts o p q r s t u v w a b c d e f g h one two three four five six seven eight = grind (arith, append_assoc)

pub five_parts : (o p q r s t a b c d e : List ℕ) → p ≡ o ++ a → q ≡ p ++ b → r ≡ q ++ c → s ≡ r ++ d → t ≡ s ++ e → t ≡ o ++ (a ++ b ++ c ++ d ++ e)
five_parts o p q r s t a b c d e one two three four five = grind (arith, append_assoc)

pub members_put : (h : HeaderSpec) (o p q r s t u v w : List ℕ) → p ≡ o ++ maybe_box_member h.bbox
    → q ≡ p ++ list_member (codes "required") h.required → r ≡ q ++ list_member (codes "optional") h.optional
    → s ≡ r ++ maybe_text_member (codes "program") h.program → t ≡ s ++ maybe_text_member (codes "source") h.source
    → u ≡ t ++ maybe_number_member (codes "timestamp") h.timestamp → v ≡ u ++ maybe_number_member (codes "sequence") h.sequence
    → w ≡ v ++ maybe_text_member (codes "url") h.url → w ≡ o ++ header_members h
unfolding header_members
members_put h o p q r s t u v w one two three four five six seven eight =
    eight_parts o p q r s t u v w _ _ _ _ _ _ _ _ one two three four five six seven eight
