-- The texts of a header, and the edges of its box.
use Rattle.std.proofs.Common.{◌≡◌, ℕ, Bool, true, false, cond, List, [], ◌∷◌, ◌++◌, map, refl, sym, ap, ◌∙◌, nat_eq, codes, Bor}
use Rattle.std.specs.Prelude.{◌||◌, Option, Some}
use Rattle.std.specs.List.{list_any}
use Rattle.std.specs.Cmp.Lexicographic.{pointwise}
use Rattle.std.specs.Global.{Vec}
use Rattle.std.specs.Str.{bytes_eq}
use Rattle.std.proofs.lemmas.Cmp.{nat_list_eq_equiv}
use Rattle.std.proofs.lemmas.List.{append-nil}
use Rattle.pbf_wire.specs.declared.fault.Fault.{Fault}
use Rattle.pbf_wire.specs.Least.{lesser, least}
use Rattle.pbf_wire.proofs.LeastLemmas.{lesser_parts}
use Rattle.pbf_strings.specs.TableOut.{has_text}
use Rattle.pbf_header.specs.declared.header.HeaderBox.{HeaderBox}
use Rattle.pbf_header.specs.Header.{HeaderSpec, text_of}
use Rattle.pbf_header.specs.WrittenHeader.{known_features, kept_features, header_out}

-- a search among texts as they are held
pub has_held : (text : List ℕ) (held : List (Vec ℕ)) → list_any (λ (t : Vec ℕ). pointwise nat_eq text t.items) held ≡ has_text (map text_of held) text
has_held text [] = refl
has_held text (t ∷ held) = ap (λ b. pointwise nat_eq text t.items || b) (has_held text held)

pub has_among : (text : List ℕ) (texts : List (Bor (List ℕ))) → list_any (λ t. bytes_eq t.now text) texts ≡ has_text (map (λ t. t.now) texts) text
has_among text [] = refl
has_among text (t ∷ texts) = rw (nat_list_eq_equiv.symm t.now text, has_among text texts) refl

-- by which of the three features there are
abbrev keep : Bool → List ℕ → List (List ℕ) → List (List ℕ)
keep there feature features = cond there (feature ∷ features) features

abbrev three : Bool → Bool → Bool → List (List ℕ)
three a b c = keep a (codes "Has_Metadata") (keep b (codes "Sort.Type_then_ID") (keep c (codes "LocationsOnWays") []))

three_kept : (a b c : Bool) → kept_features (three a b c) ≡ three a b c
three_kept false false false = refl
three_kept false true false = refl
three_kept true false false = refl
three_kept true true false = refl
three_kept a b c = refl

-- features that are kept are kept again
pub features_kept_twice : (optional : List (List ℕ)) → kept_features (kept_features optional) ≡ kept_features optional
features_kept_twice optional = three_kept (has_text optional (codes "Has_Metadata")) (has_text optional (codes "Sort.Type_then_ID")) (has_text optional (codes "LocationsOnWays"))

-- the header of what is written, with another box or the same
pub header_out_twice : (bbox other : Option HeaderBox) (h : HeaderSpec) → header_out bbox (header_out other h) ≡ header_out bbox h
header_out_twice bbox other h =
    ap (λ (optional : List (List ℕ)). record { bbox = bbox; required = known_features; optional = optional; program = Some (codes "pbfcut"); source = h.source; url = h.url; timestamp = h.timestamp; sequence = h.sequence }) (features_kept_twice h.optional)

-- the least of what four edges lack, one after another
pub edges_joined : (a b c d : List Fault) → lesser (least a) (lesser (least b) (lesser (least c) (least d))) ≡ least (a ++ (b ++ (c ++ (d ++ []))))
edges_joined a b c d =
    ap (λ f. lesser (least a) (lesser (least b) f)) (lesser_parts c d) ∙ ap (λ f. lesser (least a) f) (lesser_parts b (c ++ d)) ∙ lesser_parts a (b ++ (c ++ d))
    ∙ ap (λ (e : List Fault). least (a ++ (b ++ (c ++ e)))) (sym (append-nil d))
