use Rattle.std.proofs.Common.{◌≡◌, ◌+◌, ap, sym, ◌∙◌, subst, refl, map, true, Some, slice_get, arith}
use Rattle.std.specs.List.{IsDistinct}
use Rattle.std.specs.Str.{bytes_eq}
use Rattle.std.proofs.lemmas.Option.{slice_get_read}
use Rattle.pbf_strings.specs.TableOut.{has_text, index_in}
use Rattle.pbf_strings.proofs.UsedTexts.{stands, place_at}
use Rattle.pbf_strings.proofs.table_out.TableOut.recent_index.Goals as goal

pub returns-then-is_same_text : goal.returns-then-is_same_text
returns-then-is_same_text g c =
    let texts = c.as_slice.result.now in
    let index = c.in_slot-index.result in
    let place = c.in_ok-place.place in
    let next : place + 1 ≡ index = omega (arith, c.in_ok-place.ensures) in
    let key = c.in_ok-known.known.now in
    let found = c.in_ok-known.ensures.lookup in
    let at : slice_get texts place ≡ Some key = slice_get_read texts _ place key refl (omega arith) found.1 in
    let read : key.items ≡ c.args.text.now = sym c.as_slice-2.ensures.value ∙ c.is_same_text.ensures.0 c.if-is_same_text.true in
    let held : map (λ k. k.items) texts ≡ c.args.self.now = ap (map (λ k. k.items)) c.as_slice.ensures.keys ∙ c.self.view_is in
    let distinct : IsDistinct (λ x y. bytes_eq x.items y.items) texts = subst (IsDistinct (λ x y. bytes_eq x.items y.items)) (sym c.as_slice.ensures.keys) c.as_slice.ensures.unique in
    subst (λ n. (has_text c.args.self.now c.args.text.now ≡ true) × (n ≡ index_in c.args.self.now c.args.text.now)) next
    (subst (λ t. (has_text c.args.self.now t ≡ true) × (place + 1 ≡ index_in c.args.self.now t)) read
    (subst (λ ts. (has_text ts key.items ≡ true) × (place + 1 ≡ index_in ts key.items)) held
    (stands (λ k. k.items) texts place key at, ap (λ n. n + 1) (sym (place_at (λ k. k.items) texts distinct place key at)))))
