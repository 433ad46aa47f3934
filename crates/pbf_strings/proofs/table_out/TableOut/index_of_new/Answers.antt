use Rattle.std.proofs.Common.{rules, ◌≡◌, ◌+◌, Ok, ap, sym, ◌∙◌, subst, true, false, is_some, map, arith}
use Rattle.std.specs.List.{list_any}
use Rattle.std.specs.declared.alloc.AllocError.{AllocError}
use Rattle.std.specs.Str.{bytes_eq}
use Rattle.pbf_strings.specs.TableOut.{GivesIndex, with_text, place_in, index_in, has_text}
use Rattle.pbf_strings.proofs.UsedTexts.{any_map, added, not_missing, place_found, place_is, place_with, text_named, recent_gives}
use Rattle.pbf_strings.proofs.table_out.TableOut.index_of_new.Goals as goal
use Rattle.pbf_strings.proofs.table_out.TableOut.index_of_new.Goals.{in-Some, in-None}

pub returns-in_default : goal.returns-in_default
returns-in_default g c =
    let keys = c.self.inside.texts.keys in
    let old = c.args.self.now in
    let text = c.args.text.now in
    elim c.match-get_index_of.branch [
      | in-Some w ↦
          let had : list_any (λ key. bytes_eq text key.items) keys ≡ true = sym c.get_index_of.ensures.found ∙ ap is_some w.in-Some.is in
          let there : has_text old text ≡ true = rw (← c.self.view_is) (any_map (λ k. k.items) text keys ∙ had) in
          let place : w.in-Some.place + 1 ≡ index_in old text = rw (← c.self.view_is) (ap (λ n. n + 1) (place_found (λ k. k.items) text keys w.in-Some.place (sym w.in-Some.is ∙ c.get_index_of.ensures.index))) in
          rw w.result-is (subst (λ ts. GivesIndex {E = AllocError} text old ts (Ok (w.in-Some.place + 1))) (sym c.self.view_is) (recent_gives old text (w.in-Some.place + 1) (there, place)))
      | in-None w ↦ rw w.result-is record {
        texts = tt;
        index = tt;
        named = tt;
        known = λ h. absurd (not_missing (λ k. k.items) text keys (sym c.get_index_of.ensures.found ∙ ap is_some w.in-None.is) (rw (← c.self.view_is) at h));
        err = c.self.view_is;
      }
    ]

pub returns-in_err-place : goal.returns-in_err-place
returns-in_err-place g c =
    let missing = subst (λ t. list_any (λ key. bytes_eq t key.items) c.self.inside.texts.keys ≡ false) c.in-Ok.ensures.items (c.in_err-place.ensures {u = tt}).absent in
    record {
      texts = search rules;
      index = search rules;
      named = search rules;
      known = λ h. absurd (not_missing (λ k. k.items) c.args.text.now c.self.inside.texts.keys missing (rw (← c.self.view_is) at h));
      err = search rules;
    }

pub returns : goal.returns
returns g c =
    let keys = c.self.inside.texts.keys in
    let old = c.args.self.now in
    let text = c.args.text.now in
    let ok = c.in_ok-place.ensures {u = tt} in
    let copied = c.in-Ok.ensures.items in
    let texts : map (λ k. k.items) c.insert_full.new.self.keys ≡ with_text old text = rw (← c.self.view_is) (rw ok.keys (added (λ k. k.items) text keys c.in-Ok.copy copied)) in
    let at : c.in_ok-place.place ≡ place_in old text = grind (arith, ok.index, c.self.view_is, place_is (λ k. k.items) c.in-Ok.copy.items keys, copied) in
    let index : 1 + c.in_ok-place.place ≡ index_in (map (λ k. k.items) c.insert_full.new.self.keys) text = grind (arith, at, texts, place_with old text) in
    record { texts = texts; index = index; named = rw (index, texts) (text_named old text); known = search rules; err = search rules }
