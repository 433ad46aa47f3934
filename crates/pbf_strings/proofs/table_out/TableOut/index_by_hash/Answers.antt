use Rattle.std.proofs.Common.{arith, rules, ◌≡◌, ◌+◌, ap, sym, ◌∙◌, is_some}
use Rattle.pbf_strings.specs.TableOut.{with_text, place_in, index_in}
use Rattle.pbf_strings.proofs.UsedTexts.{kept, added, not_missing, place_found, place_is, place_with, text_named}
use Rattle.pbf_strings.proofs.table_out.TableOut.index_by_hash.Goals as goal
use Rattle.pbf_strings.proofs.table_out.TableOut.index_by_hash.Goals.{in-Some, in-None+in_ok-text-in-None+in_ok-index-in-None}

pub returns : goal.returns
returns g c =
    let keys = c.self.inside.texts.keys in
    let old = c.args.self.now in
    let text = c.args.text.now in
    let texts : c.match-get_index_of.self ≡ with_text old text = elim c.match-get_index_of.branch [
      | in-Some w ↦ grind (arith, w.self-is, c.self.view_is, kept (λ k. k.items) text keys (sym c.get_index_of.ensures.found ∙ ap is_some w.in-Some.is))
      | in-None+in_ok-text-in-None+in_ok-index-in-None w ↦
          rw (w.self-is, ← c.self.view_is, w.in_ok-index-in-None.ensures.keys) (added (λ k. k.items) text keys w.in_ok-text-in-None.text w.in_ok-text-in-None.ensures.items)
    ] in
    let found : c.match-get_index_of.index ≡ place_in old text = elim c.match-get_index_of.branch [
      | in-Some w ↦ grind (arith, w.index-is, c.self.view_is, place_found (λ k. k.items) text keys w.in-Some.index (sym w.in-Some.is ∙ c.get_index_of.ensures.index))
      | in-None+in_ok-text-in-None+in_ok-index-in-None w ↦ grind (arith, w.index-is, c.self.view_is, w.in_ok-index-in-None.ensures.index, place_is (λ k. k.items) w.in_ok-text-in-None.text.items keys, w.in_ok-text-in-None.ensures.items)
    ] in
    let index : c.match-get_index_of.index + 1 ≡ index_in c.match-get_index_of.self text = grind (arith, found, texts, place_with old text) in
    record { texts = texts; index = index; named = rw (index, texts) (text_named old text); known = search rules; err = search rules }

pub returns-in_err-text-in-None : goal.returns-in_err-text-in-None
returns-in_err-text-in-None g c = record {
  texts = search rules;
  index = search rules;
  named = search rules;
  known = λ h. absurd (not_missing (λ k. k.items) c.args.text.now c.self.inside.texts.keys (sym c.get_index_of.ensures.found ∙ ap is_some c.in-None.is) (rw (← c.self.view_is) at h));
  err = search rules;
}

pub returns-in_err-index-in-None : goal.returns-in_err-index-in-None
returns-in_err-index-in-None g c = record {
  texts = search rules;
  index = search rules;
  named = search rules;
  known = λ h. absurd (not_missing (λ k. k.items) c.args.text.now c.self.inside.texts.keys (sym c.get_index_of.ensures.found ∙ ap is_some c.in-None.is) (rw (← c.self.view_is) at h));
  err = search rules;
}
