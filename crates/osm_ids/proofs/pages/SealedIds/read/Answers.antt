use Rattle.std.proofs.Common.{◌≡◌, length, ◌+◌, ◌*◌, take, drop, ap, ◌∙◌, arith, rules, w64}
use mir.Val.{SFits}
use Rattle.std.proofs.lemmas.Int.{to_z-of_z}
use Rattle.osm_ids.specs.declared.index.PageStart.{PageStart}
use Rattle.osm_ids.specs.Pages.{rising}
use Rattle.osm_ids.specs.Windows.{held}
use Rattle.osm_ids.proofs.Sealing.{sealed_now, begun, page_count, page_read, place_within, start_is}
use Rattle.osm_ids.proofs.pages.SealedIds.read.Goals as goal

pub index-start-requires : goal.index-start-requires
index-start-requires c = omega (arith, begun _ _ _ (sealed_now _ _ _ c.self.invariant.1 _ c.self.view_is) c.args.page c.requires, c.self.inside.index.ok.0)

pub overflow_add-page : goal.overflow_add-page
overflow_add-page c = let few = begun _ _ _ (sealed_now _ _ _ c.self.invariant.1 _ c.self.view_is) c.args.page c.requires in search (rules, few, c.self.inside.index.ok.0, c.self.inside.index.ok.1)

pub bytes_from-requires : goal.bytes_from-requires
bytes_from-requires c =
    let s = sealed_now _ _ _ c.self.invariant.1 _ c.self.view_is in
    omega (arith, place_within _ _ _ s c.args.page c.requires _ (ap (λ (a : PageStart). a.place) (c.index-start.ensures ∙ start_is _ _ _ s c.args.page c.requires _)), ap length c.deref.ensures.value)

-- its ids
ids : (c : goal.After-read) → held c.read.new.self ≡ take 128 (drop (128 * c.args.page) (rising c.args.self.now))
ids c =
    let s = sealed_now _ _ _ c.self.invariant.1 _ c.self.view_is in
    let start = c.index-start.result.now in
    let fits : SFits w64 start.first = search rules in
    let is = c.index-start.ensures ∙ start_is _ _ _ s c.args.page c.requires _ in
    let bytes = c.bytes_from.ensures ∙ ap (drop start.place) c.deref.ensures.value in
    page_read _ _ _ s c.args.page c.requires _ start.place _ (held c.read.new.self) (to_z-of_z w64 _ fits ∙ ap (λ (a : PageStart). a.first) is) (ap (λ (a : PageStart). a.place) is) bytes c.read.ensures.ids

pub returns-then-page-len : goal.returns-then-page-len
returns-then-page-len c =
    let s = sealed_now _ _ _ c.self.invariant.1 _ c.self.view_is in
    let next : SFits w64 c.index.result.now.first = search rules in
    let count = page_count _ _ _ s in
    record {
      held_is = ids c.before.before.before.before.before;
      within = c.read.ensures.count.1;
      next = λ lt. to_z-of_z w64 _ next ∙ ap (λ (a : PageStart). a.first) (c.index.ensures ∙ start_is _ _ _ s (c.args.page + 1) lt _);
      last = λ end. absurd (omega (arith, end, count, c.if-page-len.true, c.len.ensures, c.self.inside.index.ok.0));
    }

pub returns-else-page-len : goal.returns-else-page-len
returns-else-page-len c =
    let s = sealed_now _ _ _ c.self.invariant.1 _ c.self.view_is in
    record {
      held_is = ids c.before.before;
      within = c.read.ensures.count.1;
      next = λ lt. absurd (omega (arith, begun _ _ _ s (c.args.page + 1) lt, c.if-page-len.false, c.len.ensures, c.self.inside.index.ok.0));
      last = λ _. c.read.ensures.below;
    }
