use Rattle.std.proofs.Common.{◌≡◌, ℕ, ◌<◌, ◌^◌, length, sym, subst}
use Rattle.std.specs.Prelude.{MatchOption, ⊤}
use Rattle.std.specs.List.{AllByRecursion}
use Rattle.pbf_wire.specs.declared.field.Payload.{Payload}
use Rattle.pbf_wire.specs.Payload.{content}
use Rattle.pbf_wire.specs.Columns.{content_numbers}
use Rattle.pbf_wire.proofs.ShortLemmas.{short_counted, short_below}
use Rattle.pbf_wire.proofs.short.count_if_small.Goals as goal

pub returns-in-Bytes : goal.returns-in-Bytes
returns-in-Bytes c =
    let r = c.count_short.result in
    let bytes = c.in-Bytes.bytes.now in
    record {
      counted = subst (λ (p : Payload). MatchOption r ⊤ (λ n. n ≡ length (content_numbers (content p)))) (sym c.in-Bytes.is) (short_counted r bytes c.count_short.ensures.short c.count_short.ensures.counted);
      small = subst (λ (p : Payload). MatchOption r ⊤ (λ _. AllByRecursion (λ (v : ℕ). v < 2 ^ 35) (content_numbers (content p)))) (sym c.in-Bytes.is) (short_below r bytes c.count_short.ensures.short);
    }
