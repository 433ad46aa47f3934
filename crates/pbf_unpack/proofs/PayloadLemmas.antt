-- The room that is tried first.
use Rattle.std.proofs.Common.{◌≡◌, ℕ, ◌-◌, ◌<◌, ◌≤◌, true, List, length, Option, Some, None, Ok, arith}
use Rattle.std.specs.Prelude.{is_none, IfNone}
use Rattle.pbf_wire.specs.declared.limits.TheConstants.{RAW_LIMIT}
use Rattle.zlib.specs.declared.fault.InflateFault.{InflateFault}
use Rattle.zlib.specs.Stream.{inflated}
use Rattle.zlib.proofs.LimitLemmas.{meaning_is_unique}
use Rattle.pbf_unpack.specs.Payloads.{IsMeaning}

-- what fits less room is the meaning with more
pub first_room_does : (room n : ℕ) (packed held : List ℕ) (o : Option InflateFault) → is_none o ≡ true → IsMeaning (inflated room packed) o held → IfNone o (n ≤ room) → room < RAW_LIMIT → n ≡ length held → inflated (RAW_LIMIT - 1) packed ≡ Ok held
first_room_does room n packed held None none exact short small same = meaning_is_unique room (RAW_LIMIT - 1) packed held exact (omega (arith, short, small, same))
first_room_does room n packed held (Some e) none exact short small same = (let bad : ⊥ = cc in absurd bad)
