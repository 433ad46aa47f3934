-- The calendar, day after day, is that of jiff's day numbers.
use Rattle.std.proofs.Common.{◌≡◌, ℕ, zero, suc, ◌+◌, ◌<◌, ◌≤◌, Bool, true, false, nat_lt, ℤ, pos, ◌+ℤ◌, ◌<ℤ◌, refl, sym, ap, ◌∙◌, arith, rules}
use Rattle.std.specs.Prelude.{if◌then◌else◌}
use Rattle.std.proofs.lemmas.Bool.Decides.{nat_tests}
use Rattle.jiff.specs.Types.{Date}
use Rattle.jiff.specs.Words.{epoch_day, days_in_month}
use Rattle.jiff.proofs.SpanFacts.{signed_arith}
use Rattle.jiff_core.proofs.CalendarLemmas.{days_from_civil-day_count, day_count-epoch}
use Rattle.jiff.proofs.Family.{epoch_day_injective, epoch_day_same, days_from_civil-day, days_from_civil-next_month, days_from_civil-next_year, days_from_civil-max}
use Rattle.osm_text.specs.declared.dates.Day.{Day}
use Rattle.osm_text.specs.Dates.{day_after, day_number}

-- the date is this day
abbrev pub IsDay : Date → Day → Type 0
IsDay t d = (t.year ≡ pos d.year) × (t.month ≡ d.month) × (t.day ≡ d.day)

-- a date that comes one day after this one, with these parts
abbrev pub Follows : Date → ℤ → ℕ → ℕ → Type 0
Follows t year month day = (next : Date) × (epoch_day next ≡ epoch_day t +ℤ pos 1) × (next.year ≡ year) × (next.month ≡ month) × (next.day ≡ day)

pub next_day : (t : Date) → t.day < days_in_month t.year t.month → Follows t t.year t.month (t.day + 1)
next_day t short =
    let next : Date = record { year = t.year; month = t.month; day = t.day + 1; year_in = t.year_in; month_in = t.month_in; day_in = (omega arith, omega arith) } in
    (next, omega (arith, signed_arith, days_from_civil-day t.year t.month (t.day + 1) t.day (omega arith) t.day_in.0), refl, refl, refl)

pub some_day : (y : ℤ) (m : ℕ) → 1 ≤ days_in_month y m
some_day y m = search rules

pub next_month : (t : Date) → days_in_month t.year t.month ≤ t.day → t.month < 12 → Follows t t.year (t.month + 1) 1
next_month t last early =
    let next : Date = record { year = t.year; month = t.month + 1; day = 1; year_in = t.year_in; month_in = (omega arith, omega arith); day_in = (omega arith, some_day t.year (t.month + 1)) } in
    (next, days_from_civil-next_month t.year t.month t.day t.month_in.0 (omega (arith, last, t.day_in.1)), refl, refl, refl)

last_date : Date
last_date = record { year = pos 9999; month = 12; day = 31; year_in = search rules; month_in = search rules; day_in = search rules }

-- a date before the last one, on 31 December
pub next_year : (t : Date) → t.month ≡ 12 → t.day ≡ 31 → epoch_day t <ℤ pos 2_932_896 → Follows t (t.year +ℤ pos 1) 1 1
unfolding last_date
next_year t december end before =
    let low : ¬ (t.year ≡ pos 9999) = λ e. omega (arith, signed_arith, before, epoch_day_same t last_date e december end, days_from_civil-max) in
    let next : Date = record { year = t.year +ℤ pos 1; month = 1; day = 1; year_in = omega (arith, signed_arith, t.year_in, low); month_in = search rules; day_in = search rules } in
    (next, rw (december, end) (days_from_civil-next_year t.year (t.year +ℤ pos 1) (omega (arith, signed_arith, t.year_in)) refl), refl, refl, refl)

-- 1970-01-01 has the number 0
epoch : Date
epoch = record { year = pos 1970; month = 1; day = 1; year_in = search rules; month_in = search rules; day_in = search rules }

pub first_day : (t : Date) → t.year ≡ pos 1970 → t.month ≡ 1 → t.day ≡ 1 → epoch_day t ≡ pos 0
unfolding epoch
first_day t year month day = epoch_day_same t epoch year month day ∙ omega (arith, signed_arith, days_from_civil-day_count (pos 1970) 1 1, day_count-epoch)

-- a date that is the day d has one that is the day after it
abbrev pub DayAfter : Date → Day → Type 0
DayAfter t d = (next : Date) × (epoch_day next ≡ epoch_day t +ℤ pos 1) × IsDay next d

within : (t : Date) (d : Day) → IsDay t d → nat_lt d.day (days_in_month (pos d.year) d.month) ≡ true → t.day < days_in_month t.year t.month
within t d is e = rw (is.0, is.1, is.2) (grind (arith, nat_tests, e))

past : (t : Date) (d : Day) → IsDay t d → nat_lt d.day (days_in_month (pos d.year) d.month) ≡ false → days_in_month t.year t.month ≤ t.day
past t d is e = rw (is.0, is.1, is.2) (grind (arith, nat_tests, e))

early : (t : Date) (d : Day) → IsDay t d → nat_lt d.month 12 ≡ true → t.month < 12
early t d is e = rw is.1 (grind (arith, nat_tests, e))

december : (t : Date) (d : Day) → IsDay t d → nat_lt d.month 12 ≡ false → t.month ≡ 12
december t d is e = let late : 12 ≤ d.month = grind (arith, nat_tests, e) in omega (arith, late, is.1, t.month_in.1)

last_of_december : (t : Date) → t.month ≡ 12 → days_in_month t.year t.month ≤ t.day → t.day ≡ 31
last_of_december t month last =
    let low = rw month at last in
    let high = rw month at t.day_in.1 in
    omega (arith, low, high)

pub day_follows : (t : Date) (d : Day) → IsDay t d → epoch_day t <ℤ pos 2_932_896 → DayAfter t (day_after d)
day_follows t d is before = in_month (nat_lt d.day (days_in_month (pos d.year) d.month)) refl where
  in_year : nat_lt d.day (days_in_month (pos d.year) d.month) ≡ false → (b : Bool) → nat_lt d.month 12 ≡ b
      → DayAfter t (if b then record { year = d.year; month = d.month + 1; day = 1 } else record { year = d.year + 1; month = 1; day = 1 })
  in_year last true e =
      let next = next_month t (past t d is last) (early t d is e) in
      (next.0, next.1, (next.2 ∙ is.0, next.3 ∙ ap (λ (k : ℕ). k + 1) is.1, next.4))
  in_year last false e =
      let month = december t d is e in
      let next = next_year t month (last_of_december t month (past t d is last)) before in
      (next.0, next.1, (next.2 ∙ ap (λ (y : ℤ). y +ℤ pos 1) is.0, next.3, next.4))

  in_month : (b : Bool) → nat_lt d.day (days_in_month (pos d.year) d.month) ≡ b
      → DayAfter t (if b then record { year = d.year; month = d.month; day = d.day + 1 } else (if nat_lt d.month 12 then record { year = d.year; month = d.month + 1; day = 1 } else record { year = d.year + 1; month = 1; day = 1 }))
  in_month true e =
      let next = next_day t (within t d is e) in
      (next.0, next.1, (next.2 ∙ is.0, next.3 ∙ is.1, next.4 ∙ ap (λ (k : ℕ). k + 1) is.2))
  in_month false e = in_year e (nat_lt d.month 12) refl

one_more : (a b : ℤ) (n : ℕ) → b ≡ a +ℤ pos 1 → a ≡ pos n → b ≡ pos (suc n)
one_more a b n e f = omega (arith, signed_arith, e, f)

-- the date with the number n, as far as jiff has dates
days : (n : ℕ) → n ≤ 2_932_896 → (t : Date) × (epoch_day t ≡ pos n) × IsDay t (day_number n)
unfolding epoch day_number
days zero low = (epoch, first_day epoch refl refl refl, (refl, refl, refl))
days (suc n) low =
    let before = days n (omega (arith, low)) in
    let next = day_follows before.0 (day_number n) before.2 (rw before.1 (omega (arith, signed_arith, low))) in
    (next.0, one_more _ _ n next.1 before.1, next.2)

-- so the date with this number is that day
pub date_is_day : (n : ℕ) (t : Date) → n ≤ 2_932_896 → epoch_day t ≡ pos n → IsDay t (day_number n)
date_is_day n t low e =
    let known = days n low in
    let same = epoch_day_injective t known.0 (e ∙ sym known.1) in
    (same.0 ∙ known.2.0, same.1 ∙ known.2.1, same.2 ∙ known.2.2)
