-- Times as they are printed: milliseconds since 1970, or a date and a time of day in UTC.
use Rattle.std.specs.Prelude.{ℕ, zero, suc, ◌+◌, ◌/◌, ◌%◌, Bool, ◌&&◌, nat_lt, if◌then◌else◌, ℤ, pos, int_le, unsigned_abs, List, [], ◌∷◌, ◌++◌}
use Rattle.std.specs.Fmt.{signed_decimal}
use Rattle.jiff.specs.Words.{days_in_month}
use Rattle.osm_text.specs.declared.dates.Day.{Day}

-- ---- the calendar

-- the day that follows
abbrev pub day_after : Day → Day
day_after d =
    if nat_lt d.day (days_in_month (pos d.year) d.month) then record { year = d.year; month = d.month; day = d.day + 1 }
    else (if nat_lt d.month 12 then record { year = d.year; month = d.month + 1; day = 1 }
    else record { year = d.year + 1; month = 1; day = 1 })

-- the day that comes so many days after 1970-01-01
unfoldable pub day_number : ℕ → Day
day_number zero = record { year = 1970; month = 1; day = 1 }
day_number (suc n) = day_after (day_number n)

-- ---- the text

abbrev pub two_digits : ℕ → List ℕ
two_digits n = (48 + n / 10) ∷ (48 + n % 10) ∷ []

abbrev pub three_digits : ℕ → List ℕ
three_digits n = (48 + n / 100) ∷ two_digits (n % 100)

abbrev pub four_digits : ℕ → List ℕ
four_digits n = two_digits (n / 100) ++ two_digits (n % 100)

-- year, month and day, with `-` between
abbrev pub day_text : Day → List ℕ
day_text d = four_digits d.year ++ 45 ∷ [] ++ two_digits d.month ++ 45 ∷ [] ++ two_digits d.day

-- hours, minutes and seconds with `:` between, `.` and milliseconds, of the milliseconds since midnight
abbrev pub clock_text : ℕ → List ℕ
clock_text millis =
    two_digits (millis / 3_600_000) ++ 58 ∷ [] ++ two_digits (millis / 60_000 % 60) ++ 58 ∷ []
    ++ two_digits (millis / 1_000 % 60) ++ 46 ∷ [] ++ three_digits (millis % 1_000)

-- a day, `T`, a time of day and `Z`
abbrev pub utc_text : ℕ → List ℕ
utc_text millis = day_text (day_number (millis / 86_400_000)) ++ 84 ∷ [] ++ clock_text (millis % 86_400_000) ++ 90 ∷ []

-- dates are to be printed, and the time is one from 1970 to 2099
abbrev pub is_dated : Bool → ℤ → Bool
is_dated dates millis = dates && int_le (pos 0) millis && int_le millis (pos 4_102_444_799_999)

abbrev pub time_text : Bool → ℤ → List ℕ
time_text dates millis = if is_dated dates millis then utc_text (unsigned_abs millis) else signed_decimal millis
