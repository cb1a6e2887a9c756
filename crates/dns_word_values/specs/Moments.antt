-- Times of signatures (RFC 4034, section 3.2): seconds since 1970, or YYYYMMDDHHmmSS in fourteen digits.
use Rattle.std.specs.Prelude.{ℕ, ◌+◌, ◌-◌, ◌*◌, ◌/◌, ◌%◌, Bool, ◌&&◌, ◌||◌, not, List, length, take, drop, nat_eq, nat_lt, nat_le, if◌then◌else◌, Option, Some, None}
use Rattle.dns_word_values.specs.Values.{◌>>?◌, number_below}

-- of the Gregorian calendar
abbrev pub is_leap : ℕ → Bool
is_leap year = nat_eq (year % 4) 0 && (not (nat_eq (year % 100) 0) || nat_eq (year % 400) 0)

-- leap years up to this one
abbrev pub leap_years : ℕ → ℕ
leap_years year = year / 4 - year / 100 + year / 400

-- the days of a month, of which February has one more in a leap year
abbrev pub month_days : ℕ → ℕ → ℕ
month_days year month =
    if nat_eq month 2 then (if is_leap year then 29 else 28)
    else if nat_eq month 4 || (nat_eq month 6 || (nat_eq month 9 || nat_eq month 11)) then 30
    else 31

-- the days before a month, in a year of 365
abbrev pub days_before : ℕ → ℕ
days_before month =
    if nat_eq month 2 then 31
    else if nat_eq month 3 then 59
    else if nat_eq month 4 then 90
    else if nat_eq month 5 then 120
    else if nat_eq month 6 then 151
    else if nat_eq month 7 then 181
    else if nat_eq month 8 then 212
    else if nat_eq month 9 then 243
    else if nat_eq month 10 then 273
    else if nat_eq month 11 then 304
    else if nat_eq month 12 then 334
    else 0

-- the leap day of this year, if it came before the month
abbrev pub leap_day : ℕ → ℕ → ℕ
leap_day year month = if nat_lt 2 month && is_leap year then 1 else 0

-- the days from 1970, whose first is day 0; up to 1969 there were 477 leap years
abbrev pub days_since_1970 : ℕ → ℕ → ℕ → ℕ
days_since_1970 year month day = (365 * (year - 1970) + (leap_years (year - 1) - 477))
    + ((days_before month + leap_day year month) + (day - 1))

abbrev pub is_date : ℕ → ℕ → ℕ → Bool
is_date year month day = nat_le 1970 year && ((nat_le 1 month && nat_le month 12) && (nat_le 1 day && nat_le day (month_days year month)))

abbrev pub date_days : ℕ → ℕ → ℕ → Option ℕ
date_days year month day = if is_date year month day then Some (days_since_1970 year month day) else None

-- YYYYMMDD
unfoldable pub date_of : List ℕ → Option ℕ
date_of w = number_below 10000 (take 4 w) >>? λ year. number_below 100 (take 2 (drop 4 w)) >>? λ month.
    number_below 100 (drop 6 w) >>? λ day. date_days year month day

-- HHmmSS
unfoldable pub time_of : List ℕ → Option ℕ
time_of w = number_below 24 (take 2 w) >>? λ hour. number_below 60 (take 2 (drop 2 w)) >>? λ minute.
    number_below 60 (drop 4 w) >>? λ second. Some (3600 * hour + (60 * minute + second))

-- seconds of 32 bits, which wrap (RFC 1982)
unfoldable pub date_and_time : List ℕ → Option ℕ
date_and_time w = date_of (take 8 w) >>? λ days. time_of (drop 8 w) >>? λ seconds. Some ((86400 * days + seconds) % 4294967296)

abbrev pub moment : List ℕ → Option ℕ
moment w = if nat_eq (length w) 14 then date_and_time w else number_below 4294967296 w
