-- The texts of the errors of options.
use Rattle.std.specs.Prelude.{◌≡◌, ℕ, List, Option, Some, None, codes}
use Rattle.dns_name.specs.declared.opt_error.BuildDataError.{BuildDataError}
use Rattle.dns_name.specs.declared.opt_error.BuildDataError.TheVariants.{LongOptData, WrongLength, ShortBuf, OutOfMemory as NoMemory}
use Rattle.dns_name.specs.declared.opt_error.LongOptData.{LongOptData as TooLong}

-- why an option wasn't added
abbrev pub build_text : BuildDataError → List ℕ
build_text LongOptData = codes "long option data"
build_text (WrongLength stated written) = codes "wrong option length"
build_text ShortBuf = codes "buffer size exceeded"
build_text NoMemory = codes "out of memory"

-- what is left of an error if the target has no limit
abbrev pub IsUnlimited : BuildDataError → Option TooLong → Type 0
IsUnlimited LongOptData result = result ≡ Some (record {})
IsUnlimited (WrongLength stated written) result = result ≡ None
IsUnlimited ShortBuf result = result ≡ None
IsUnlimited NoMemory result = result ≡ None
