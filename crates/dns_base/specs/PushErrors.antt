-- A refused push: its text, and what it is as the refusal of an option, the variant of the same name.
use Rattle.std.specs.Prelude.{ℕ, List, codes}
use Rattle.dns_name.specs.declared.opt_error.BuildDataError.{BuildDataError}
use Rattle.dns_name.specs.declared.opt_error.BuildDataError.TheVariants.{ShortBuf as ShortBuild, OutOfMemory as NoBuildMemory}
use Rattle.dns_base.specs.declared.error.PushError.{PushError}
use Rattle.dns_base.specs.declared.error.PushError.TheVariants.{ShortBuf, OutOfMemory}

abbrev pub build_error : PushError → BuildDataError
build_error ShortBuf = ShortBuild
build_error OutOfMemory = NoBuildMemory

abbrev pub push_error_text : PushError → List ℕ
push_error_text ShortBuf = codes "message size exceeded"
push_error_text OutOfMemory = codes "out of memory"
