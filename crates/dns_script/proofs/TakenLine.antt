-- A value that is kept if a line was taken.
use Rattle.std.specs.Prelude.{Result, Ok, Err}
use Rattle.std.specs.Result.{result_and}
use Rattle.dns_trace.specs.Reading.{GivesLine, TakesLine}
use Rattle.dns_trace.specs.declared.reason.LineError.{LineError}
use Rattle.dns_trace.specs.declared.reason.Reason.{Reason}

pub kept_line : {A : Type 0} (x : A) (looked : Result (Unit {0}) LineError) (read : Result A Reason) → TakesLine looked x read → GivesLine (λ y. y) (result_and looked (Ok x)) read
kept_line x (Ok u) read h = h
kept_line x (Err e) read h = h
