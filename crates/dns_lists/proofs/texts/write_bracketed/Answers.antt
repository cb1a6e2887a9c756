use Rattle.std.proofs.Common.{rules, ◌≡◌, true, false, sym}
use Rattle.std.proofs.Output.{writes_in_calls_nil}
use Rattle.std.proofs.lemmas.Str.{is_utf8-from_IsUtf8, IsUtf8-from_is_utf8}
use Rattle.std.specs.Str.{is_utf8}
use Rattle.dns_lists.proofs.Each.{not_true}
use Rattle.dns_lists.proofs.texts.write_bracketed.Goals as goal

pub returns-in-Ok : goal.returns-in-Ok
returns-in-Ok g c =
    let text : is_utf8 c.args.octets.now ≡ true = is_utf8-from_IsUtf8 c.args.octets.now c.in-Ok.ensures.cases.1 in
    rw (text, sym c.in-Ok.ensures.cases.0) (search rules)

pub returns-in-Err : goal.returns-in-Err
returns-in-Err g c = λ plain _.
    let none : is_utf8 c.args.octets.now ≡ false = not_true (is_utf8 c.args.octets.now) (λ h. c.in-Err.ensures.cases.0 (IsUtf8-from_is_utf8 c.args.octets.now h)) in
    rw none (record { wrote = writes_in_calls_nil _ _; plain = plain })
