-- The lines of settings in range read hosts these settings.
use Rattle.std.proofs.Common.{◌≡◌, ℕ, Bool, List, [], ◌∷◌, ◌++◌, map, Option, Some, None, refl, ap, sym, ◌∙◌, arith, rules, append_assoc}
use Rattle.std.specs.Prelude.{IfSome, Ok, codes}
use Rattle.std.specs.List.{AllByRecursion}
use Rattle.std.proofs.lemmas.List.Elements.{recursion_from_All}
use Rattle.dns_name.specs.declared.address.IpAddr.{IpAddr}
use Rattle.dns_events.specs.Config.{Dgram, IsDgram, IsStream, Stream}
use Rattle.dns_trace.proofs.Addresses.{addr_back, address_is_word}
use Rattle.dns_trace.proofs.Configs.{budget_are_words, budget_back, budget_of, budgeted_back, dgram_are_words, dgram_back, stream_are_words, stream_back, without_budget, yes_no_back, yes_no_word}
use Rattle.dns_trace.proofs.Folded.{AllSay, said_append, said_by, say_append}
use Rattle.dns_trace.proofs.Hexes.{hex_word, secret_back}
use Rattle.dns_trace.proofs.Names.{named}
use Rattle.dns_trace.specs.BudgetLine.{budget_line}
use Rattle.dns_trace.specs.DgramLine.{dgram_line}
use Rattle.dns_trace.specs.InRange.{IsAddress, IsOctets, IsSettings}
use Rattle.dns_trace.specs.Said.{Said, nothing_said, settings_said}
use Rattle.dns_trace.specs.SettingLines.{denied_of, deny_line, edns_line, first_budget_line, first_dgram_line, first_stream_line, secret_line, strict_line}
use Rattle.dns_trace.specs.Spelling.{yes_no}
use Rattle.dns_trace.specs.StreamLine.{stream_line}
use Rattle.dns_trace.specs.Trace.{budget_words, config_lines, deny_words, dgram_words, secret_lines, settings_lines, stream_words}
use Rattle.dns_trace.specs.Traced.{TraceSaid, next_setting, trace_line}
use Rattle.dns_events.specs.declared.settings.Settings.{Settings}

-- settings are said, and no event
abbrev pub only_said : Said → TraceSaid
only_said p = record { settings = p; events = [] }

strict_step : (p : Said) (b : Bool) → p.strict ≡ None → trace_line (only_said p) (codes "strict" ∷ yes_no b ∷ []) ≡ Ok (only_said (record p { strict = Some b }))
unfolding next_setting strict_line
strict_step p b h = rw (h, yes_no_back b) refl

edns_step : (p : Said) (b : Bool) → p.edns ≡ None → trace_line (only_said p) (codes "edns" ∷ yes_no b ∷ []) ≡ Ok (only_said (record p { edns = Some b }))
unfolding next_setting edns_line
edns_step p b h = rw (h, yes_no_back b) refl

secret_said : (p : Said) (o : Option (List ℕ)) → p.secret ≡ None → IfSome o (IsOctets 16) → said_by trace_line (only_said p) (secret_lines o) ≡ Ok (only_said (record p { secret = o }))
unfolding next_setting secret_line
secret_said p None h k = ap (λ (o : Option (List ℕ)). Ok (only_said (record p { secret = o }))) h
secret_said p (Some o) h k = rw (h, secret_back o k.0 k.1) refl

deny_step : (p : Said) (a : IpAddr) → IsAddress a → trace_line (only_said p) (deny_words a) ≡ Ok (only_said (record p { denied = p.denied ++ a ∷ [] }))
unfolding next_setting deny_line denied_of
deny_step p a h = rw (addr_back a h) refl

none_more : (p : Said) → p.denied ++ [] ≡ p.denied
none_more p = search rules

denied_said : (hosts : List IpAddr) (p : Said) → AllByRecursion IsAddress hosts → said_by trace_line (only_said p) (map deny_words hosts) ≡ Ok (only_said (record p { denied = p.denied ++ hosts }))
denied_said [] p h = ap (λ (d : List IpAddr). Ok (only_said (record p { denied = d }))) (sym (none_more p))
denied_said (a ∷ hosts) p h =
    rw (deny_step p a h.0)
    (denied_said hosts (record p { denied = p.denied ++ a ∷ [] }) h.1
    ∙ ap (λ (d : List IpAddr). Ok (only_said (record p { denied = d }))) (append_assoc p.denied (a ∷ []) hosts))

dgram_step : (p : Said) (d : Dgram) → p.dgram ≡ None → IsDgram d → trace_line (only_said p) (codes "dgram" ∷ dgram_words d) ≡ Ok (only_said (record p { dgram = Some d }))
unfolding next_setting first_dgram_line dgram_line
dgram_step p d h k = rw (h, dgram_back d (codes "dgram" ∷ dgram_words d) 1 k refl refl) refl

stream_step : (p : Said) (s : Stream) → p.stream ≡ None → IsStream s → trace_line (only_said p) (codes "stream" ∷ stream_words s) ≡ Ok (only_said (record p { stream = Some (without_budget s) }))
unfolding next_setting first_stream_line stream_line
stream_step p s h k =
    rw (h, stream_back s (codes "stream" ∷ stream_words s) 1 k (record { idle = refl; write = refl; queue = refl; limit = refl; accepts = refl })) refl

budget_step : (p : Said) (s : Stream) → p.budget ≡ None → IsStream s → trace_line (only_said p) (codes "budget" ∷ budget_words s.connection_config) ≡ Ok (only_said (record p { budget = Some (budget_of s.connection_config) }))
unfolding next_setting first_budget_line budget_line
budget_step p s h k = rw (h, budget_back s.connection_config (codes "budget" ∷ budget_words s.connection_config) 1 k.connection_config refl refl) refl

-- what lines said, with configurations
abbrev with_configs : Said → Settings → Said
with_configs p s = record p { dgram = Some s.dgram; stream = Some (without_budget s.stream); budget = Some (budget_of s.stream.connection_config) }

configs_said : (p : Said) (s : Settings) → p.dgram ≡ None → p.stream ≡ None → p.budget ≡ None → IsSettings s
    → said_by trace_line (only_said p) (config_lines s) ≡ Ok (only_said (with_configs p s))
configs_said p s d t b h =
    let p1 = record p { dgram = Some s.dgram } in
    let p2 = record p1 { stream = Some (without_budget s.stream) } in
    rw (dgram_step p s.dgram d h.dgram, stream_step p1 s.stream t h.stream, budget_step p2 s.stream b h.stream) refl

-- all that the lines of settings say
abbrev pub whole_said : Settings → Said
whole_said s = record {
  strict = Some s.strict;
  edns = Some s.edns;
  secret = s.cookies;
  denied = s.denied;
  dgram = Some s.dgram;
  stream = Some (without_budget s.stream);
  budget = Some (budget_of s.stream.connection_config);
}

pub settings_back : (s : Settings) → IsSettings s → said_by trace_line (only_said nothing_said) (settings_lines s) ≡ Ok (only_said (whole_said s))
settings_back s h =
    let p1 = record nothing_said { strict = Some s.strict } in
    let p2 = record p1 { edns = Some s.edns } in
    let p3 = record p2 { secret = s.cookies } in
    let p4 = record p3 { denied = s.denied } in
    rw (strict_step nothing_said s.strict refl, edns_step p1 s.edns refl)
    (said_append trace_line (secret_lines s.cookies) (map deny_words s.denied ++ config_lines s) (only_said p2) (only_said p3) (secret_said p2 s.cookies refl h.cookies)
    ∙ said_append trace_line (map deny_words s.denied) (config_lines s) (only_said p3) (only_said p4) (denied_said s.denied p3 (recursion_from_All IsAddress s.denied h.denied))
    ∙ configs_said p4 s refl refl refl h)

pub settings_whole : (s : Settings) → IsSettings s → settings_said (whole_said s) ≡ s
settings_whole s h = ap (λ (t : Stream). record s { stream = t }) (budgeted_back s.stream h.stream)

-- ---- the words of the lines

secret_say : (o : Option (List ℕ)) → IfSome o (IsOctets 16) → AllSay (secret_lines o)
secret_say None h = tt
secret_say (Some o) h = ((named (codes "secret") refl (omega arith), (hex_word o (omega (arith, h.0)) h.1, tt)), refl, tt)

deny_say : (hosts : List IpAddr) → AllByRecursion IsAddress hosts → AllSay (map deny_words hosts)
deny_say [] h = tt
deny_say (a ∷ hosts) h = ((named (codes "deny") refl (omega arith), (address_is_word a h.0, tt)), refl, deny_say hosts h.1)

configs_say : (s : Settings) → IsSettings s → AllSay (config_lines s)
configs_say s h = (
  (named (codes "dgram") refl (omega arith), dgram_are_words s.dgram h.dgram),
  refl,
  (
    (named (codes "stream") refl (omega arith), stream_are_words s.stream h.stream),
    refl,
    ((named (codes "budget") refl (omega arith), budget_are_words s.stream.connection_config h.stream.connection_config), refl, tt),
  ),
)

pub settings_say : (s : Settings) → IsSettings s → AllSay (settings_lines s)
settings_say s h = (
  (named (codes "strict") refl (omega arith), (yes_no_word s.strict, tt)),
  refl,
  (
    (named (codes "edns") refl (omega arith), (yes_no_word s.edns, tt)),
    refl,
    say_append (secret_lines s.cookies) (map deny_words s.denied ++ config_lines s) (secret_say s.cookies h.cookies)
        (say_append (map deny_words s.denied) (config_lines s) (deny_say s.denied (recursion_from_All IsAddress s.denied h.denied)) (configs_say s h)),
  ),
)
