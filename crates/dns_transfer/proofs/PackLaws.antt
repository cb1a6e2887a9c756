-- The records of a transfer, packed one by one, and replies that have no room.
use Rattle.std.proofs.Common.{◌≡◌, ℕ, List, [], ◌∷◌, ◌++◌, map, refl, ap, sym, subst, ◌∙◌, arith, append-nil, Err}
use Rattle.std.specs.Prelude.{true}
use Rattle.std.specs.List.{filter}
use Rattle.std.proofs.lemmas.List.{map-append}
use Rattle.dns_base.specs.declared.draft.Section.TheVariants.{Answer}
use Rattle.dns_base.specs.declared.error.PushError.{PushError}
use Rattle.dns_base.specs.declared.error.PushError.TheVariants.{ShortBuf, OutOfMemory as NoMemory}
use Rattle.dns_base.specs.Built.{Built, PassesLimit, Pushes}
use Rattle.dns_base.specs.Builds.{Builds, unlimited, with_records}
use Rattle.dns_base.specs.Msg.{ResourceRecord}
use Rattle.dns_base.specs.Records.{record_of}
use Rattle.dns_base.proofs.BuildLaws.{wire_size}
use Rattle.dns_message.specs.declared.record.Record.{Record}
use Rattle.dns_zone.specs.Owned.{is_of}
use Rattle.dns_zone.specs.ZoneTurns.{zone_begun}
use Rattle.dns_zone.proofs.BuildLaws.{more_refused}
use Rattle.dns_transfer.specs.Packings.{Packing, packed}
use Rattle.dns_transfer.specs.Transfers.{bunched, is_no_soa, sent_records, transfer_message}

pub packed_whole : (rs : List Record) (p0 p1 p2 p3 : Packing) (all : List (List ResourceRecord)) → p0 ≡ record { done = []; current = [] } →
    ((rest : List ResourceRecord) → packed p1 rest ≡ packed p0 (map record_of (filter (is_of 6) rs) ++ rest)) →
    ((rest : List ResourceRecord) → packed p2 rest ≡ packed p1 (map record_of (filter is_no_soa rs) ++ rest)) →
    ((rest : List ResourceRecord) → packed p3 rest ≡ packed p2 (map record_of (filter (is_of 6) rs) ++ rest)) →
    all ≡ packed p3 [] → all ≡ bunched (sent_records rs)
packed_whole rs p0 p1 p2 p3 all b h1 h2 h3 a =
    let soa = filter (is_of 6) rs in
    let others = filter is_no_soa rs in
    let s = map record_of soa in
    let t = map record_of others in
    let joined : s ++ (t ++ (s ++ [])) ≡ map record_of (soa ++ (others ++ soa)) =
    ap (λ (x : List ResourceRecord). s ++ (t ++ x)) (append-nil s) ∙ sym (map-append record_of soa (others ++ soa) ∙ ap (λ (x : List ResourceRecord). s ++ x) (map-append record_of others soa)) in
    a ∙ (h3 [] ∙ (h2 (s ++ []) ∙ (h1 (t ++ (s ++ [])) ∙ (ap (λ (p : Packing). packed p (s ++ (t ++ (s ++ [])))) b ∙ ap bunched joined))))

pub bunch_refused : (o : List ℕ) (b : List ResourceRecord) (e : PushError) → Builds (unlimited (zone_begun o 0 true)) (Err e) → Builds (unlimited (transfer_message o b)) (Err e)
bunch_refused o b e h = more_refused (zone_begun o 0 true) (transfer_message o b) e (omega (arith, wire_size (zone_begun o 0 true), wire_size (transfer_message o b))) h

pub bunch_short : (o : List ℕ) (b : List ResourceRecord) (old new : Built) (e : PushError) → old ≡ unlimited (zone_begun o 0 true) → Pushes old new (with_records Answer old b) (Err e) → Builds (unlimited (transfer_message o b)) (Err e)
bunch_short o b old new ShortBuf i h =
    let k : with_records Answer old b ≡ unlimited (transfer_message o b) = ap (λ (c : Built). with_records Answer c b) i in
    subst PassesLimit k h.1
bunch_short o b old new NoMemory i h = tt
